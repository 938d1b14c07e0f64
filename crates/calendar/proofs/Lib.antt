-- Laws of the calendar: a computed test over the first numbers, years, months, dates, month starts and weekdays.
pub mod Below
pub mod Years
pub mod Months
pub mod Dates
pub mod Starts
pub mod Century
pub mod Weekdays
pub mod Counted
