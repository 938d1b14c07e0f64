-- The Gregorian calendar, as far as a window's weekday needs it: years, months, dates and weekdays, each by counting; month starts by a formula.
pub mod Years
pub mod Months
pub mod Dates
pub mod Starts
pub mod Weekdays
pub mod Named
pub mod Rows
