-- Laws of windows by the minute, of lists of eight, of stretches of bytes, and of a stream with its shut entries idle.
pub mod Weekdays
pub mod Minutes
pub mod Sums
pub mod Eight
pub mod Rewritten
pub mod Part
pub mod Entries
pub mod Stretch
pub mod Turns
pub mod Promised
