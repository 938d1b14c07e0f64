-- What the reader's own functions leave for one another.
pub mod Loaded
