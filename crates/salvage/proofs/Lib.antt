-- What the program says.
pub mod Line
