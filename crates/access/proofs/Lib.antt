-- What a cell that was read tells of the test on it.
pub mod Cells
