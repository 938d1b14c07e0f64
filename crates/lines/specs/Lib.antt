-- The line of an operation and the line of a step, as the rows of a run's outcome hold them.
pub mod Told
pub mod Members
pub mod Lines
pub mod Rows
pub mod Walks
