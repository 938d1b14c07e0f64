-- What the programs read and say.
pub mod Counts
pub mod Said
