-- What the journal's stores do to cells read as functions.
pub mod Stores
pub mod Kept
pub mod Whole
