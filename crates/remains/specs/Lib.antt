-- What remains of a spoiled file, after document 02, request 7.
pub mod Kept
pub mod Salvage
pub mod Looked
pub mod Claims
pub mod Line
pub mod Rows
