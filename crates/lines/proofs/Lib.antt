-- Laws of the texts of a report: the pieces that the code writes are the lines that the definitions give.
pub mod Pieces
pub mod Spaced
pub mod Nodes
pub mod Bounds
