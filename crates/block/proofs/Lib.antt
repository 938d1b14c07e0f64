-- Laws of blocks and their sums.
pub mod AddBytes
pub mod Refusal
pub mod Sizes
pub mod Given
pub mod Made
pub mod Accepted
