-- Laws of windows: what is claimed of them, and a job without a block.
pub mod Claimed
pub mod Nothing
