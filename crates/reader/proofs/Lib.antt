-- Laws of joining blocks and of what a read leaves.
pub mod Joining
pub mod Decided
pub mod Loading
pub mod Left
