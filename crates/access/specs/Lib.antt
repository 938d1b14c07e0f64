-- How the code holds shared memory and registers, and what it means that an access was done there.
pub mod Nodes
pub mod View
