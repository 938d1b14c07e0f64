-- Rows in one list, and what the rows of operations and of nodes hold.
pub mod Rows
pub mod Operations
pub mod Nodes
