-- What a store in a row does to its column and to the others.
pub mod Rows
pub mod Operations
pub mod Nodes
