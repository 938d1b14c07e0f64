-- Where an operation begins, and the search for the next one.
pub mod Hands
