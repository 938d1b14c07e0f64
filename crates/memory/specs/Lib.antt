-- What is laid over the front of a memory.
pub mod Over
