-- Laws of what is laid over a memory.
pub mod Over
