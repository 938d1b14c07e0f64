-- Transmission windows: when a step is open, what the request's sentences say of that, and the job with its shut steps idle.
pub mod Open
pub mod Claims
pub mod Windowed
pub mod Edges
