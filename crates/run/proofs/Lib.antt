-- What the run's loop keeps, step by step.
pub mod Bounds
pub mod Places
pub mod Turned
pub mod Dropped
pub mod Loop
pub mod Settled
