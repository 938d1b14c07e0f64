-- What the run of a job promises.
pub mod Promise
