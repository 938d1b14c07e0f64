-- What the step of a place needs, and what it promises.
pub mod Promise
