-- The step table by position.
pub mod Position
