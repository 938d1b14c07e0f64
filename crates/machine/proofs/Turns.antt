-- The step table as relations, an object a file.
pub mod Locals
pub mod Queue
pub mod Stack
pub mod TwoWay
