-- Laws of the writer's numbers and of laying blocks.
pub mod Decided
pub mod Laying
pub mod Written
