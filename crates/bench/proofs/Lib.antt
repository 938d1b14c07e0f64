-- Lengths that fit their half of a packed answer, and a salvage's answer with its length alone.
pub mod Lengths
pub mod Given
