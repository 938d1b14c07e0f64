-- What a salvage answers, and what a stream's salvage gives, as the code has it.
pub mod Given
pub mod Saved
