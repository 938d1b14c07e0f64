-- Laws of the salvage's loop, of shortening in place, and of what is answered.
pub mod Gathering
pub mod InPlace
pub mod Decided
pub mod Answered
