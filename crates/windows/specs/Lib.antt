-- The window block: its fields, and when it is turned back.
pub mod Fields
pub mod Entry
pub mod Refused
pub mod Fine
pub mod Examples
pub mod TurnedBack
