-- What a step stores in the journal, and what the journal of a run holds.
pub mod Stored
pub mod Journal
