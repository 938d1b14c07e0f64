-- Shut steps made idle in a stream: who may act in a minute of the run, what an entry becomes, and what is promised of the stream.
pub mod Minutes
pub mod Eight
pub mod Rewritten
pub mod Entries
