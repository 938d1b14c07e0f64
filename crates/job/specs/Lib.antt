-- Job files and the job in them, after document 01, "Job files" and "Where a job is turned back".
pub mod Limits
pub mod Answer
pub mod Stream
pub mod Slot
pub mod Kind
pub mod Refusals
pub mod File
pub mod Calls
pub mod Job
pub mod Idle
pub mod Ready
pub mod RoundTrip
pub mod Examples
pub mod TurnedBack
