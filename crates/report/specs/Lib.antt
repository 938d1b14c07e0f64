-- What stands at a step, what a run leaves for its report, and what a report leaves.
pub mod Found
pub mod Reported
