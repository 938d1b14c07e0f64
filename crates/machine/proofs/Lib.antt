-- The laws by which everything above uses the definitions: lists and searches, what one more step does to a search, the step table as turns,
-- what goes by the kind, an effect by its cases, the record by its steps, a step by what the schedule names, the bounds of every cell, and counts of steps.
pub mod Lists
pub mod Searches
pub mod Stamps
pub mod Turns
pub mod ByKind
pub mod Effected
pub mod Placed
pub mod Slots
pub mod Returns
pub mod Bounds
pub mod Tallies
