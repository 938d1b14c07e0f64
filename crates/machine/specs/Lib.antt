-- Document 01 as definitions, in its order: the two machines, the steps, where an effect stands, the record, and what demand 3 says
-- of it; and the rounds that a queue loses.
pub mod Multiplicity
pub mod Memory
pub mod Table
pub mod Access
pub mod Run
pub mod Notes
pub mod Journal
pub mod Drops
pub mod Idle
pub mod Effects
pub mod Record
pub mod Left
pub mod Explained
pub mod Lost
