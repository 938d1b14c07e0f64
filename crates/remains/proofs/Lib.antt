-- Laws of what is kept, and the claims.
pub mod Leading
pub mod Conditions
pub mod Unmet
pub mod AllButCount
pub mod Front
pub mod Looked
pub mod Undamaged
pub mod Proper
pub mod SameAnswers
