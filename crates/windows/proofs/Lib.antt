-- Laws of the window block: what is known of one that is not turned back.
pub mod Any
pub mod Tests
pub mod Fine
