-- What each arm of the dispatch on accesses leaves.
pub mod Arms
