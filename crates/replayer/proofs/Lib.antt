-- From an accepted file to its job's run and report.
pub mod Fresh
pub mod Short
pub mod Owned
pub mod Replied
