-- The block of a job file, after document 01, "Job files".
pub mod Block
pub mod Checked
