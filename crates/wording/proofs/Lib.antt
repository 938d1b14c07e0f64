-- How an operation's end reads, how long a report is, and the tables of traces.
pub mod Endings
pub mod Sizes
pub mod TracesProved
