-- The report as text, and the tables of traces.
pub mod Report
pub mod WindowTraces
pub mod CutTraces
pub mod Traces
