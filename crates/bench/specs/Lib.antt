-- How the exported calls give their number and length.
pub mod Packed
