-- What fixes the number in a field, the printed number and its text.
pub mod Distances
pub mod Fields
pub mod Rounding
pub mod Printing
pub mod Numerals
