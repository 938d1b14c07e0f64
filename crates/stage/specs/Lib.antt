-- What a report prints of a stage: what its field says, the whole centimetres, their text, and what that text says to a reader.
pub mod Millimetres
pub mod Centimetres
pub mod Printed
pub mod Numerals
