-- Small tools of the other crates' definitions: choosing, comparing, reading a list as a function, and texts as bytes.
pub mod Choice
pub mod Maps
pub mod Words
pub mod Text
pub mod Bytes
