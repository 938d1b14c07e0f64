-- Laws of the small tools: nothing outside of these files opens `pick`, `same`, `less` or `upd`.
pub mod Choice
pub mod Maps
pub mod Words
pub mod Text
pub mod Laid
pub mod Bytes
