-- Laws of laying bytes, and of the functions that write them on a page.
pub mod Laid
pub mod Pages
pub mod Digits
pub mod Each
pub mod Rest
