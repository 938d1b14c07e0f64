-- Text written into lent memory.
pub mod Laid
pub mod Pages
