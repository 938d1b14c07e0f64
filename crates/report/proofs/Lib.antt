-- What every run is known to do, as far as its report needs it, and the texts that the rows give.
pub mod Facts
pub mod Endings
pub mod Operations
pub mod Found
pub mod Climb
pub mod Left
pub mod Whole
