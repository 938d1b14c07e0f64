-- What the theory says beside demand 3: of lost rounds, of entries cut out, and of a schedule cut short.
pub mod Bounded
pub mod Cut
pub mod Short
