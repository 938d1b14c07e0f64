-- Where a process stands once its step is made.
pub mod Place
