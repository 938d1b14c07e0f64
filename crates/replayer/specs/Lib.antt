-- What a replay gives and leaves, for all arguments.
pub mod Replay
