-- Entries by the lanes; starts of the parts; the heads of the pipes.
pub mod Entries
pub mod Starts
pub mod Heads
