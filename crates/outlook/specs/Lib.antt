-- The answers of a stream.
pub mod Outlooks
