-- Streams of few elements, where each stream's elements begin, and that an accepted description has such streams.
pub mod Counts
pub mod Few
