-- Sums over entries; sums over streams.
pub mod Sums
pub mod Shares
