-- What decoding is proved with, and what it gives: the ranges of a description that no refusal from 1 to 5 meets.
pub mod Offsets
pub mod Filled
pub mod Ranges
pub mod Refusals
pub mod Ranged
