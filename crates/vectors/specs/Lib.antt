-- Bounds of vectors.
pub mod Within
