-- Row numbers along a vector; lanes by numbers; what they hold of a stream's pipes; those of all streams; what a stream's way needs.
pub mod Along
pub mod Lanes
pub mod Held
pub mod Flow
pub mod All
pub mod Accepted
