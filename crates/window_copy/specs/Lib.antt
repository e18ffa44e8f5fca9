-- Values copied into a list.
pub mod Copied
