-- Words written into a list.
pub mod Stored
