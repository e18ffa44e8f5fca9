-- Firing as a function of a state's words, and that it is document 01's.
pub mod Firing
pub mod FiringMeaning
