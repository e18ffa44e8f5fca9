-- Send and receive as functions of a state's words, and that they are document 01's.
pub mod Moves
pub mod MovesMeaning
