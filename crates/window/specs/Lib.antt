-- A pipe looked for by its number; a pipe's part of the lists, and the call.
pub mod Search
pub mod Pieces
