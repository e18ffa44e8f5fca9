-- Calls in words, and demand 3 of what they leave; src/lib.rt has more.
pub mod Play
