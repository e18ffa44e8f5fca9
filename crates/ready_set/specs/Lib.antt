-- Bits of numbers below 32,768; src/lib.rt has the guide.
pub mod Flags
pub mod Firsts
pub mod Keeping
pub mod Lowest
