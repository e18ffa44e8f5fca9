-- The greatest common divisor, the shortening rule, and what they mean for the vectors that two rows send to zero and for the values of the
-- rows.
pub mod Gcd
pub mod Shorten
pub mod Lattice
pub mod Independence
pub mod Values
