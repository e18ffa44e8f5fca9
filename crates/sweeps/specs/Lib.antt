-- Passes over the instances by number, and what they mean.
pub mod Sweep
pub mod Met
pub mod Turns
pub mod Tables
