-- Names of steps, and what a step by its name answers and leaves.
pub mod Named
pub mod Stepped
