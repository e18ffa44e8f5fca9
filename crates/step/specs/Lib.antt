-- What the call Step answers and leaves.
pub mod Call
