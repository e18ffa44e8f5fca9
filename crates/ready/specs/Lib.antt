-- What the call Ready answers and leaves.
pub mod Call
