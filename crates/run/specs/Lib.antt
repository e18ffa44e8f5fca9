-- What the call Run answers and leaves.
pub mod Call
