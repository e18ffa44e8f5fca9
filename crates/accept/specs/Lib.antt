-- What the call Accept answers.
pub mod Call
