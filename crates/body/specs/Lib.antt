-- What an instance's lines and places have to fit, and what its body is; src/lib.rt has the list.
pub mod Fit
pub mod Lines
pub mod Store
pub mod Execute
