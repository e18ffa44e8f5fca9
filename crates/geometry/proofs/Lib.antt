-- Theorems on which no definition rests.
pub mod Processes
pub mod Pipes
pub mod Moving
pub mod Elements
pub mod Soaks
pub mod Clock
pub mod Order
pub mod Firings
pub mod Report
pub mod PipeLists
pub mod Passes
pub mod Walk
pub mod Wiring
pub mod PipeOrder
