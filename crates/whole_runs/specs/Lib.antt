-- Whole runs, computed; src/lib.rt has the list.
pub mod Runs
pub mod GuardedRuns
