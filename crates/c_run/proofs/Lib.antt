pub mod Counts
pub mod Ends
pub mod Idle
pub mod Runs
pub mod Listed
