pub mod CellRuns
pub mod Preparing
pub mod Admitting
