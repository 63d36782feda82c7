pub mod Turns
pub mod Lines
pub mod Whole
pub mod Exact
pub mod Outcome
pub mod LevelLaws
