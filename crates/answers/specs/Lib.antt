pub mod Lines
pub mod ValuesText
pub mod Outcome
