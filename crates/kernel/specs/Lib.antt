pub mod Ends
pub mod MassShare
pub mod Statements
