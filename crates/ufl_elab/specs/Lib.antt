pub mod Literals
pub mod Names
pub mod Entries
pub mod Evaluation
pub mod Statements
pub mod Exports
pub mod Programs
pub mod Answers
