pub mod FileProgram
pub mod Admissions
pub mod Names
pub mod Checks
