pub mod Words
pub mod Forms
pub mod Unit
pub mod Inputs
pub mod Assemble
pub mod Compile
pub mod Answer
pub mod Command
