pub mod Value
pub mod Parts
pub mod WrittenText
pub mod NumberText
pub mod Digits
