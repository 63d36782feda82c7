pub mod Local
pub mod Digits
pub mod Reference
pub mod Vertices
pub mod Examples
