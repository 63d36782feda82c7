pub mod Weighed
pub mod Columns
