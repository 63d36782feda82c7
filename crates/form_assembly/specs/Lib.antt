pub mod Assembled
pub mod Prepared
