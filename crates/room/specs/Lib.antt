pub mod Room
pub mod Steps
pub mod Numbered
pub mod Kernel
pub mod Columns
pub mod Adding
pub mod Rows
pub mod SumRoom
