pub mod Answer
pub mod Busy
