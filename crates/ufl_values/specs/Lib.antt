pub mod Exact
pub mod Unsupported
pub mod Words
pub mod Answer
pub mod Refused
pub mod Numbers
pub mod Values
pub mod Operators
