pub mod Counted
pub mod Found
pub mod Digits
pub mod Placed
pub mod Emitted
pub mod Statements
