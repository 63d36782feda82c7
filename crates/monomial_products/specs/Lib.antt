pub mod Supports
pub mod Products
pub mod Formed
