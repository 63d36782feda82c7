pub mod Functions
pub mod Order
