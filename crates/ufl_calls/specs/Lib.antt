pub mod Arguments
pub mod Elements
pub mod Made
pub mod Functions
pub mod Groups
pub mod Tensors
pub mod Forms
pub mod Calls
