pub mod Admission
pub mod Denominators
pub mod Put
