pub mod Integrands
pub mod Substitution
pub mod Sides
pub mod Flattening
pub mod Keeping
