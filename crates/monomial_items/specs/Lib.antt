pub mod Integrals
pub mod Kept
