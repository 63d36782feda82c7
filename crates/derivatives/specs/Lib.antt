pub mod Naming
pub mod Derivation
pub mod Expanded
