pub mod Environment
pub mod Operators
pub mod Value
pub mod Meaning
pub mod Density
pub mod Monomial
pub mod Prelude
