pub mod Monomial
pub mod Layout
pub mod Summed
pub mod Prelude
