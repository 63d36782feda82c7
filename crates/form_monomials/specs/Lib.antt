pub mod Markers
pub mod Sums
pub mod Monomials
