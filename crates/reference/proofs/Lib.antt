pub mod Steps
pub mod Monomials
pub mod Loops
pub mod Vertices
pub mod Integrals
pub mod Signs
pub mod Factorial
