pub mod TermValue
pub mod PolyValue
pub mod Scene
pub mod Component
pub mod Value
pub mod Operands
pub mod Meaning
pub mod Density
