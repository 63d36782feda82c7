pub mod Kernels
pub mod Contractions
pub mod Examples
