pub mod Kernels
pub mod Admitted
pub mod Parts
