pub mod Renaming
pub mod Shares
pub mod Lowering
pub mod Fitting
pub mod Keeping
