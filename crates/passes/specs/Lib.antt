pub mod Names
pub mod Spots
pub mod Pairs
pub mod Component
pub mod Kept
