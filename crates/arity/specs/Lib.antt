pub mod Bodies
pub mod Ranks
pub mod Leaves
pub mod Places
