pub mod Sound
pub mod Names
