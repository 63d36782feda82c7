pub mod EnvironmentLaws
pub mod FreeLaws
pub mod Freshness
