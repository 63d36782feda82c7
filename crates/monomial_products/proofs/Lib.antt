pub mod Pieces
pub mod JoinedLaws
pub mod NextLaws
pub mod PartLaws
pub mod FormedLaws
pub mod SkippedLaws
pub mod SuffixLaws
pub mod SupportLaws
