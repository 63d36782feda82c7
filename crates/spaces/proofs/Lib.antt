pub mod ReadingLaws
pub mod PartsLaws
pub mod SpaceLaws
pub mod EqualityLaws
pub mod NodeLaws
pub mod AllNodes
