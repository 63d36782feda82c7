pub mod FoundLaws
mod QuotientLaws
pub mod BodyLaws
pub mod ColumnLaws
pub mod CountedLaws
pub mod LoopLaws
pub mod MultipleLaws
pub mod PlaceLaws
pub mod RowLaws
pub mod StandingLaws
