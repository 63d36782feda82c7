pub mod MarkLaws
pub mod WalkLaws
pub mod LayoutLaws
pub mod OccurringLaws
pub mod FitLaws
