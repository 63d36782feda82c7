mod PartLaws
pub mod SmallLaws
pub mod ItemLaws
pub mod ColumnLaws
mod EntryLaws
mod WorkedWeight
