pub mod SumLaws
pub mod ChoiceLaws
pub mod FormLaws
pub mod RankLaws
mod FoundLaws
mod MarkerLaws
mod LastLaws
mod NormalLaws
