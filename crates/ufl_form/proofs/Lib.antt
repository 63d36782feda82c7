pub mod PairLaws
pub mod TableLaws
pub mod DirectionLaws
pub mod FormReadings
pub mod FormLaws
pub mod FitLaws
pub mod CellLaws
