pub mod BuildingLaws
pub mod FreeLaws
pub mod ListLaws
pub mod ElementLaws
pub mod FunctionLaws
pub mod PieceLaws
pub mod FitLaws
pub mod CellLaws
