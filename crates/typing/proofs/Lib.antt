pub mod ShapeLaws
pub mod FreeLaws
pub mod FittingLaws
pub mod LabelLaws
