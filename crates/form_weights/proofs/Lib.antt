pub mod WeightLaws
pub mod PlaceLaws
