pub mod MeaningKept
pub mod CoefficientsOf
pub mod LinearLaws
pub mod BoundsKept
