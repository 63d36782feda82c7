pub mod ItemLaws
pub mod StepLaws
pub mod KeptLaws
pub mod ZeroLaws
