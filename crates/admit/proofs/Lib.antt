pub mod FormLaws
pub mod ItemLaws
pub mod NameLaws
pub mod PartLaws
pub mod StepLaws
pub mod TreeLaws
