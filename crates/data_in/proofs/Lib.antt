pub mod RowLaws
pub mod StepLaws
pub mod DataLaws
pub mod RefusalLaws
pub mod WordLaws
pub mod BlockLaws
