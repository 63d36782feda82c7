pub mod AdmissionLaws
pub mod LineLaws
pub mod OutcomeLaws
pub mod WordLaws
pub mod TargetLaws
pub mod NameLaws
