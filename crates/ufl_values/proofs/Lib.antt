pub mod ArithmeticLaws
pub mod DifferenceLaws
pub mod ExactLaws
pub mod FormDifferenceLaws
pub mod PowerLaws
pub mod Readings
pub mod TotalLaws
