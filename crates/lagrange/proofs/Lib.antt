pub mod FactorLaws
pub mod NodeLaws
pub mod Binomials
pub mod SumLaws
pub mod NodeValues
pub mod Sizes
