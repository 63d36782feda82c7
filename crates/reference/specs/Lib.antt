pub mod TermValue
pub mod PolyValue
pub mod PointValue
