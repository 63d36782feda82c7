pub mod DerivationLaws
pub mod NamingLaws
pub mod ListLaws
pub mod DerivativeNodes
pub mod ExpandedNodes
pub mod ExpansionLaws
