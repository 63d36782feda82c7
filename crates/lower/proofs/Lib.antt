pub mod NameLaws
pub mod OperatorLaws
pub mod PieceLaws
pub mod TreeLaws
pub mod ShareLaws
pub mod FittingLaws
pub mod AboveLaws
pub mod BoundsKept
