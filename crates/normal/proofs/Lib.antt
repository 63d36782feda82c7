pub mod MonomialLaws
pub mod MeaningLaws
pub mod OrderLaws
pub mod CollectingLaws
pub mod WeightLaws
pub mod BoundingLaws
pub mod CollectedLaws
pub mod CollectedWeights
pub mod OriginLaws
pub mod KeptLaws
pub mod NumberLaws
mod ProductLists
mod StepValues
mod MergedSteps
mod DerivedLists
pub mod AtomOrder
pub mod PlaceSteps
pub mod RoomLaws
mod OriginSums
pub mod NodeSums
pub mod SafeLaws
pub mod Sorting
pub mod Refusals
pub mod WalkLaws
