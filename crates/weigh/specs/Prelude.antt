-- The weights that laws of the passes cite, passed on from one place. Declares nothing.
pub use Rattle.weigh.specs.Bounds.{Bounds, IsSound}
pub use Rattle.ufl_tree.specs.Places.{IsLawfulTable}
pub use Rattle.weigh.specs.Lists.{HasWeight}
pub use Rattle.weigh.specs.Terms.{term_weight}
pub use Rattle.weigh.specs.Weighing.{exact, weight_with}
