-- The names of polynomials that contracts cite, passed on from one place. Declares nothing.
pub use Rattle.polyalg.specs.Exponents.{exponent, key, total}
pub use Rattle.polyalg.specs.Terms.{value_of, kept, IsTerm, IsPoly}
pub use Rattle.polyalg.specs.Small.{over}
pub use Rattle.polyalg.specs.Range.{product_passes, sum_passes, row_passes, derivative_passes, RangeWhere}
pub use Rattle.polyalg.specs.ReferenceIntegral.{VariablesBelow}
pub use Rattle.polyalg.specs.Products.{degree_of, product_steps}
pub use Rattle.polyalg.specs.Bounds.{CoefficientsOver, HasSize}
