-- The meaning of trees, forms and monomials that laws cite, passed on from one place. Declares nothing.
pub use Rattle.ufl_meaning.specs.Environment.{Environment, HasOnlyUsed, HasParametersBelow, raised, turned, scaled, with_function, exchanged}
pub use Rattle.ufl_meaning.specs.Value.{value}
pub use Rattle.ufl_meaning.specs.Meaning.{meaning}
pub use Rattle.ufl_meaning.specs.Density.{density, no_names}
pub use Rattle.ufl_meaning.specs.Monomial.{HasNoOffset, mono_value, monos_value}
