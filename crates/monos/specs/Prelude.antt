-- The names of trees, tables and what passes hand over that laws and contracts cite, passed on from one place. Declares nothing.
pub use Rattle.spaces.specs.declared.cell.Cell.{Cell}
pub use Rattle.spaces.specs.declared.parts.Part.{Part}
pub use Rattle.spaces.specs.declared.parts.Parts.{Parts}
pub use Rattle.ufl_tree.specs.declared.function.Function.{Function}
pub use Rattle.ufl_tree.specs.declared.function.Ix.{Ix}
pub use Rattle.ufl_tree.specs.declared.function.Ix.TheVariants.{Named}
pub use Rattle.ufl_tree.specs.declared.function.Role.{Role}
pub use Rattle.ufl_tree.specs.FormTerm.{FormTerm}
pub use Rattle.ufl_tree.specs.Indices.{Names, index_values}
pub use Rattle.ufl_tree.specs.Places.{Table}
pub use Rattle.ufl_tree.specs.Term.{Term}
pub use Rattle.ufl_tree.specs.Typed.{Typed, shape_of}
pub use Rattle.monos.specs.Layout.{IsLawfulOn}
pub use Rattle.monos.specs.Monomial.{Monomial}
