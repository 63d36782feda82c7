-- Functions whose element in a table is that of their place in a layout
use Rattle.std.specs.Prelude.{◌≡◌, ℕ, true, List, map, Some, slice_get}
use Rattle.std.specs.List.{AllByRecursion}
use Rattle.spaces.specs.Scalar.{scalar_of}
use Rattle.ufl_tree.specs.declared.function.Function.{Function}
use Rattle.ufl_tree.specs.declared.function.Role.{Role}
use Rattle.ufl_tree.specs.declared.function.Role.TheVariants.{Test, Trial, Position, Coefficient}
use Rattle.ufl_tree.specs.Places.{Table}
use Rattle.ufl_expr.specs.Elements.{position_space}
use Rattle.monos.specs.declared.layout.Layout.{Layout}
use Rattle.monos.specs.Layout.{role_parts}
use Rattle.monos.specs.Monomial.{Monomial}
use Rattle.weigh.specs.Weighing.{scalars_in}
use Rattle.form_values.specs.Problem.{Problem}
use Rattle.form_values.specs.CellLayout.{Occurring, is_among}

-- the layout has for a function the parts of its element
abbrev pub HasItsParts : Table → Layout → Function → Type 0
HasItsParts elements l f = map scalar_of (role_parts l f.role) ≡ scalars_in (slice_get elements f.element)

-- for the functions of all atoms
abbrev pub HaveTheirParts : Table → Layout → List Monomial → Type 0
HaveTheirParts elements l ms = AllByRecursion (λ m. AllByRecursion (λ a. HasItsParts elements l a.f) m.atoms) ms

-- the element of a role in a problem: of an argument that it has; of the position where it occurs, on the mesh's
-- cells; of a coefficient that occurs, by its number
abbrev pub IsElementFor : Problem → Occurring → Role → ℕ → Type 0
IsElementFor p o Test e = p.test ≡ Some e
IsElementFor p o Trial e = p.trial ≡ Some e
IsElementFor p o Position e = (o.position ≡ true) × (slice_get p.elements e ≡ Some (position_space p.mesh.kind))
IsElementFor p o (Coefficient n) e = (is_among o.coefficients n ≡ true) × (slice_get p.coefficients n ≡ Some e)
