-- The cells of the functions in the integrands of a form
use Rattle.std.specs.Prelude.{ℕ, List}
use Rattle.std.specs.List.{AllByRecursion}
use Rattle.ufl_tree.specs.Places.{Table}
use Rattle.normal.specs.Bounding.{HasDirections}
use Rattle.integrands.specs.Integrands.{IntegrandTerm}

-- the cells of all functions in them have d directions
abbrev pub HaveFormDirections : Table → ℕ → List IntegrandTerm → Type 0
HaveFormDirections elements d ps = AllByRecursion (λ (p : IntegrandTerm). HasDirections elements d p.body) ps
