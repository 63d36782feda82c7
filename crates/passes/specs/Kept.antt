-- What a component in index notation keeps of an expression
use Rattle.std.specs.Prelude.{◌≡◌, List}
use Rattle.ufl_tree.specs.declared.function.Ix.{Ix}
use Rattle.ufl_tree.specs.Indices.{Names, index_values}
use Rattle.ufl_tree.specs.Places.{Table}
use Rattle.ufl_tree.specs.Term.{Term}
use Rattle.ufl_tree.specs.Typed.{Typed}
use Rattle.ufl_meaning.specs.Prelude.{Environment, meaning, value}
use Rattle.weigh.specs.Prelude.{Bounds, term_weight, exact, weight_with}

-- it means what the expression means there, whatever the functions and the names are
abbrev pub HasMeaning : Table → Typed → List Ix → Term → Type 0
HasMeaning es e b p = (env : Environment) (v : Names) → meaning es p env v ≡ value es e env (index_values v b) v

-- the weight of the expression bounds its weight
abbrev pub HasWeight : Table → Typed → Term → Type 0
HasWeight es e p = Bounds (weight_with exact es e) (term_weight es p)
