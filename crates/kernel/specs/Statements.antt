-- The statements of the mass kernel
use Rattle.std.specs.Prelude.{ℕ, List, [], ◌∷◌}
use Rattle.ratio.specs.declared.reduced.Ratio.{Ratio}
use Rattle.c_unit.specs.declared.unit.Array.{Array}
use Rattle.c_unit.specs.declared.unit.Array.TheVariants.{X, T, A}
use Rattle.c_unit.specs.declared.unit.Place.{Place}
use Rattle.c_unit.specs.declared.unit.CStmt.{CStmt, Set, Abs, Inv, Sub, Mul}

abbrev pub plain : Array → ℕ → Place
plain array n = record { array = array; slot = record { base = n; steps = 0 ∷ 0 ∷ 0 ∷ 0 ∷ [] } }

-- T[0] is the volume factor, T[1] its reciprocal, which a flat cell has not, T[2] its size; T[3] and T[4] are the items of the
-- reference tensor for a node with itself and for two nodes. Each entry is its item times the size of the volume factor.
abbrev pub mass_statements : Ratio → Ratio → List CStmt
mass_statements same other =
    Sub (plain T 0) (plain X 1) (plain X 0)
    ∷ Inv (plain T 1) (plain T 0)
    ∷ Abs (plain T 2) (plain T 0)
    ∷ Set (plain T 3) same
    ∷ Set (plain T 4) other
    ∷ Mul (plain A 0) (plain T 2) (plain T 3)
    ∷ Mul (plain A 1) (plain T 2) (plain T 4)
    ∷ Mul (plain A 2) (plain T 2) (plain T 4)
    ∷ Mul (plain A 3) (plain T 2) (plain T 3)
    ∷ []
