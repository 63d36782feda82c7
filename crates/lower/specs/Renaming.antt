-- Indices that stand for the names of a tree
use Rattle.std.specs.Prelude.{ℕ, ◌==◌, List, [], ◌∷◌, if◌then◌else◌}
use Rattle.ufl_tree.specs.declared.function.Ix.{Ix}
use Rattle.ufl_tree.specs.declared.function.Ix.TheVariants.{Fixed, Named}
use Rattle.ufl_tree.specs.Term.{Term, delta}

-- by a name, the index that stands for it
abbrev pub Renaming : Type 0
Renaming = ℕ → Ix

abbrev pub with_index : ℕ → Ix → Renaming → Renaming
with_index i x r j = if j == i then x else r j

abbrev pub renamed : Renaming → Ix → Ix
renamed r (Fixed k) = Fixed k
renamed r (Named i) = r i

abbrev pub all_renamed : Renaming → List Ix → List Ix
all_renamed r [] = []
all_renamed r (i ∷ is) = renamed r i ∷ all_renamed r is

-- ---- 0 and 1 without a number
abbrev pub zero_term : Term
zero_term = delta (Fixed 0) (Fixed 1)

abbrev pub unit_term : Term
unit_term = delta (Fixed 0) (Fixed 0)
