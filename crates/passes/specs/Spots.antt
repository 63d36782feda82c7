-- Components by the number of their indices
use Rattle.std.specs.Prelude.{ℕ, Bool, true, false, if◌then◌else◌, List, [], ◌∷◌, Option, None, Some}
use Rattle.ufl_tree.specs.declared.function.Ix.{Ix}
use Rattle.ufl_tree.specs.declared.function.Ix.TheVariants.{Fixed}
use Rattle.ufl_tree.specs.declared.function.Function.{Function}
use Rattle.ufl_tree.specs.Term.{Term, fun}
use Rattle.lower.specs.Lowering.{nothing}
use Rattle.passes.specs.declared.indices.Entry.{Entry}

-- the first entry stands for a component that isn't one of a matrix
abbrev pub first_entry : Entry
first_entry = record { row = Fixed 0; col = Fixed 0; is = false }

abbrev pub entry_of : List Ix → Entry
entry_of (i ∷ j ∷ []) = record { row = i; col = j; is = true }
entry_of _ = first_entry

-- the index of a component that has one
abbrev pub only_of : List Ix → Option Ix
only_of (i ∷ []) = Some i
only_of _ = None

-- the tree, or 0 with its weight
abbrev pub kept : Bool → ℕ → Term → Term
kept is n e = if is then e else nothing e n

-- a function where a component isn't there, and by a number in its flat list
abbrev pub absent : Function → ℕ → Term
absent f n = nothing (fun f []) n

abbrev pub flat : Function → ℕ → Term
flat f k = fun f (Fixed k ∷ [])
