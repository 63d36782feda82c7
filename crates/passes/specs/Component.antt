-- The components that the code computes, read from its arguments
use Rattle.std.specs.Prelude.{◌≡◌, ℕ, max, List, [], ◌∷◌, ◌++◌}
use Rattle.ufl_tree.specs.declared.function.Free.{Free}
use Rattle.ufl_tree.specs.declared.function.Ix.{Ix}
use Rattle.ufl_tree.specs.declared.function.Ix.TheVariants.{Fixed}
use Rattle.ufl_tree.specs.declared.tree.Tree.{Tree}
use Rattle.ufl_tree.specs.Indices.{named, direction, repeated}
use Rattle.ufl_tree.specs.Places.{table_of, Table}
use Rattle.ufl_tree.specs.Reading.{typed_of, term_of}
use Rattle.ufl_tree.specs.Term.{Term, dx}
use Rattle.ufl_tree.specs.Typed.{Typed, number, identity, function, piece, one, two, power, index, partial, tensor, list, variable, diff, own_kind, shape_of, free_of}
use Rattle.monos.specs.Summed.{summed}
use Rattle.lower.specs.Keeping.{names_above, all_above}
use Rattle.lower.specs.Renaming.{Renaming, renamed, all_renamed}
use Rattle.lower.specs.Lowering.{Lowered, lower, two_term, minus_term, with_indices}
use Rattle.lower.specs.Shares.{share_of}
use Rattle.passes.specs.Names.{renaming_of}
use Rattle.passes.specs.declared.names.Scope.{Scope}
use Rattle.passes.specs.declared.pairs.Axes.{Axes}

-- the first name that occurs neither in the tree nor in the component
abbrev pub first_name : Typed → List Ix → ℕ
first_name e b = max (names_above e) (all_above b)

-- the indices that a node sums
abbrev pub summed_at : Typed → List Free
summed_at (number k c) = []
summed_at (identity k n) = []
summed_at (function k f) = []
summed_at (piece k f n) = []
summed_at (one k op a) = []
summed_at (two k op a b) = summed op (free_of a) (free_of b)
summed_at (power k a n) = []
summed_at (index k a at) = repeated (free_of a ++ named at (shape_of a))
summed_at (partial k a i) = repeated (free_of a ++ direction i (own_kind a).cell)
summed_at (tensor k a by) = []
summed_at (list k ts) = []
summed_at (variable k l a) = []
summed_at (diff k l by a) = []

-- a component of a node without these sums
abbrev pub without_sums : Table → Typed → Renaming → List Ix → ℕ → Term
without_sums es (number k c) r b n = lower share_of es (number k c) r b n
without_sums es (identity k m) r b n = lower share_of es (identity k m) r b n
without_sums es (function k f) r b n = lower share_of es (function k f) r b n
without_sums es (piece k f m) r b n = lower share_of es (piece k f m) r b n
without_sums es (one k op a) r b n = lower share_of es (one k op a) r b n
without_sums es (two k op a d) r b n =
    two_term op (shape_of a) (shape_of d) (λ c m. lower share_of es a r c m) (λ c m. lower share_of es d r c m) b n
without_sums es (power k a m) r b n = lower share_of es (power k a m) r b n
without_sums es (index k a at) r b n = lower share_of es a r (all_renamed r at ++ b) n
without_sums es (partial k a i) r b n = dx (renamed r i) (lower share_of es a r b n)
without_sums es (tensor k a by) r b n = lower share_of es (tensor k a by) r b n
without_sums es (list k ts) r b n = lower share_of es (list k ts) r b n
without_sums es (variable k l a) r b n = lower share_of es (variable k l a) r b n
without_sums es (diff k l by a) r b n = lower share_of es (diff k l by a) r b n

-- a component of a tree in a scope
unfoldable pub component_in : Scope → Tree → Lowered
component_in s t b n = lower share_of (table_of s.elements.now) (typed_of t) (renaming_of s.names.now) b n

unfoldable pub unsummed_in : Scope → Tree → Lowered
unsummed_in s t b n = without_sums (table_of s.elements.now) (typed_of t) (renaming_of s.names.now) b n

-- that of a scalar tree where the indices of a component stand for names
unfoldable pub bound_in : Scope → Tree → List ℕ → Lowered
bound_in s t by b n = lower share_of (table_of s.elements.now) (typed_of t) (with_indices by b (renaming_of s.names.now)) [] n

-- ---- operators
-- the derivative of component k in the direction j
abbrev pub slope : Lowered → ℕ → ℕ → ℕ → Term
slope f n j k = dx (Fixed j) (f (Fixed k ∷ []) n)

abbrev pub slopes : Lowered → ℕ → ℕ → ℕ → Term
slopes f n j k = minus_term (slope f n j k) (slope f n k j)

-- the components of a vector in space
abbrev pub AreAxes : Lowered → ℕ → Axes → Type 0
AreAxes f n v =
    (term_of v.x ≡ f (Fixed 0 ∷ []) n) × (term_of v.y ≡ f (Fixed 1 ∷ []) n) × (term_of v.z ≡ f (Fixed 2 ∷ []) n)
