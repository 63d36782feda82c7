-- The order of labels, and sets as sorted lists
use Rattle.std.specs.Prelude.{ℕ, zero, suc, List, [], ◌∷◌, length, if◌then◌else◌}
use Rattle.std.specs.declared.cmp.Ordering.{Ordering}
use Rattle.std.specs.declared.cmp.Ordering.TheVariants.{Less, Equal, Greater}
use Rattle.std.specs.Ordering.{nat_cmp, ordering_then, is_lt}
use Rattle.std.specs.Option.{option_cmp}
use Rattle.std.specs.Cmp.Lexicographic.{slice_cmp}
use Rattle.dofs.specs.Label.{Label}

-- by part, then cell, number of vertices, vertices and weights
abbrev pub label_cmp : Label → Label → Ordering
label_cmp l m =
    ordering_then (nat_cmp l.part m.part)
    (ordering_then (option_cmp nat_cmp l.cell m.cell)
    (ordering_then (nat_cmp (length l.vertices) (length m.vertices))
    (ordering_then (slice_cmp nat_cmp l.vertices m.vertices) (slice_cmp nat_cmp l.weights m.weights))))

abbrev pub included_by : {K : Type 0} → Ordering → K → K → List K → List K → List K
included_by Less x y ys more = x ∷ y ∷ ys
included_by Equal x y ys more = y ∷ ys
included_by Greater x y ys more = y ∷ more

-- x in its place in a sorted list, unless it is there
abbrev pub included : {K : Type 0} → (K → K → Ordering) → K → List K → List K
included cmp x [] = x ∷ []
included cmp x (y ∷ ys) = included_by (cmp x y) x y ys (included cmp x ys)

-- the elements of a list in order, each once
abbrev pub sorted_set : {K : Type 0} → (K → K → Ordering) → List K → List K
sorted_set cmp [] = []
sorted_set cmp (x ∷ xs) = included cmp x (sorted_set cmp xs)

-- the place of x in a sorted list: how many elements are before it
abbrev pub place : {K : Type 0} → (K → K → Ordering) → K → List K → ℕ
place cmp x [] = zero
place cmp x (y ∷ ys) = if is_lt (cmp y x) then suc (place cmp x ys) else place cmp x ys
