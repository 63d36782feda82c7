-- The names of the functions so far
use Rattle.std.specs.Prelude.{◌≡◌, ℕ, Bool, ◌||◌, List, bytes_eq}
use Rattle.std.specs.Borrow.{Bor}
use Rattle.std.specs.Ordering.{nat_cmp}
use Rattle.std.specs.Cmp.Lexicographic.{slice_cmp}
use Rattle.std.specs.BTreeSet.{BTreeSet, contains_by}
use Rattle.c_unit.specs.declared.unit.CFun.{CFun}
use Rattle.c_text.specs.Units.{is_among}

abbrev pub has_name : BTreeSet (Bor (List ℕ)) → List ℕ → Bool
has_name names n = contains_by (λ k. slice_cmp nat_cmp n k.now) names

-- these are the names of the functions
abbrev pub AreNames : BTreeSet (Bor (List ℕ)) → List CFun → Type 0
AreNames names funs = (n : List ℕ) → has_name names n ≡ is_among funs n

-- these are the names of the functions, and this one
abbrev pub AreNamesWith : BTreeSet (Bor (List ℕ)) → List CFun → List ℕ → Type 0
AreNamesWith names funs name = (n : List ℕ) → has_name names n ≡ (bytes_eq name n || is_among funs n)
