-- The monomials of an expanded tree, as they arise: no two of them are put together
use Rattle.std.specs.Prelude.{ℕ, zero, suc, ◌==◌, List, [], ◌∷◌, ◌++◌, Option, None, Some, if◌then◌else◌}
use Rattle.algebra.specs.Fraction.{Fraction, one_fraction, mul, negative}
use Rattle.ratio.specs.Value.{fraction_of}
use Rattle.ufl_tree.specs.declared.function.Function.{Function}
use Rattle.ufl_tree.specs.Term.{Term, num, fun, mark, neg, sum, prod, over, dx, delta, pick, raise, turn, Terms, no_terms, term}
use Rattle.ufl_tree.specs.Indices.{Names, with_name, index_value, index_values}
use Rattle.ufl_tree.specs.Places.{Table, function_place}
use Rattle.weigh.specs.Lists.{lists_below}
use Rattle.monos.specs.Monomial.{Monomial}
use Rattle.monos.specs.declared.mono.Atom.{Atom}

-- no derivative by a variable or by a function is left
abbrev mutual
  pub IsExpanded : Term → Type 0
  IsExpanded (num c) = Unit {0}
  IsExpanded (fun f at) = Unit {0}
  IsExpanded (mark l at b) = IsExpanded b
  IsExpanded (neg a) = IsExpanded a
  IsExpanded (sum a b) = IsExpanded a × IsExpanded b
  IsExpanded (prod a b) = IsExpanded a × IsExpanded b
  IsExpanded (over i n b) = IsExpanded b
  IsExpanded (dx i b) = IsExpanded b
  IsExpanded (delta i j) = Unit {0}
  IsExpanded (pick i ts) = AreExpanded ts
  IsExpanded (raise l at b) = ⊥
  IsExpanded (turn w d b) = ⊥

  pub AreExpanded : Terms → Type 0
  AreExpanded no_terms = Unit {0}
  AreExpanded (term t ts) = IsExpanded t × AreExpanded ts

-- ---- the leaves
abbrev pub number_mono : Fraction → List Monomial
number_mono c = record { c = c; atoms = [] } ∷ []

abbrev pub function_mono : Function → Option ℕ → List Monomial
function_mono f None = []
function_mono f (Some k) = record { c = one_fraction; atoms = record { f = f; component = k; dirs = 0 ∷ 0 ∷ 0 ∷ [] } ∷ [] } ∷ []

-- ---- the other sign
abbrev pub all_negative : List Monomial → List Monomial
all_negative [] = []
all_negative (m ∷ ms) = record { c = negative m.c; atoms = m.atoms } ∷ all_negative ms

-- ---- products
abbrev pub product : Monomial → Monomial → Monomial
product m n = record { c = mul m.c n.c; atoms = m.atoms ++ n.atoms }

abbrev pub all_times : Monomial → List Monomial → List Monomial
all_times m [] = []
all_times m (n ∷ ns) = product m n ∷ all_times m ns

abbrev pub products : List Monomial → List Monomial → List Monomial
products [] ns = []
products (m ∷ ms) ns = all_times m ns ++ products ms ns

-- ---- derivatives: one monomial for each atom
abbrev pub bumped : ℕ → List ℕ → List ℕ
bumped zero [] = 1 ∷ []
bumped zero (d ∷ ds) = suc d ∷ ds
bumped (suc i) [] = 0 ∷ bumped i []
bumped (suc i) (d ∷ ds) = d ∷ bumped i ds

abbrev pub atom_along : ℕ → Atom → Atom
atom_along i a = record { f = a.f; component = a.component; dirs = bumped i a.dirs }

abbrev pub all_with : Atom → List (List Atom) → List (List Atom)
all_with a [] = []
all_with a (x ∷ xs) = (a ∷ x) ∷ all_with a xs

-- with one derivative more of the atom at a place
abbrev pub atoms_derived_at : ℕ → List Atom → ℕ → List Atom
atoms_derived_at i [] k = []
atoms_derived_at i (a ∷ more) zero = atom_along i a ∷ more
atoms_derived_at i (a ∷ more) (suc k) = a ∷ atoms_derived_at i more k

abbrev pub derived_at : ℕ → Monomial → ℕ → Monomial
derived_at i m k = record { c = m.c; atoms = atoms_derived_at i m.atoms k }

-- the product rule
abbrev pub atoms_along : ℕ → List Atom → List (List Atom)
atoms_along i [] = []
atoms_along i (a ∷ more) = (atom_along i a ∷ more) ∷ all_with a (atoms_along i more)

abbrev pub all_with_factor : Fraction → List (List Atom) → List Monomial
all_with_factor c [] = []
all_with_factor c (x ∷ xs) = record { c = c; atoms = x } ∷ all_with_factor c xs

abbrev pub all_derived : ℕ → List Monomial → List Monomial
all_derived i [] = []
all_derived i (m ∷ ms) = all_with_factor m.c (atoms_along i m.atoms) ++ all_derived i ms

-- there are three directions
abbrev pub monos_along : ℕ → List Monomial → List Monomial
monos_along zero ms = all_derived 0 ms
monos_along (suc zero) ms = all_derived 1 ms
monos_along (suc (suc zero)) ms = all_derived 2 ms
monos_along (suc (suc (suc i))) ms = []

-- ---- a tree
abbrev mutual
  pub monomials : Table → Term → Names → List Monomial
  monomials elements (num c) v = number_mono (fraction_of c)
  monomials elements (fun f at) v = function_mono f (function_place elements f (index_values v at))
  monomials elements (mark l at b) v = monomials elements b v
  monomials elements (neg a) v = all_negative (monomials elements a v)
  monomials elements (sum a b) v = monomials elements a v ++ monomials elements b v
  monomials elements (prod a b) v = products (monomials elements a v) (monomials elements b v)
  monomials elements (over i n b) v = lists_below n (λ k. monomials elements b (with_name i k v))
  monomials elements (dx i b) v = monos_along (index_value v i) (monomials elements b v)
  monomials elements (delta i j) v = if index_value v i == index_value v j then number_mono one_fraction else []
  monomials elements (pick i ts) v = item_monomials elements ts v (index_value v i)
  monomials elements (raise l at b) v = []
  monomials elements (turn w d b) v = []

  -- the item of this number, counted from 0, or none
  pub item_monomials : Table → Terms → Names → ℕ → List Monomial
  item_monomials elements no_terms v i = []
  item_monomials elements (term t ts) v zero = monomials elements t v
  item_monomials elements (term t ts) v (suc i) = item_monomials elements ts v i
