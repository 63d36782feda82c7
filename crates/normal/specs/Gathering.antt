-- What the walk over a tree gives: a sum of monomials, in order and put together
use Rattle.std.specs.Prelude.{◌≡◌, ℕ, ◌*◌, ◌^◌, ◌<◌, ◌≤◌, ◌⊎◌, List, [], ◌∷◌, IsPermutation}
use Rattle.std.specs.List.{AllByRecursion}
use Rattle.algebra.specs.Over.{Over}
use Rattle.ufl_tree.specs.declared.function.Function.{Function}
use Rattle.ufl_tree.specs.Indices.{Names, with_name}
use Rattle.ufl_tree.specs.Places.{Table}
use Rattle.ufl_tree.specs.Term.{Term}
use Rattle.calculus.specs.Integral.{sum_below}
use Rattle.ufl_meaning.specs.Density.{no_names}
use Rattle.ufl_meaning.specs.Environment.{Environment}
use Rattle.ufl_meaning.specs.Meaning.{meaning}
use Rattle.ufl_meaning.specs.Monomial.{HasNoOffset, monos_value}
use Rattle.monos.specs.Monomial.{Monomial, derivatives}
use Rattle.monos.specs.declared.weight.Weight.{Weight}
use Rattle.weigh.specs.Bounds.{Bounds, IsSound}
use Rattle.weigh.specs.Lists.{IsWeighed, HasWeight, lists_below}
use Rattle.weigh.specs.Terms.{term_weight, term_directions}
use Rattle.normal.specs.Monomials.{IsExpanded, products, monomials}
use Rattle.normal.specs.Collecting.{AreReordered, merged, nonzero, IsRising, IsStrict, HasNoZero}
use Rattle.normal.specs.Origins.{HasFunction, HasPlace, AllAtoms, HaveOrigins}
use Rattle.normal.specs.Bounding.{HaveNumbers, cost_of, AreShort, HasDirections}
use Rattle.normal.specs.Order.{comes_before, AreInOrder}
use Rattle.normal.specs.declared.names.Bound.{Bound}

-- the values of the names, the innermost first; a name that isn't bound is 0
abbrev pub names_of : List Bound → Names
names_of [] = no_names
names_of (b ∷ bs) = with_name b.index b.value (names_of bs)

-- rs is ms in order, with those of the same atoms added, and without those that are 0
pub record IsCollected (ms rs : List Monomial) : Type 0 where
  pub sorted : List Monomial
  pub permuted : IsPermutation ms sorted
  pub rising : IsRising comes_before sorted
  pub is : rs ≡ nonzero (merged sorted)

-- the same, with the atoms of each monomial put in order first
pub record IsGathered (ms rs : List Monomial) : Type 0 where
  pub reordered : List Monomial
  pub inside : AreReordered ms reordered
  pub in_order : AreInOrder reordered
  pub collected : IsCollected reordered rs

-- ---- what keeps each step on coefficients from passing
-- some of the monomials may be added in any order
pub record HasRoom (ms : List Monomial) : Type 0 where
  pub cost : Function → ℕ
  pub d : ℕ
  pub l : ℕ
  pub s : ℕ
  pub t : ℕ
  pub costs : (f : Function) → 1 ≤ cost f
  pub directions : 1 ≤ d
  pub some : 1 ≤ l
  pub weighed : IsWeighed cost d l ms s t
  pub small : l < 2 ^ 127
  pub few : t < 2 ^ 127

-- each coefficient is over l, of at most t there
abbrev pub AllOver : ℕ → ℕ → List Monomial → Type 0
AllOver l t ms = AllByRecursion (λ m. Over l t m.c) ms

-- each of the one may be multiplied with each of the other, and the products may be added
pub record HaveRoom (ms ns : List Monomial) : Type 0 where
  pub l : ℕ
  pub t : ℕ
  pub j : ℕ
  pub u : ℕ
  pub left : AllOver l t ms
  pub right : AllOver j u ns
  pub small : l * j < 2 ^ 127
  pub few : t * u < 2 ^ 127
  pub sum : HasRoom (products ms ns)

-- another derivative may be taken
abbrev pub AreFew : List Monomial → Type 0
AreFew ms = AllByRecursion (λ m. derivatives m.atoms < 255) ms

-- ---- the walk
-- ms adds up to the tree in every environment without offsets
abbrev pub AddsUp : Table → Term → Names → List Monomial → Type 0
AddsUp elements e v ms = (env : Environment) → HasNoOffset env → monos_value env ms ≡ meaning elements e env v

-- what bounds the tree bounds ms
abbrev pub IsBounded : Table → Term → List Monomial → Type 0
IsBounded elements e ms =
    (d : ℕ) → 1 ≤ d → HasDirections elements d e → (w : Weight) → IsSound w → Bounds w (term_weight elements e)
    → HasWeight (cost_of elements) d w ms

-- what is known of the monomials of an expanded tree
pub record IsSum (elements : Table) (e : Term) (v : Names) (ms : List Monomial) : Type 0 where
  pub value : AddsUp elements e v ms
  pub weight : (d : ℕ) → 1 ≤ d → HasDirections elements d e
      → HasWeight (cost_of elements) d (term_weight elements e) ms
  pub directions : (d : ℕ) → 1 ≤ d → HasDirections elements d e → (term_directions elements e ≡ d) ⊎ AreShort 0 ms
  pub short : AreShort (term_weight elements e).g ms
  pub numbers : HaveNumbers elements (term_weight elements e) ms
  pub leaves : AllAtoms (λ a. HasFunction a.f e) ms
  pub places : AllAtoms (HasPlace elements) ms
  pub origins : HaveOrigins (monomials elements e v) ms
  pub nonzero : HasNoZero ms
  pub in_order : AreInOrder ms

pub record IsSumOf (elements : Table) (e : Term) (v : Names) (ms : List Monomial) : Type 0 where
  pub is : IsExpanded e → IsSum elements e v ms

-- no step on the coefficients of an expanded tree passes
pub record IsSafe (elements : Table) (e : Term) : Type 0 where
  pub expanded : IsExpanded e
  pub d : ℕ
  pub positive : 1 ≤ d
  pub directions : HasDirections elements d e
  pub size : (term_weight elements e).cost * (term_weight elements e).num < 2 ^ 127

-- the sum of a tree at the first n values of a name
pub record IsSumBelow (elements : Table) (e : Term) (i : ℕ) (v : Names) (n : ℕ) (ms : List Monomial) : Type 0 where
  pub value : (env : Environment) → HasNoOffset env
      → monos_value env ms ≡ sum_below n (λ k. meaning elements e env (with_name i k v))
  pub weight : (d : ℕ) → 1 ≤ d → HasDirections elements d e
      → IsWeighed (cost_of elements) d (term_weight elements e).den ms
      (n * (term_weight elements e).cost) (n * ((term_weight elements e).cost * (term_weight elements e).num))
  pub directions : (d : ℕ) → 1 ≤ d → HasDirections elements d e → (term_directions elements e ≡ d) ⊎ AreShort 0 ms
  pub short : AreShort (term_weight elements e).g ms
  pub numbers : HaveNumbers elements (term_weight elements e) ms
  pub leaves : AllAtoms (λ a. HasFunction a.f e) ms
  pub places : AllAtoms (HasPlace elements) ms
  pub origins : HaveOrigins (lists_below n (λ k. monomials elements e (with_name i k v))) ms
  pub nonzero : HasNoZero ms
  pub in_order : AreInOrder ms

pub record IsSumBelowOf (elements : Table) (e : Term) (i : ℕ) (v : Names) (n : ℕ) (ms : List Monomial) : Type 0 where
  pub is : IsExpanded e → IsSumBelow elements e i v n ms

-- ---- what a tree without free indices comes to
pub record IsNormal (elements : Table) (e : Term) (ms : List Monomial) : Type 0 where
  pub sum : IsSum elements e no_names ms
  pub strict : IsStrict comes_before ms

pub record IsNormalOf (elements : Table) (e : Term) (ms : List Monomial) : Type 0 where
  pub is : IsExpanded e → IsNormal elements e ms
