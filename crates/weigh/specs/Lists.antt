-- What a weight says of a sum of monomials
use Rattle.std.specs.Prelude.{◌≡◌, ℕ, zero, suc, ◌+◌, ◌*◌, ◌^◌, ◌≤◌, List, [], ◌∷◌, ◌++◌, length}
use Rattle.std.specs.List.{AllByRecursion}
use Prim.Native.Nat.{◌∣◌}
use Rattle.algebra.specs.Fraction.{add, mul, negative}
use Rattle.algebra.specs.LowestTerms.{bottom}
use Rattle.ufl_tree.specs.declared.function.Function.{Function}
use Rattle.monos.specs.declared.weight.Weight.{Weight}
use Rattle.weigh.specs.Numerators.{size_over}
use Rattle.monos.specs.Monomial.{Monomial, derivatives}
use Rattle.monos.specs.declared.mono.Atom.{Atom}

-- the product of the costs of the functions
abbrev pub costs : (Function → ℕ) → List Atom → ℕ
costs cost [] = 1
costs cost (a ∷ as_) = cost a.f * costs cost as_

-- by the cost of each function, and the number d of directions
module _ (cost : Function → ℕ) (d : ℕ) where
  abbrev pub spread : Monomial → ℕ
  spread m = costs cost m.atoms * d ^ derivatives m.atoms

  -- with the coefficient over l
  abbrev pub load : ℕ → Monomial → ℕ
  load l m = size_over l m.c * 3 ^ derivatives m.atoms * spread m

  abbrev pub spreads : List Monomial → ℕ
  spreads [] = 0
  spreads (m ∷ ms) = spread m + spreads ms

  abbrev pub loads : ℕ → List Monomial → ℕ
  loads l [] = 0
  loads l (m ∷ ms) = load l m + loads l ms

abbrev pub IsOver : ℕ → Monomial → Type 0
IsOver l m = bottom m.c ∣ l

-- the coefficients are over l, the spreads add up to at most s, the loads to at most t
pub record IsWeighed (cost : Function → ℕ) (d l : ℕ) (ms : List Monomial) (s t : ℕ) : Type 0 where
  pub over : AllByRecursion (IsOver l) ms
  pub sum : spreads cost d ms ≤ s
  pub total : loads cost d l ms ≤ t

-- by a weight
abbrev pub HasWeight : (Function → ℕ) → ℕ → Weight → List Monomial → Type 0
HasWeight cost d w ms = IsWeighed cost d w.den ms w.cost (w.cost * w.num)

-- ---- what the steps of a normal form do
-- one list for each number below n
abbrev pub lists_below : ℕ → (ℕ → List Monomial) → List Monomial
lists_below zero f = []
lists_below (suc n) f = lists_below n f ++ f n

-- the product of two monomials, however its atoms are ordered
pub record IsProduct (cost : Function → ℕ) (m n k : Monomial) : Type 0 where
  pub value : k.c ≡ mul m.c n.c
  pub costs : costs cost k.atoms ≡ costs cost m.atoms * costs cost n.atoms
  pub derivatives : derivatives k.atoms ≡ derivatives m.atoms + derivatives n.atoms

-- m times each of a list
abbrev pub AreProducts : (Function → ℕ) → Monomial → List Monomial → List Monomial → Type 0
AreProducts cost m [] [] = Unit {0}
AreProducts cost m (n ∷ ns) (k ∷ ks) = IsProduct cost m n k × AreProducts cost m ns ks
AreProducts cost m _ _ = ⊥

-- each of a list times each of another
pub data AllProducts (cost : Function → ℕ) (ns : List Monomial) : List Monomial → List Monomial → Type 0 where
  none : AllProducts cost ns [] []
  more : (m : Monomial) (ms ks js : List Monomial) → AreProducts cost m ns ks → AllProducts cost ns ms js → AllProducts cost ns (m ∷ ms) (ks ++ js)

-- m with one derivative more at one of its atoms
pub record IsDerived (cost : Function → ℕ) (m k : Monomial) : Type 0 where
  pub value : k.c ≡ m.c
  pub costs : costs cost k.atoms ≡ costs cost m.atoms
  pub derivatives : derivatives k.atoms ≡ suc (derivatives m.atoms)

-- each of a list derived, at most g times
pub data AllDerived (cost : Function → ℕ) (g : ℕ) : List Monomial → List Monomial → Type 0 where
  none : AllDerived cost g [] []
  more : (m : Monomial) (ms ks js : List Monomial) → length ks ≤ g → AllByRecursion (IsDerived cost m) ks → AllDerived cost g ms js → AllDerived cost g (m ∷ ms) (ks ++ js)

-- two monomials with equal atoms put together
pub record IsMerged (m n k : Monomial) : Type 0 where
  pub value : k.c ≡ add m.c n.c
  pub first : k.atoms ≡ m.atoms
  pub second : n.atoms ≡ m.atoms

-- the same with the other sign
abbrev pub IsNegated : Monomial → Monomial → Type 0
IsNegated m k = (k.c ≡ negative m.c) × (k.atoms ≡ m.atoms)

abbrev pub AreNegated : List Monomial → List Monomial → Type 0
AreNegated [] [] = Unit {0}
AreNegated (m ∷ ms) (k ∷ ks) = IsNegated m k × AreNegated ms ks
AreNegated _ _ = ⊥
