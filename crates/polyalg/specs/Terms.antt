-- Lists of terms: the polynomial that they are, and which ones a `Poly` keeps
use Rattle.std.specs.Prelude.{◌≡◌, ℕ, ◌+◌, ◌<◌, ◌≤◌, false, if◌then◌else◌, List, [], ◌∷◌, ◌++◌, length}
use Rattle.algebra.specs.Fraction.{is_zero_fraction}
use Rattle.ratio.specs.Value.{fraction_of}
use Rattle.calculus.specs.Polynomial.{Polynomial, nil, plus, monomial}
use Rattle.polyalg.specs.Exponents.{key, total}
use Rattle.polyalg.specs.declared.term.Term.{Term}

abbrev pub term_value : Term → Polynomial
term_value t = monomial (fraction_of t.c) t.e

-- the sum of the terms
abbrev pub value_of : List Term → Polynomial
value_of [] = nil
value_of (t ∷ ts) = plus (term_value t) (value_of ts)

-- numbers that rise
abbrev pub AreAbove : ℕ → List ℕ → Type 0
AreAbove k [] = Unit {0}
AreAbove k (n ∷ ns) = (k < n) × AreAbove k ns

abbrev pub Rising : List ℕ → Type 0
Rising [] = Unit {0}
Rising (n ∷ ns) = AreAbove n ns × Rising ns

-- the numbers by which the terms are sorted, each with k more
abbrev pub keys_and : ℕ → List Term → List ℕ
keys_and k [] = []
keys_and k (t ∷ ts) = (key t.e + k) ∷ keys_and k ts

abbrev pub IsSorted : List Term → Type 0
IsSorted ts = Rising (keys_and 0 ts)

-- a term of a `Poly`: three exponents that add up to at most 65,535, and a coefficient that isn't 0
pub record IsTerm (t : Term) : Type 0 where
  pub three : length t.e ≡ 3
  pub small : total t.e ≤ 65535
  pub some : is_zero_fraction (fraction_of t.c) ≡ false

abbrev pub AreTerms : List Term → Type 0
AreTerms [] = Unit {0}
AreTerms (t ∷ ts) = IsTerm t × AreTerms ts

-- what every `Poly` is
pub record IsPoly (ts : List Term) : Type 0 where
  pub sorted : IsSorted ts
  pub terms : AreTerms ts

-- the terms, and one more unless its coefficient is 0
abbrev pub kept : List Term → Term → List Term
kept ts t = if is_zero_fraction (fraction_of t.c) then ts else ts ++ t ∷ []
