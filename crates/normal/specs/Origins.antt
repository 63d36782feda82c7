-- Where the atoms of the monomials of a tree come from
use Rattle.std.specs.Prelude.{◌≡◌, ℕ, ◌⊎◌, List, [], ◌∷◌, Some}
use Rattle.std.specs.List.{AllByRecursion}
use Rattle.ufl_tree.specs.declared.function.Function.{Function}
use Rattle.ufl_tree.specs.Places.{Table, function_place}
use Rattle.ufl_tree.specs.Term.{Term, num, fun, mark, neg, sum, prod, over, dx, delta, pick, raise, turn, Terms, no_terms, term}
use Rattle.monos.specs.Monomial.{Monomial}
use Rattle.monos.specs.declared.mono.Atom.{Atom}
use Rattle.normal.specs.Bounding.{function_sum}

-- f is the function of a leaf of a tree
abbrev mutual
  pub HasFunction : Function → Term → Type 0
  HasFunction f (num c) = ⊥
  HasFunction f (fun g at) = f ≡ g
  HasFunction f (mark l at b) = HasFunction f b
  HasFunction f (neg a) = HasFunction f a
  HasFunction f (sum a b) = HasFunction f a ⊎ HasFunction f b
  HasFunction f (prod a b) = HasFunction f a ⊎ HasFunction f b
  HasFunction f (over i n b) = HasFunction f b
  HasFunction f (dx i b) = HasFunction f b
  HasFunction f (delta i j) = ⊥
  HasFunction f (pick i ts) = HaveFunction f ts
  HasFunction f (raise l at b) = HasFunction f b
  HasFunction f (turn w d b) = HasFunction f b

  pub HaveFunction : Function → Terms → Type 0
  HaveFunction f no_terms = ⊥
  HaveFunction f (term t ts) = HasFunction f t ⊎ HaveFunction f ts

-- the component of an atom is one of its function
pub record HasPlace (elements : Table) (a : Atom) : Type 0 where
  pub at : List ℕ
  pub is : function_place elements a.f at ≡ Some a.component

-- each atom of each monomial
abbrev pub AllAtoms : (Atom → Type 0) → List Monomial → Type 0
AllAtoms P ms = AllByRecursion (λ m. AllByRecursion P m.atoms) ms

-- each function stands in the one product as often as in the other
pub record HaveSameFunctions (xs ys : List Atom) : Type 0 where
  pub each : (n : Function → ℕ) → function_sum n xs ≡ function_sum n ys

-- a product has the functions of one of these monomials
abbrev pub HasOrigin : List Monomial → List Atom → Type 0
HasOrigin [] xs = ⊥
HasOrigin (k ∷ ks) xs = HaveSameFunctions xs k.atoms ⊎ HasOrigin ks xs

-- and so does each monomial
abbrev pub HaveOrigins : List Monomial → List Monomial → Type 0
HaveOrigins ks ms = AllByRecursion (λ m. HasOrigin ks m.atoms) ms
