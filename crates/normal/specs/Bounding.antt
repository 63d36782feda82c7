-- What the weight of a tree says of its monomials
use Rattle.std.specs.Prelude.{◌≡◌, ℕ, ◌+◌, ◌≤◌, List, [], ◌∷◌, length}
use Rattle.std.specs.List.{AllByRecursion}
use Prim.Native.Nat.{◌∣◌}
use Rattle.ufl_tree.specs.declared.function.Function.{Function}
use Rattle.ufl_tree.specs.Places.{Table}
use Rattle.ufl_tree.specs.Term.{Term, num, fun, mark, neg, sum, prod, over, dx, delta, pick, raise, turn, Terms, no_terms, term}
use Rattle.weigh.specs.Lists.{costs}
use Rattle.weigh.specs.Weighing.{function_weight}
use Rattle.weigh.specs.Terms.{function_directions}
use Rattle.monos.specs.declared.mono.Atom.{Atom}
use Rattle.monos.specs.declared.weight.Weight.{Weight}
use Rattle.monos.specs.Monomial.{Monomial, derivatives}

abbrev pub cost_of : Table → Function → ℕ
cost_of elements f = (function_weight elements f).cost

-- at most n atoms in each
abbrev pub AreShort : ℕ → List Monomial → Type 0
AreShort n ms = AllByRecursion (λ m. length m.atoms ≤ n) ms

-- the sum of a number of each atom's function
abbrev pub function_sum : (Function → ℕ) → List Atom → ℕ
function_sum n [] = 0
function_sum n (a ∷ as_) = n a.f + function_sum n as_

-- a product of atoms within a weight: so many functions and derivatives; the degrees less the derivatives; and the products of the
-- functions' denominators and sums of coefficients
pub record HasNumbers (elements : Table) (w : Weight) (xs : List Atom) : Type 0 where
  pub functions : length xs ≤ w.f
  pub least : w.rmin ≤ derivatives xs
  pub greatest : derivatives xs ≤ w.rmax
  pub degrees : function_sum (λ f. (function_weight elements f).deg) xs ≤ w.deg + derivatives xs
  pub fac : costs (λ f. (function_weight elements f).fac) xs ∣ w.fac
  pub s : costs (λ f. (function_weight elements f).s) xs ≤ w.s

abbrev pub HaveNumbers : Table → Weight → List Monomial → Type 0
HaveNumbers elements w ms = AllByRecursion (λ m. HasNumbers elements w m.atoms) ms

-- the cells of all functions have d directions
abbrev mutual
  pub HasDirections : Table → ℕ → Term → Type 0
  HasDirections elements d (num c) = Unit {0}
  HasDirections elements d (fun f at) = function_directions elements f ≡ d
  HasDirections elements d (mark l at b) = HasDirections elements d b
  HasDirections elements d (neg a) = HasDirections elements d a
  HasDirections elements d (sum a b) = HasDirections elements d a × HasDirections elements d b
  HasDirections elements d (prod a b) = HasDirections elements d a × HasDirections elements d b
  HasDirections elements d (over i n b) = HasDirections elements d b
  HasDirections elements d (dx i b) = HasDirections elements d b
  HasDirections elements d (delta i j) = Unit {0}
  HasDirections elements d (pick i ts) = HaveDirections elements d ts
  HasDirections elements d (raise l at b) = HasDirections elements d b
  HasDirections elements d (turn w x b) = HasDirections elements d b

  pub HaveDirections : Table → ℕ → Terms → Type 0
  HaveDirections elements d no_terms = Unit {0}
  HaveDirections elements d (term t ts) = HasDirections elements d t × HaveDirections elements d ts
