-- When a weight bounds a monomial over a layout
use Rattle.std.specs.Prelude.{ℕ, ◌+◌, ◌*◌, ◌^◌, ◌≤◌, List, [], ◌∷◌, length, map}
use Rattle.std.specs.List.{AllByRecursion}
use Prim.Native.Nat.{◌∣◌}
use Rattle.algebra.specs.Over.{Over}
use Rattle.ratio.specs.declared.reduced.Ratio.{Ratio}
use Rattle.ratio.specs.Value.{fraction_of}
use Rattle.calculus.specs.LocalFunction.{factorial}
use Rattle.spaces.specs.Scalar.{scalar_of}
use Rattle.ufl_tree.specs.declared.function.Function.{Function}
use Rattle.monos.specs.declared.layout.Layout.{Layout}
use Rattle.monos.specs.declared.mono.Atom.{Atom}
use Rattle.monos.specs.declared.weight.Weight.{Weight}
use Rattle.monos.specs.Layout.{role_parts}
use Rattle.monos.specs.Monomial.{Monomial, derivatives}
use Rattle.weigh.specs.Lists.{costs, HasWeight}
use Rattle.weigh.specs.Numerators.{size_over}
use Rattle.weigh.specs.Refusals.{lcd}
use Rattle.weigh.specs.Weighing.{parts_weight}

-- the weight of a function: that of its parts in the layout
abbrev pub weight_at : Layout → Function → Weight
weight_at l f = parts_weight (map scalar_of (role_parts l f.role))

abbrev pub cost_at : Layout → Function → ℕ
cost_at l f = (weight_at l f).cost

-- the sum of the degrees of the atoms' functions
abbrev pub degree_sum : Layout → List Atom → ℕ
degree_sum l [] = 0
degree_sum l (x ∷ xs) = (weight_at l x.f).deg + degree_sum l xs

-- w bounds the list of m alone: its coefficient over w's denominator and its number of columns; its numbers of
-- functions and of derivatives; the degrees less the derivatives; and the products of denominators and of sums of
-- coefficients
pub record IsWithin (l : Layout) (w : Weight) (m : Monomial) : Type 0 where
  pub weighed : HasWeight (cost_at l) l.d w (m ∷ [])
  pub functions : length m.atoms ≤ w.f
  pub least : w.rmin ≤ derivatives m.atoms
  pub greatest : derivatives m.atoms ≤ w.rmax
  pub degrees : degree_sum l m.atoms ≤ w.deg + derivatives m.atoms
  pub fac : costs (λ f. (weight_at l f).fac) m.atoms ∣ w.fac
  pub s : costs (λ f. (weight_at l f).s) m.atoms ≤ w.s

-- the items of a monomial are over `lcd`, with at most this there
abbrev pub item_bound : ℕ → Weight → Monomial → ℕ
item_bound d w m = factorial (w.deg + d) * w.fac * w.s * (size_over w.den m.c * 3 ^ derivatives m.atoms)

abbrev pub AreItems : ℕ → Weight → Monomial → List Ratio → Type 0
AreItems d w m xs = AllByRecursion (λ x. Over (lcd d w) (item_bound d w m) (fraction_of x)) xs
