-- Quotients of the items of a monomial within an admitted weight fit
use Rattle.std.proofs.Common.{◌≡◌, ℕ, ◌+◌, ◌*◌, ◌^◌, ◌<◌, ◌≤◌, List, [], ◌∷◌, sym, subst, lit≤, arith}
use Rattle.std.specs.List.{AllByRecursion}
use native.Mathlib.Nat as N
use Rattle.algebra.specs.Fraction.{inverse}
use Rattle.algebra.specs.Over.{Over}
use Rattle.algebra.proofs.OverSteps.{product_fits}
use Rattle.calculus.specs.LocalFunction.{factorial}
use Rattle.ratio.specs.declared.reduced.Ratio.{Ratio}
use Rattle.ratio.specs.Value.{fraction_of}
use Rattle.spaces.proofs.NodeLaws.{dimension_range}
use Rattle.monos.specs.declared.layout.Layout.{Layout}
use Rattle.monos.specs.declared.weight.Weight.{Weight}
use Rattle.monos.specs.Layout.{IsLawfulLayout}
use Rattle.monos.specs.Monomial.{Monomial, derivatives}
use Rattle.weigh.specs.Admitted.{IsAdmitted}
use Rattle.weigh.specs.Lists.{spread}
use Rattle.weigh.specs.Numerators.{size_over}
use Rattle.weigh.specs.Refusals.{lcd, size}
use Rattle.weigh.proofs.NumeratorLaws.{over_size}
use Rattle.room.proofs.MultipleLaws.{multiplier_over}
use Rattle.monomial_weights.specs.Weighed.{AreItems, IsWithin, cost_at, item_bound}
use Rattle.kernel_statements.specs.Found.{DivideBy, HaveQuotients}
use Rattle.planner.specs.Contractions.{HaveAllQuotients}
use Rattle.planner.proofs.CostLaws.{costs_positive}

-- ---- the bound of items
at_least : (a b : ℕ) → 1 ≤ b → a ≤ a * b
at_least a b h = subst (λ n. n ≤ a * b) (N.mul-one a) (N.mul-le-mul_left a h)

module _ (l : Layout) (lawful : IsLawfulLayout l) (w : Weight) (m : Monomial) (a : IsAdmitted l.d w) (h : IsWithin l w m) where
  some_spread : 1 ≤ spread (cost_at l) l.d m
  some_spread =
      N.mul-pos (costs_positive l m.atoms)
      (N.one-le-pow (derivatives m.atoms) l.d (subst (λ d. 1 ≤ d) (sym lawful.1.dimension) (dimension_range lawful.0).0))

  load_below : size_over w.den m.c * 3 ^ derivatives m.atoms ≤ w.cost * w.num
  load_below = N.le_trans (at_least (size_over w.den m.c * 3 ^ derivatives m.atoms) (spread (cost_at l) l.d m) some_spread)
      (N.le_trans (N.le-add_right (size_over w.den m.c * 3 ^ derivatives m.atoms * spread (cost_at l) l.d m) 0) h.weighed.total)

  turned : (f d s c n : ℕ) → f * d * s * (c * n) ≡ f * d * c * n * s
  turned f d s c n = omega arith

  bound_below : item_bound l.d w m ≤ size l.d w
  bound_below =
      subst (λ n. item_bound l.d w m ≤ n) (turned (factorial (w.deg + l.d)) w.fac w.s w.cost w.num)
      (N.mul-le-mul_left (factorial (w.deg + l.d) * w.fac * w.s) load_below)

  small : (n : ℕ) → n ≤ item_bound l.d w m → n < 2 ^ 127
  small n p = N.lt_of_lt_of_le (N.lt_of_le_of_lt (N.le_trans p bound_below) a.size) (lit≤ tt)

  divides : (y x : Ratio) → Over (lcd l.d w) (item_bound l.d w m) (fraction_of y) → Over (lcd l.d w) (item_bound l.d w m) (fraction_of x) → DivideBy y x
  divides y x p q some =
      product_fits (size_over (lcd l.d w) (fraction_of y)) (item_bound l.d w m) (fraction_of x) (inverse (fraction_of y))
      (small (size_over (lcd l.d w) (fraction_of y)) (over_size (lcd l.d w) (item_bound l.d w m) (fraction_of y) p))
      (small (item_bound l.d w m) (N.le_refl (item_bound l.d w m)))
      (multiplier_over (lcd l.d w) (item_bound l.d w m) (item_bound l.d w m) (fraction_of y) (fraction_of x) p q some)

  divides_row : (y : Ratio) (xs : List Ratio) → Over (lcd l.d w) (item_bound l.d w m) (fraction_of y) → AreItems l.d w m xs → AllByRecursion (DivideBy y) xs
  divides_row y [] p q = tt
  divides_row y (x ∷ xs) p q = (divides y x p q.0, divides_row y xs p q.1)

  have_quotients : (xs ys : List Ratio) → AreItems l.d w m xs → AreItems l.d w m ys → HaveQuotients xs ys
  have_quotients xs [] p q = tt
  have_quotients xs (y ∷ ys) p q = (divides_row y xs q.0 p, have_quotients xs ys p q.1)

  of_rows : (rows : List (List Ratio)) (ys : List Ratio) → AllByRecursion (AreItems l.d w m) rows → AreItems l.d w m ys → AllByRecursion (λ xs. HaveQuotients xs ys) rows
  of_rows [] ys p q = tt
  of_rows (xs ∷ rows) ys p q = (have_quotients xs ys p.0 q, of_rows rows ys p.1 q)

  by_rows : (rows yss : List (List Ratio)) → AllByRecursion (AreItems l.d w m) rows → AllByRecursion (AreItems l.d w m) yss
      → AllByRecursion (λ ys. AllByRecursion (λ xs. HaveQuotients xs ys) rows) yss
  by_rows rows [] p q = tt
  by_rows rows (ys ∷ yss) p q = (of_rows rows ys p q.0, by_rows rows yss p q.1)

  pub all_quotients : (rows : List (List Ratio)) → AllByRecursion (AreItems l.d w m) rows → HaveAllQuotients rows
  all_quotients rows p = by_rows rows rows p p
