-- The items of a monomial within an admitted weight, over the weight's denominator
use Rattle.std.proofs.Common.{◌≡◌, ℕ, zero, suc, ◌+◌, ◌*◌, ◌/◌, ◌^◌, ◌≤◌, true, List, [], ◌∷◌, sym, ap₂, subst, ◌∙◌, arith}
use native.Mathlib.Nat as N
use Rattle.algebra.specs.Fraction.{Fraction}
use Rattle.algebra.specs.Over.{Over}
use Rattle.algebra.proofs.OverLaws.{over_lift, over_weaken}
use Rattle.calculus.specs.LocalFunction.{factorial}
use Rattle.ratio.specs.declared.reduced.Ratio.{Ratio}
use Rattle.ratio.specs.Value.{fraction_of}
use Rattle.monos.specs.declared.layout.Layout.{Layout}
use Rattle.monos.specs.declared.weight.Weight.{Weight}
use Rattle.monos.specs.Monomial.{Monomial, derivatives}
use Rattle.weigh.specs.Admitted.{IsAdmitted}
use Rattle.weigh.specs.Numerators.{size_over}
use Rattle.weigh.specs.Refusals.{lcd}
use Rattle.weigh.proofs.LcmLaws.{times_of}
use Rattle.monomial_products.specs.Products.{are_alive, degree_left, denominator, coefficient_bound}
use Rattle.monomial_items.specs.Integrals.{AreWithin}
use Rattle.monomial_weights.specs.Weighed.{IsWithin, item_bound, AreItems}
use Rattle.monomial_weights.proofs.SmallLaws.{some_factorial, denominator_within, bound_below, factorial_below}

-- how often a number goes into a multiple of it that isn't 0
quotient_positive : (n m q : ℕ) → 1 ≤ m → m ≡ n * q → 1 ≤ q
quotient_positive n m zero h e = absurd (let z : n * 0 ≡ 0 = N.mul-zero n in omega (arith, h, e, z))
quotient_positive n m (suc q) h e = omega arith

quotient_below : (n m q : ℕ) → 1 ≤ m → m ≡ n * q → q ≤ m
quotient_below zero m q h e = absurd (let z : 0 * q ≡ 0 = N.zero-mul q in omega (arith, h, e, z))
quotient_below (suc n) m q h e = subst (λ k. q ≤ k) (sym e) (grow (N.le-mul_of_pos_right q (N.zero-lt-suc n)))
  where
    grow : q ≤ q * suc n → q ≤ suc n * q
    grow g = omega (arith, g)

module _ (l : Layout) (w : Weight) (m : Monomial) (a : IsAdmitted l.d w) (h : IsWithin l w m) (alive : are_alive l m.atoms ≡ true) where
  abbrev F : ℕ
  F = factorial (w.deg + l.d)

  abbrev f : ℕ
  f = factorial (degree_left l m.atoms + l.d)

  abbrev d : ℕ
  d = denominator l m.atoms

  -- what the denominator lacks
  abbrev k : ℕ
  k = F / f * (w.fac / d)

  F_is : F ≡ f * (F / f)
  F_is = times_of f F (factorial_below l w m a h alive)

  fac_is : w.fac ≡ d * (w.fac / d)
  fac_is = times_of d w.fac (denominator_within l w m a h)

  lcd_is : w.den * (d * f) * k ≡ lcd l.d w
  lcd_is = turned w.den d f (F / f) (w.fac / d) ∙ sym (ap₂ (λ p q. p * w.den * q) F_is fac_is)
    where
      turned : (n d f q r : ℕ) → n * (d * f) * (q * r) ≡ f * q * n * (d * r)
      turned n d f q r = omega arith

  bound_is : (i b r s : ℕ) → b ≤ s * r → i * (b * f) * k ≤ F * w.fac * s * (i * r)
  bound_is i b r s p =
      subst (λ n. i * (b * f) * k ≤ n * w.fac * s * (i * r)) (sym F_is)
      (turned (F / f) (w.fac / d) (N.mul-le-mul (N.mul-le-mul_left (i * f * (F / f)) p) (quotient_below d w.fac (w.fac / d) a.one_fac fac_is)))
    where
      turned : (q e : ℕ) → i * f * q * b * e ≤ i * f * q * (s * r) * w.fac → i * (b * f) * (q * e) ≤ f * q * w.fac * s * (i * r)
      turned q e g = omega (arith, g)

  item_within : (x : Fraction) → Over (w.den * (d * f)) (size_over w.den m.c * (coefficient_bound l m.atoms * f)) x → Over (lcd l.d w) (item_bound l.d w m) x
  item_within x o =
      over_weaken (lcd l.d w) _ (item_bound l.d w m) x
      (bound_is (size_over w.den m.c) (coefficient_bound l m.atoms) (3 ^ derivatives m.atoms) w.s (bound_below l w m a h))
      (subst (λ n. Over n (size_over w.den m.c * (coefficient_bound l m.atoms * f) * k) x) lcd_is
      (over_lift (w.den * (d * f)) (size_over w.den m.c * (coefficient_bound l m.atoms * f)) k x
      (N.mul-pos (quotient_positive f F (F / f) (some_factorial l w m a h) F_is) (quotient_positive d w.fac (w.fac / d) a.one_fac fac_is)) o))

  pub items_within : (xs : List Ratio) → AreWithin l m.atoms w.den (size_over w.den m.c) xs → AreItems l.d w m xs
  items_within [] o = tt
  items_within (x ∷ xs) o = (item_within (fraction_of x) o.0, items_within xs o.1)
