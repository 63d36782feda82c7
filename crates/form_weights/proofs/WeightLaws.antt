-- Weights over a table and over a layout that has its parts
use Rattle.std.proofs.Common.{◌≡◌, ℕ, ◌+◌, ◌*◌, ◌^◌, ◌≤◌, List, [], ◌∷◌, sym, ap, ap₂, subst, refl, arith}
use Rattle.std.specs.List.{AllByRecursion}
use Prim.Native.Nat.{◌∣◌}
use Rattle.ufl_tree.specs.declared.function.Function.{Function}
use Rattle.ufl_tree.specs.Places.{Table}
use Rattle.monos.specs.declared.layout.Layout.{Layout}
use Rattle.monos.specs.declared.mono.Atom.{Atom}
use Rattle.monos.specs.declared.weight.Weight.{Weight}
use Rattle.monos.specs.Monomial.{Monomial, derivatives}
use Rattle.weigh.specs.Lists.{costs, spread, load, spreads, loads, IsWeighed, HasWeight}
use Rattle.weigh.specs.Numerators.{size_over}
use Rattle.weigh.specs.Weighing.{function_weight, parts_weight}
use Rattle.normal.specs.Bounding.{cost_of, function_sum, HasNumbers, HaveNumbers}
use Rattle.monomial_weights.specs.Weighed.{weight_at, cost_at, degree_sum, IsWithin}
use Rattle.form_weights.specs.Places.{HasItsParts, HaveTheirParts}

-- ---- each of a list alone
module _ (cost : Function → ℕ) (d : ℕ) where
  alone : (l : ℕ) (m : Monomial) (ms : List Monomial) (s t : ℕ) → IsWeighed cost d l (m ∷ ms) s t → IsWeighed cost d l (m ∷ []) s t
  alone l m ms s t x = record {
    over = (x.over.0, tt);
    sum = first (spread cost d m) (spreads cost d ms) s x.sum;
    total = first (load cost d l m) (loads cost d l ms) t x.total;
  }
    where
      first : (a b c : ℕ) → a + b ≤ c → a + 0 ≤ c
      first a b c h = omega (arith, h)

  behind : (l : ℕ) (m : Monomial) (ms : List Monomial) (s t : ℕ) → IsWeighed cost d l (m ∷ ms) s t → IsWeighed cost d l ms s t
  behind l m ms s t x = record {
    over = x.over.1;
    sum = second (spread cost d m) (spreads cost d ms) s x.sum;
    total = second (load cost d l m) (loads cost d l ms) t x.total;
  }
    where
      second : (a b c : ℕ) → a + b ≤ c → b ≤ c
      second a b c h = omega (arith, h)

module _ (elements : Table) (l : Layout) where
  same_weight : (f : Function) → HasItsParts elements l f → function_weight elements f ≡ weight_at l f
  same_weight f h = ap parts_weight (sym h)

  -- ---- products and sums over atoms
  same_costs : (number : Weight → ℕ) (xs : List Atom) → AllByRecursion (λ a. HasItsParts elements l a.f) xs
      → costs (λ f. number (function_weight elements f)) xs ≡ costs (λ f. number (weight_at l f)) xs
  same_costs number [] h = refl
  same_costs number (x ∷ xs) h = ap₂ (λ w c. number w * c) (same_weight x.f h.0) (same_costs number xs h.1)

  same_degrees : (xs : List Atom) → AllByRecursion (λ a. HasItsParts elements l a.f) xs
      → function_sum (λ f. (function_weight elements f).deg) xs ≡ degree_sum l xs
  same_degrees [] h = refl
  same_degrees (x ∷ xs) h = ap₂ (λ w s. w.deg + s) (same_weight x.f h.0) (same_degrees xs h.1)

  -- ---- lists
  module _ (d : ℕ) where
    same_spread : (m : Monomial) → AllByRecursion (λ a. HasItsParts elements l a.f) m.atoms → spread (cost_of elements) d m ≡ spread (cost_at l) d m
    same_spread m h = ap (λ c. c * d ^ derivatives m.atoms) (same_costs (λ w. w.cost) m.atoms h)

    same_spreads : (ms : List Monomial) → HaveTheirParts elements l ms → spreads (cost_of elements) d ms ≡ spreads (cost_at l) d ms
    same_spreads [] h = refl
    same_spreads (m ∷ ms) h = ap₂ ◌+◌ (same_spread m h.0) (same_spreads ms h.1)

    same_loads : (n : ℕ) (ms : List Monomial) → HaveTheirParts elements l ms → loads (cost_of elements) d n ms ≡ loads (cost_at l) d n ms
    same_loads n [] h = refl
    same_loads n (m ∷ ms) h = ap₂ ◌+◌ (ap (λ s. size_over n m.c * 3 ^ derivatives m.atoms * s) (same_spread m h.0)) (same_loads n ms h.1)

    over_layout : (n : ℕ) (ms : List Monomial) (s t : ℕ) → HaveTheirParts elements l ms → IsWeighed (cost_of elements) d n ms s t → IsWeighed (cost_at l) d n ms s t
    over_layout n ms s t h x = record {
      over = x.over;
      sum = subst (λ k. k ≤ s) (same_spreads ms h) x.sum;
      total = subst (λ k. k ≤ t) (same_loads n ms h) x.total;
    }

  pub sum_weighed : (w : Weight) (ms : List Monomial) → HaveTheirParts elements l ms → HasWeight (cost_of elements) l.d w ms → HasWeight (cost_at l) l.d w ms
  sum_weighed w ms h x = over_layout l.d w.den ms w.cost (w.cost * w.num) h x

  one_within : (w : Weight) (m : Monomial) → AllByRecursion (λ a. HasItsParts elements l a.f) m.atoms → HasWeight (cost_at l) l.d w (m ∷ []) → HasNumbers elements w m.atoms → IsWithin l w m
  one_within w m h x n = record {
    weighed = x;
    functions = n.functions;
    least = n.least;
    greatest = n.greatest;
    degrees = subst (λ s. s ≤ w.deg + derivatives m.atoms) (same_degrees m.atoms h) n.degrees;
    fac = subst (λ c. c ∣ w.fac) (same_costs (λ v. v.fac) m.atoms h) n.fac;
    s = subst (λ c. c ≤ w.s) (same_costs (λ v. v.s) m.atoms h) n.s;
  }

  each_within : (w : Weight) (ms : List Monomial) → HaveTheirParts elements l ms → HasWeight (cost_at l) l.d w ms → HaveNumbers elements w ms → AllByRecursion (IsWithin l w) ms
  each_within w [] h x n = tt
  each_within w (m ∷ ms) h x n = (
    one_within w m h.0 (alone (cost_at l) l.d w.den m ms w.cost (w.cost * w.num) x) n.0,
    each_within w ms h.1 (behind (cost_at l) l.d w.den m ms w.cost (w.cost * w.num) x) n.1,
  )

  pub all_within : (w : Weight) (ms : List Monomial) → HaveTheirParts elements l ms → HasWeight (cost_of elements) l.d w ms → HaveNumbers elements w ms → AllByRecursion (IsWithin l w) ms
  all_within w ms h x n = each_within w ms h (sum_weighed w ms h x) n
