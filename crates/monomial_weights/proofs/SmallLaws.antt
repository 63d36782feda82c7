-- What is small where an admitted weight bounds a monomial
use Rattle.std.proofs.Common.{◌≡◌, ℕ, zero, suc, ◌+◌, ◌-◌, ◌*◌, ◌^◌, ◌<◌, ◌≤◌, max, true, false, sym, subst, lit≤, arith}
use Prim.Native.Nat.{◌∣◌}
use native.Mathlib.Nat as N
use Rattle.algebra.specs.Fraction.{is_zero_fraction}
use Rattle.algebra.specs.Over.{Over}
use Rattle.algebra.proofs.OverLaws.{over_positive}
use Rattle.calculus.specs.LocalFunction.{factorial}
use Rattle.calculus.proofs.Nodes.{factorial_positive}
use Rattle.spaces.proofs.NodeLaws.{dimension_range}
use Rattle.ufl_tree.specs.declared.function.Function.{Function}
use Rattle.monos.specs.declared.layout.Layout.{Layout}
use Rattle.monos.specs.declared.weight.Weight.{Weight}
use Rattle.monos.specs.Layout.{IsLawfulLayout, role_parts}
use Rattle.monos.specs.Monomial.{Monomial, derivatives}
use Rattle.weigh.specs.Admitted.{IsAdmitted}
use Rattle.weigh.specs.Lists.{spread}
use Rattle.weigh.specs.Numerators.{size_over}
use Rattle.weigh.specs.Refusals.{size}
use Rattle.weigh.proofs.NumeratorLaws.{over_multiple}
use Rattle.monomial_products.specs.Products.{are_alive, IsSmall, HaveSmallProducts, degree_left, denominator, coefficient_bound}
use Rattle.monomial_items.specs.Integrals.{AreFitting}
use Rattle.monomial_weights.specs.Weighed.{cost_at, degree_sum, IsWithin}
use Rattle.monomial_weights.proofs.PartLaws.{nodes_covered, costs_positive, spread_covered, bound_covered, denominators_divide, degrees_fall}

-- ---- factorials
pub factorial_divides : (n k : ℕ) → factorial n ∣ factorial (n + k)
factorial_divides n zero = subst (λ k. factorial n ∣ factorial k) (sym (N.add-zero n)) (N.dvd_refl (factorial n))
factorial_divides n (suc k) =
    subst (λ k. factorial n ∣ factorial k) (sym (N.add-suc n k)) (N.dvd_trans (factorial n) (factorial_divides n k) (N.dvd-mul_left (factorial (n + k)) (suc (n + k))))

pub factorial_within : (m n : ℕ) → m ≤ n → factorial m ∣ factorial n
factorial_within m n h = subst (λ k. factorial m ∣ factorial k) (rest h) (factorial_divides m (n - m))
  where
    rest : m ≤ n → m + (n - m) ≡ n
    rest h = omega (arith, h)

-- ---- what an admitted weight bounds
at_least : (x k : ℕ) → 1 ≤ k → x ≤ x * k
at_least x k h = N.le-mul_of_pos_right x h

cost_positive : (l : Layout) (f : Function) → 1 ≤ cost_at l f
cost_positive l f = N.le_trans (some _) (nodes_covered (role_parts l f.role) 0)
  where
    some : (n : ℕ) → 1 ≤ max 1 n
    some n = omega arith

-- a part of a product
part_below : (x y k z : ℕ) → x ≤ y → 1 ≤ k → y * k ≡ z → x ≤ z
part_below x y k z h p e = N.le_trans h (subst (λ n. y ≤ n) e (at_least y k p))

-- parts of a size: of the factorial f, the denominator d, the cost c, the sum of coefficients n and that of products s
denominators_part : (f d c n s : ℕ) → d * (f * c * n * s) ≡ f * d * c * n * s
denominators_part f d c n s = omega arith

integrals_part : (f d c n s : ℕ) → d * f * (c * n * s) ≡ f * d * c * n * s
integrals_part f d c n s = omega arith

bounds_part : (f d c n s : ℕ) → s * (c * n) * (f * d) ≡ f * d * c * n * s
bounds_part f d c n s = omega arith

sums_part : (f d c n s : ℕ) → s * (c * n) * f * d ≡ f * d * c * n * s
sums_part f d c n s = omega arith

numbers_part : (f d c n s : ℕ) → n * (d * f) * (c * s) ≡ f * d * c * n * s
numbers_part f d c n s = omega arith

-- a number's size i with the bound b of products, of which r is the growth by derivatives
number_bound : (i b r e f s t : ℕ) → b ≤ s * r → i * r ≤ t → e ≤ f → i * (b * e) ≤ s * t * f
number_bound i b r e f s t h k g =
    N.le_trans (N.mul-le-mul_left i (N.mul-le-mul h g)) (turned (N.mul-le-mul_right (s * f) k))
  where
    turned : i * r * (s * f) ≤ t * (s * f) → i * (s * r * f) ≤ s * t * f
    turned q = omega (arith, q)

module _ (l : Layout) (w : Weight) (m : Monomial) (a : IsAdmitted l.d w) (h : IsWithin l w m) where
  abbrev F : ℕ
  F = factorial (w.deg + l.d)

  pub some_factorial : 1 ≤ factorial (w.deg + l.d)
  some_factorial = factorial_positive (w.deg + l.d)

  some_num : 1 ≤ w.num
  some_num = N.le_trans a.one_den a.parts

  small_size : (x : ℕ) → x ≤ size l.d w → x < 2 ^ 127
  small_size x p = N.lt_of_lt_of_le (N.lt_of_le_of_lt p a.size) (lit≤ tt)

  alone : spread (cost_at l) l.d m ≤ w.cost
  alone = N.le_trans (N.le-add_right (spread (cost_at l) l.d m) 0) h.weighed.sum

  pub is_small : IsSmall l m.atoms
  is_small = record {
    atoms = N.le_trans h.functions (N.le_trans a.functions a.factors);
    spread = N.le_trans (N.le_trans (spread_covered l m.atoms) alone) a.cost;
  }

  pub number_over : Over w.den (size_over w.den m.c) m.c
  number_over = over_multiple w.den m.c a.one_den h.weighed.over.0

  pub denominator_within : denominator l m.atoms ∣ w.fac
  denominator_within = N.dvd_trans (denominator l m.atoms) (denominators_divide l m.atoms) h.fac

  denominator_below : denominator l m.atoms ≤ w.fac
  denominator_below = N.le_of_dvd a.one_fac denominator_within

  pub bound_below : coefficient_bound l m.atoms ≤ w.s * 3 ^ derivatives m.atoms
  bound_below = N.le_trans (bound_covered l m.atoms) (N.mul-le-mul_right (3 ^ derivatives m.atoms) h.s)

  degree_below : are_alive l m.atoms ≡ true → degree_left l m.atoms ≤ w.deg
  degree_below e = below (degree_left l m.atoms) (derivatives m.atoms) (degree_sum l m.atoms) (degrees_fall l m.atoms e) h.degrees
    where
      below : (n r t : ℕ) → n + r ≤ t → t ≤ w.deg + r → n ≤ w.deg
      below n r t p q = omega (arith, p, q)

  pub factorial_below : are_alive l m.atoms ≡ true → factorial (degree_left l m.atoms + l.d) ∣ factorial (w.deg + l.d)
  factorial_below e = factorial_within (degree_left l m.atoms + l.d) (w.deg + l.d) (N.add-le-add (degree_below e) (N.le_refl l.d))

  cost_sum : 1 ≤ w.cost * w.num
  cost_sum = N.mul-pos a.one_cost some_num

  -- ---- with a number that isn't 0
  module _ (lawful : IsLawfulLayout l) (z : is_zero_fraction m.c ≡ false) where
    some_dimension : 1 ≤ l.d
    some_dimension = subst (λ d. 1 ≤ d) (sym lawful.1.dimension) (dimension_range lawful.0).0

    some_size : 1 ≤ size_over w.den m.c
    some_size = N.le_trans (over_positive w.den (size_over w.den m.c) m.c number_over z) number_over.bound

    some_spread : 1 ≤ spread (cost_at l) l.d m
    some_spread = N.mul-pos (costs_positive (cost_at l) (cost_positive l) m.atoms) (N.one-le-pow (derivatives m.atoms) l.d some_dimension)

    -- the number's size and the growth of derivatives
    load_below : size_over w.den m.c * 3 ^ derivatives m.atoms ≤ w.cost * w.num
    load_below = N.le_trans (at_least (size_over w.den m.c * 3 ^ derivatives m.atoms) (spread (cost_at l) l.d m) some_spread)
        (N.le_trans (N.le-add_right (size_over w.den m.c * 3 ^ derivatives m.atoms * spread (cost_at l) l.d m) 0) h.weighed.total)

    growth_below : 3 ^ derivatives m.atoms ≤ w.cost * w.num
    growth_below = N.le_trans (subst (λ n. 3 ^ derivatives m.atoms ≤ n) (N.mul_comm (3 ^ derivatives m.atoms) (size_over w.den m.c)) (at_least (3 ^ derivatives m.atoms) (size_over w.den m.c) some_size)) load_below

    sum_below : coefficient_bound l m.atoms ≤ w.s * (w.cost * w.num)
    sum_below = N.le_trans bound_below (N.mul-le-mul_left w.s growth_below)

    pub small_products : HaveSmallProducts l m.atoms
    small_products = record {
      denominator = small_size (denominator l m.atoms)
          (part_below _ w.fac (F * w.cost * w.num * w.s) _ denominator_below (N.mul-pos (N.mul-pos (N.mul-pos some_factorial a.one_cost) some_num) a.one_s)
          (denominators_part F w.fac w.cost w.num w.s));
      sum = small_size (coefficient_bound l m.atoms)
          (part_below _ (w.s * (w.cost * w.num)) (F * w.fac) _ sum_below (N.mul-pos some_factorial a.one_fac) (bounds_part F w.fac w.cost w.num w.s));
    }

    module _ (alive : are_alive l m.atoms ≡ true) where
      abbrev f : ℕ
      f = factorial (degree_left l m.atoms + l.d)

      f_below : f ≤ F
      f_below = N.le_of_dvd some_factorial (factorial_below alive)

      integral_below : denominator l m.atoms * f ≤ w.fac * F
      integral_below = N.mul-le-mul denominator_below f_below

      pub small_integrals : AreFitting l.d (degree_left l m.atoms) (denominator l m.atoms) (coefficient_bound l m.atoms) m.c
      small_integrals = record {
        j = w.den;
        i = size_over w.den m.c;
        number = number_over;
        integral = small_size (denominator l m.atoms * f)
            (part_below _ (w.fac * F) (w.cost * w.num * w.s) _ integral_below (N.mul-pos cost_sum a.one_s) (integrals_part F w.fac w.cost w.num w.s));
        sum = small_size (coefficient_bound l m.atoms * f)
            (part_below _ (w.s * (w.cost * w.num) * F) w.fac _ (N.mul-le-mul sum_below f_below) a.one_fac (sums_part F w.fac w.cost w.num w.s));
        denominator = small_size (w.den * (denominator l m.atoms * f))
            (part_below _ (w.num * (w.fac * F)) (w.cost * w.s) _ (N.mul-le-mul a.parts integral_below) (N.mul-pos a.one_cost a.one_s) (numbers_part F w.fac w.cost w.num w.s));
        size = small_size (size_over w.den m.c * (coefficient_bound l m.atoms * f))
            (part_below _ (w.s * (w.cost * w.num) * F) w.fac _
            (number_bound (size_over w.den m.c) (coefficient_bound l m.atoms) (3 ^ derivatives m.atoms) f F w.s (w.cost * w.num) bound_below load_below f_below)
            a.one_fac (sums_part F w.fac w.cost w.num w.s));
      }
