-- How large the coefficients of factors and basis functions are
use Rattle.std.proofs.Common.{◌≡◌, ℕ, zero, suc, ◌+◌, ◌*◌, ◌/◌, ◌<◌, ◌≤◌, ◌^◌, Bool, true, false, ◌&&◌, ◌==◌, nat_lt, ltb-true, is_none, List, [], ◌∷◌, length, refl, sym, ap, ◌∙◌, arith, Result, Err, IsErr, IsErrAnd}
use Rattle.std.specs.List.{list_all}
use native.Mathlib.Nat as N
use Rattle.algebra.specs.Ring.{natural}
use Rattle.algebra.specs.Fraction.{Fraction, fractions, one_fraction, inverse, negative as minus_fraction}
use Rattle.algebra.specs.Over.{Over}
use Rattle.algebra.proofs.OverLaws.{over_at, over_one, over_whole, over_reciprocal, over_negative}
use Rattle.calculus.specs.Polynomial.{Polynomial, nil, one, times, constant, coordinate, whole}
use Rattle.calculus.specs.Simplex.{is_less}
use Rattle.calculus.specs.LocalFunction.{factorial, degree_of, falling, vertex_factor}
use Rattle.calculus.specs.Rational.{natural_whole}
use Rattle.calculus.proofs.PolynomialLaws.{constant-one, constant-negative}
use Rattle.calculus.proofs.Barycentric.{coordinate_sum, basis_coordinate}
use Rattle.calculus.proofs.LocalFunctions.{factors_of}
use Rattle.calculus.proofs.Nodes.{factorial_positive}
use Rattle.polyalg.specs.Small.{over}
use Rattle.polyalg.specs.Terms.{value_of, IsPoly}
use Rattle.polyalg.specs.Range.{product_passes, sum_passes, RangeWhere}
use Rattle.polyalg.specs.Products.{product_steps}
use Rattle.polyalg.specs.Bounds.{HasSize}
use Rattle.polyalg.specs.declared.term.Term.{Term}
use Rattle.polyalg.specs.declared.fault.PolyFault.{PolyFault}
use Rattle.polyalg.proofs.SizeLaws.{size_at, size_weaken, size_lift, size_nil, size_constant, size_coordinate, size_whole, size_reciprocal, size_one, size_plus, size_negative, size_minus, size_times}
use Rattle.polyalg.proofs.ProductLaws.{range_on, range_residual}
use Rattle.polyalg.proofs.BoundLaws.{bounded, sums_fit, products_fit, multiples_fit}
use Rattle.spaces.specs.declared.cell.Cell.TheVariants.{Tetrahedron}
use Rattle.spaces.specs.Nodes.{nodes_of}
use Rattle.lagrange.specs.Bounds.{basis_bound}
use Rattle.spaces.proofs.NodeLaws.{by_degree, all_at, both_true, number_equal}
use Rattle.spaces.proofs.AllNodes.{complete}
use Rattle.lagrange.proofs.FactorLaws.{one_over}

-- ---- no step passes on polynomials of these sizes
pub sum_stays : (l b c : ℕ) (left right : List Term) → IsPoly left → IsPoly right → l < 2 ^ 127 → b + c < 2 ^ 127 → HasSize l b (value_of left) → HasSize l c (value_of right) → sum_passes left right ≡ false
sum_stays l b c left right p q h g s t = sums_fit l b c left right h g (bounded l b left p s) (bounded l c right q t)

pub product_stays : (l m b c : ℕ) (left right : List Term) → IsPoly left → IsPoly right → l * m < 2 ^ 127 → b * c < 2 ^ 127 → HasSize l b (value_of left) → HasSize m c (value_of right)
    → is_none (product_steps nil left right) ≡ false
product_stays l m b c left right p q h g s t = products_fit l m b c left right (N.mul-pos s.positive t.positive) h g (bounded l b left p s) (bounded m c right q t)

pub multiple_stays : (l m b n : ℕ) (x : Fraction) (terms : List Term) → IsPoly terms → l * m < 2 ^ 127 → b * n < 2 ^ 127 → HasSize l b (value_of terms) → Over m n x → product_passes x terms ≡ false
multiple_stays l m b n x terms p h g s o = multiples_fit l m b n x terms h g (bounded l b terms p s) o

-- so a refusal that is passed on is want of memory
pub never : (A : Type 0) (r : Result A PolyFault) (b : Bool) (f : PolyFault) → IsErr r → IsErrAnd r (λ x. x ≡ f) → b ≡ false → RangeWhere {A = Unit {0}} b (Err f) → RangeWhere {A = A} false r
never A r b f e h n k = range_residual A r false f e h (range_on (Unit {0}) A b false f k (λ t. sym n ∙ t))

-- ---- coordinates
pub sum_size : (d : ℕ) → HasSize 1 d (coordinate_sum d)
sum_size zero = size_nil 1 0 (N.zero-lt-suc 0)
sum_size (suc d) = size_weaken 1 (d + 1) (suc d) _ (omega arith) (size_plus 1 d 1 (coordinate_sum d) (coordinate d) (sum_size d) (size_coordinate d))

pub coordinate_size : (d j : ℕ) → d ≤ 3 → HasSize 1 4 (basis_coordinate d j)
coordinate_size d zero h = size_weaken 1 (1 + d) 4 _ (omega arith) (size_minus 1 1 d one (coordinate_sum d) size_one (sum_size d))
coordinate_size d (suc k) h = go (is_less k d)
  where
    go : (b : Bool) → HasSize 1 4 (elim b as (λ _. Polynomial) [ true ↦ coordinate k | false ↦ one ])
    go true = size_weaken 1 1 4 _ (omega arith) (size_coordinate k)
    go false = size_weaken 1 1 4 _ (omega arith) size_one

-- ---- factors
-- n (n + 1) .. (n + a - 1)
abbrev pub rising : ℕ → ℕ → ℕ
rising n zero = 1
rising n (suc a) = rising n a * (n + a)

pub falling_size : (n a : ℕ) (x : Polynomial) → HasSize 1 n x → HasSize 1 (rising n a) (falling x a)
falling_size n zero x s = size_one
falling_size n (suc a) x s = size_times 1 1 (rising n a) (n + a) _ _ (falling_size n a x s) (size_minus 1 n a x (whole a) s (size_whole a))

pub scaled_size : (q : ℕ) (b : Polynomial) → HasSize 1 4 b → HasSize 1 (q * 4) (times (whole q) b)
scaled_size q b s = size_times 1 1 q 4 (whole q) b (size_whole q) s

factor_size : (q a : ℕ) (b : Polynomial) → HasSize 1 4 b → 0 < factorial a → HasSize (factorial a) (rising (q * 4) a) (vertex_factor q b a)
factor_size q a b s h =
    size_lift (factorial a * 1) (1 * rising (q * 4) a) 1 (factorial a) (rising (q * 4) a) _ (omega arith) (once (factorial a)) (at_most (rising (q * 4) a))
    (size_times (factorial a) 1 1 (rising (q * 4) a) _ _ (size_reciprocal (factorial a) h) (falling_size (q * 4) a (times (whole q) b) (scaled_size q b s)))
  where
    once : (n : ℕ) → n * 1 * 1 ≡ n
    once n = omega arith

    at_most : (n : ℕ) → 1 * n * 1 ≤ n
    at_most n = omega arith

-- a factor over 6
abbrev Share : ℕ → ℕ → Type 0
Share q a = (k : ℕ) × (0 < k) × (factorial a * k ≡ 6) × (rising (q * 4) a * k ≤ 2184)

shares : (q : ℕ) → q ≤ 3 → (a : ℕ) → a ≤ 3 → Share q a
shares =
    by_degree (λ q. (a : ℕ) → a ≤ 3 → Share q a)
    (by_degree (Share 0) (6, omega arith, refl, omega arith) (6, omega arith, refl, omega arith) (3, omega arith, refl, omega arith) (1, omega arith, refl, omega arith))
    (by_degree (Share 1) (6, omega arith, refl, omega arith) (6, omega arith, refl, omega arith) (3, omega arith, refl, omega arith) (1, omega arith, refl, omega arith))
    (by_degree (Share 2) (6, omega arith, refl, omega arith) (6, omega arith, refl, omega arith) (3, omega arith, refl, omega arith) (1, omega arith, refl, omega arith))
    (by_degree (Share 3) (6, omega arith, refl, omega arith) (6, omega arith, refl, omega arith) (3, omega arith, refl, omega arith) (1, omega arith, refl, omega arith))

pub factor_within : (q a : ℕ) (b : Polynomial) → q ≤ 3 → a ≤ 3 → HasSize 1 4 b → HasSize 6 2184 (vertex_factor q b a)
factor_within q a b h g s =
    let k = shares q h a g in
    size_lift (factorial a) (rising (q * 4) a) k.0 6 2184 _ k.1 k.2 k.3 (factor_size q a b s (factorial_positive a))

pub rising_few : (q a : ℕ) → q ≤ 3 → a ≤ 3 → rising (q * 4) a ≤ 2184
rising_few q a h g = let k = shares q h a g in N.le_trans (once (rising (q * 4) a) k.0 k.1) k.3
  where
    once : (n k : ℕ) → 0 < k → n ≤ n * k
    once n zero h = absurd (omega arith)
    once n (suc k) h = omega (arith, N.mul-suc n k)

-- the product of the factors before vertex j, and one more
pub next_size : (q d j a : ℕ) (p : Polynomial) → q ≤ 3 → d ≤ 3 → a ≤ 3 → HasSize (6 ^ j) (2184 ^ j) p
    → HasSize (6 ^ j * 6) (2184 ^ j * 2184) (times p (vertex_factor q (basis_coordinate d j) a))
next_size q d j a p h g f s = size_times (6 ^ j) 6 (2184 ^ j) 2184 p _ s (factor_within q a (basis_coordinate d j) h f (coordinate_size d j g))

pub room : (j : ℕ) → j ≤ 3 → (6 ^ j * 6 < 2 ^ 127) × (2184 ^ j * 2184 < 2 ^ 127)
room = by_degree (λ j. (6 ^ j * 6 < 2 ^ 127) × (2184 ^ j * 2184 < 2 ^ 127)) (omega arith, omega arith) (omega arith, omega arith) (omega arith, omega arith) (omega arith, omega arith)

pub factorial_few : (a : ℕ) → a ≤ 3 → factorial a ≤ 6
factorial_few = by_degree (λ a. factorial a ≤ 6) (omega arith) (omega arith) (omega arith) (omega arith)

pub start_size : (o : Polynomial) (f : Fraction) → o ≡ constant f → f ≡ one_fraction → HasSize 1 1 o
start_size o f e h = size_at 1 1 o one (e ∙ ap constant h ∙ constant-one) size_one

pub step_size : (q d j a : ℕ) (p r : Polynomial) → r ≡ times p (vertex_factor q (basis_coordinate d j) a) → q ≤ 3 → d ≤ 3 → a ≤ 3 → HasSize (6 ^ j) (2184 ^ j) p
    → HasSize (6 ^ j * 6) (2184 ^ j * 2184) r
step_size q d j a p r e h g f s = size_at (6 ^ j * 6) (2184 ^ j * 2184) r _ e (next_size q d j a p h g f s)

-- ---- basis functions
abbrev factorials : List ℕ → ℕ
factorials [] = 1
factorials (a ∷ w) = factorial a * factorials w

abbrev risings : ℕ → List ℕ → ℕ
risings q [] = 1
risings q (a ∷ w) = rising (q * 4) a * risings q w

factors_size : (q d j : ℕ) (w : List ℕ) → d ≤ 3 → HasSize (factorials w) (risings q w) (factors_of q (basis_coordinate d) j w)
factors_size q d j [] h = size_one
factors_size q d j (a ∷ w) h =
    size_times (factorial a) (factorials w) (rising (q * 4) a) (risings q w) _ _ (factor_size q a (basis_coordinate d j) (coordinate_size d j h) (factorial_positive a)) (factors_size q d (suc j) w h)

-- the denominator divides q!, and the bound over q! is at most that of the degree
abbrev is_bounded : ℕ → List ℕ → Bool
is_bounded q w =
    (factorials w * (factorial q / factorials w) == factorial q)
    && (nat_lt 0 (factorial q / factorials w) && nat_lt (risings q w * (factorial q / factorials w)) (suc (basis_bound q)))

all_bounded : (q : ℕ) → q ≤ 3 → list_all (is_bounded q) (nodes_of Tetrahedron q) ≡ true
all_bounded = by_degree (λ q. list_all (is_bounded q) (nodes_of Tetrahedron q) ≡ true) refl refl refl refl

weights_bounded : (q : ℕ) (w : List ℕ) → q ≤ 3 → length w ≡ 4 → degree_of w ≡ q → is_bounded q w ≡ true
weights_bounded q w h l s =
    let k = complete Tetrahedron q w l s in
    sym (ap (is_bounded q) k.2) ∙ all_at (is_bounded q) (nodes_of Tetrahedron q) k.0 (all_bounded q h) k.1

pub basis_size : (q d : ℕ) (w : List ℕ) → q ≤ 3 → d ≤ 3 → length w ≡ 4 → degree_of w ≡ q → HasSize (factorial q) (basis_bound q) (factors_of q (basis_coordinate d) 0 w)
basis_size q d w h g l s =
    let k : ℕ = factorial q / factorials w in
    let t = both_true _ _ (weights_bounded q w h l s) in
    let u = both_true _ _ t.1 in
    let most : risings q w * (factorial q / factorials w) ≤ basis_bound q = omega (arith, ltb-true (risings q w * (factorial q / factorials w)) (suc (basis_bound q)) u.1) in
    size_lift (factorials w) (risings q w) (factorial q / factorials w) (factorial q) (basis_bound q) _
    (ltb-true 0 (factorial q / factorials w) u.0) (number_equal _ _ t.0) most (factors_size q d 0 w g)

-- ---- numbers that coefficients are multiplied with
pub whole_over : (n : ℕ) (f : Fraction) → f ≡ natural fractions n → Over 1 n f
whole_over n f e = over_at 1 n _ _ (sym (natural_whole n) ∙ sym e) (over_whole n)

pub reciprocal_over : (a n : ℕ) (f : Fraction) → f ≡ over 1 n → n ≡ factorial a → Over (factorial a) 1 f
reciprocal_over a n f e h =
    over_at (factorial a) 1 _ _ (ap inverse (sym (natural_whole (factorial a))) ∙ sym (e ∙ ap (over 1) h ∙ one_over (factorial a))) (over_reciprocal (factorial a) (factorial_positive a))

pub minus_one_over : (f g : Fraction) → f ≡ minus_fraction g → g ≡ one_fraction → Over 1 1 f
minus_one_over f g e h = over_at 1 1 _ _ (sym (e ∙ ap minus_fraction h)) (over_negative 1 1 one_fraction over_one)

-- a negative whole number as a polynomial
pub shift_size : (m : ℕ) (f : Fraction) (p : Polynomial) → f ≡ minus_fraction (natural fractions m) → p ≡ constant f → HasSize 1 m p
shift_size m f p e h = size_at 1 m _ _ (h ∙ ap constant e ∙ constant-negative (natural fractions m)) (size_negative 1 m (whole m) (size_whole m))

pub negated_size : (k : ℕ) (f g : Fraction) (p n : Polynomial) → p ≡ coordinate_sum k → f ≡ minus_fraction g → g ≡ one_fraction → n ≡ times (constant f) p → HasSize 1 (1 * k) n
negated_size k f g p n e h i m =
    size_at 1 (1 * k) n _ m (size_times 1 1 1 k (constant f) p (size_constant 1 1 f (minus_one_over f g h i)) (size_at 1 k p _ e (sum_size k)))
