-- The factors of a basis function
use Rattle.std.proofs.Common.{◌≡◌, ℕ, zero, suc, ◌+◌, ◌-◌, ◌<◌, ◌≤◌, true, false, List, [], ◌∷◌, length, get_or, refl, sym, ap, ap₂, ◌∙◌, arith}
use Rattle.algebra.specs.Ring.{natural}
use Rattle.algebra.specs.RingLaws as L
use Rattle.algebra.specs.Solver.{at, ◌⊗◌, unity}
use Rattle.algebra.specs.Sound as Solve
use Rattle.algebra.specs.Fraction.{Fraction, fractions, zero_fraction, one_fraction, add_zero, mul, mul_one, mul_comm, inverse, negative as minus_fraction}
use Rattle.calculus.specs.Polynomial.{Polynomial, one, plus, times, negative, constant, coordinate, whole, polynomials}
use Rattle.calculus.specs.Simplex.{is_less}
use Rattle.calculus.specs.LocalFunction.{factorial, degree_of, falling, vertex_factor}
use Rattle.calculus.proofs.PolynomialLaws.{constant-one, constant-zero, constant-negative}
use Rattle.calculus.proofs.Barycentric.{coordinate_sum, basis_coordinate}
use Rattle.calculus.proofs.LocalFunctions.{factors_of}
use Rattle.polyalg.specs.Small.{over}

-- ---- the factor of a vertex
pub factor_begin : (x p : Polynomial) (f : Fraction) → p ≡ constant f → f ≡ one_fraction → p ≡ falling x 0
factor_begin x p f e h = e ∙ ap constant h ∙ constant-one

pub scaled_is : (q : ℕ) (b s : Polynomial) (f : Fraction) → s ≡ times (constant f) b → f ≡ natural fractions q → s ≡ times (whole q) b
scaled_is q b s f e h = e ∙ ap (λ c. times (constant c) b) h

pub negated_is : (m : ℕ) (f g : Fraction) → f ≡ minus_fraction g → g ≡ natural fractions m → f ≡ minus_fraction (natural fractions m)
negated_is m f g e h = e ∙ ap minus_fraction h

pub factor_step : (x p s shift next r : Polynomial) (f : Fraction) (m : ℕ) → p ≡ falling x m → s ≡ x → f ≡ minus_fraction (natural fractions m)
    → shift ≡ constant f → next ≡ plus s shift → r ≡ times p next → r ≡ falling x (suc m)
factor_step x p s shift next r f m pe se fe he ne re =
    re ∙ ap₂ times pe (ne ∙ ap₂ plus se (he ∙ ap constant fe ∙ constant-negative (natural fractions m)))

pub one_over : (n : ℕ) → over 1 n ≡ inverse (natural fractions n)
one_over n = ap (λ x. mul x (inverse (natural fractions n))) (add_zero one_fraction) ∙ mul_comm one_fraction (inverse (natural fractions n)) ∙ mul_one (inverse (natural fractions n))

pub factor_done : (q : ℕ) (b p : Polynomial) (a m n : ℕ) (r : Polynomial) (f : Fraction) → r ≡ times (constant f) p → f ≡ over 1 n → n ≡ factorial a
    → p ≡ falling (times (whole q) b) m → m ≡ a → r ≡ vertex_factor q b a
factor_done q b p a m n r f re fe ne pe me =
    re ∙ ap₂ (λ c x. times (constant c) x) (fe ∙ one_over n ∙ ap (λ k. inverse (natural fractions k)) ne) (pe ∙ ap (falling (times (whole q) b)) me)

-- ---- the coordinate of the corner
pub sum_begin : (p : Polynomial) (f : Fraction) → p ≡ constant f → f ≡ zero_fraction → p ≡ coordinate_sum 0
sum_begin p f e h = e ∙ ap constant h ∙ constant-zero

pub sum_step : (k : ℕ) (p v r : Polynomial) → p ≡ coordinate_sum k → v ≡ coordinate k → r ≡ plus p v → r ≡ coordinate_sum (suc k)
sum_step k p v r pe ve re = re ∙ ap₂ plus pe ve

pub corner_is : (d k : ℕ) (p n o r : Polynomial) (f g h : Fraction) → p ≡ coordinate_sum k → k ≡ d → f ≡ minus_fraction g → g ≡ one_fraction → n ≡ times (constant f) p
    → h ≡ one_fraction → o ≡ constant h → r ≡ plus o n → r ≡ basis_coordinate d 0
corner_is d k p n o r f g h pe ke fe ge ne he oe re =
    re
    ∙ ap₂ plus (oe ∙ ap constant he ∙ constant-one)
    (ne ∙ ap₂ (λ c x. times c x) (ap constant (fe ∙ ap minus_fraction ge) ∙ constant-negative one_fraction ∙ ap negative constant-one) (pe ∙ ap coordinate_sum ke)
    ∙ L.neg_one-mul polynomials (coordinate_sum d))

-- ---- the other coordinates
less_true : (m n : ℕ) → m < n → is_less m n ≡ true
less_true m zero h = absurd (omega arith)
less_true zero (suc n) h = refl
less_true (suc m) (suc n) h = less_true m n (omega arith)

less_false : (m n : ℕ) → n ≤ m → is_less m n ≡ false
less_false m zero h = refl
less_false zero (suc n) h = absurd (omega arith)
less_false (suc m) (suc n) h = less_false m n (omega arith)

pub within_is : (d j : ℕ) → 0 < j → j ≤ d → basis_coordinate d j ≡ coordinate (j - 1)
within_is d zero h g = absurd (omega arith)
within_is d (suc k) h g =
    let e : suc k - 1 ≡ k = omega arith in
    ap (λ b. elim b as (λ _. Polynomial) [ true ↦ coordinate k | false ↦ one ]) (less_true k d (omega arith)) ∙ ap coordinate (sym e)

pub beyond_is : (d j : ℕ) → d < j → basis_coordinate d j ≡ one
beyond_is d zero h = absurd (omega arith)
beyond_is d (suc k) h = ap (λ b. elim b as (λ _. Polynomial) [ true ↦ coordinate k | false ↦ one ]) (less_false k d (omega arith))

-- ---- four factors
pub four_weights : (q : ℕ) (b : ℕ → Polynomial) (ws : List ℕ) → length ws ≡ 4
    → factors_of q b 0 ws
    ≡ times (times (times (times one (vertex_factor q (b 0) (get_or ws 0 0))) (vertex_factor q (b 1) (get_or ws 1 0))) (vertex_factor q (b 2) (get_or ws 2 0))) (vertex_factor q (b 3) (get_or ws 3 0))
four_weights q b [] e = absurd (omega arith)
four_weights q b (x ∷ []) e = absurd (omega arith)
four_weights q b (x ∷ y ∷ []) e = absurd (omega arith)
four_weights q b (x ∷ y ∷ z ∷ []) e = absurd (omega arith)
four_weights q b (x ∷ y ∷ z ∷ w ∷ []) e =
    Solve.ring polynomials (vertex_factor q (b 0) x ∷ vertex_factor q (b 1) y ∷ vertex_factor q (b 2) z ∷ vertex_factor q (b 3) w ∷ [])
    (at 0 ⊗ (at 1 ⊗ (at 2 ⊗ (at 3 ⊗ unity)))) ((((unity ⊗ at 0) ⊗ at 1) ⊗ at 2) ⊗ at 3) refl
four_weights q b (x ∷ y ∷ z ∷ w ∷ v ∷ vs) e = absurd (omega arith)

pub product_is : (q : ℕ) (b : ℕ → Polynomial) (ws : List ℕ) (o p1 p2 p3 p4 : Polynomial) (f : Fraction) → length ws ≡ 4 → o ≡ constant f → f ≡ one_fraction
    → p1 ≡ times o (vertex_factor q (b 0) (get_or ws 0 0)) → p2 ≡ times p1 (vertex_factor q (b 1) (get_or ws 1 0))
    → p3 ≡ times p2 (vertex_factor q (b 2) (get_or ws 2 0)) → p4 ≡ times p3 (vertex_factor q (b 3) (get_or ws 3 0)) → p4 ≡ factors_of q b 0 ws
product_is q b ws o p1 p2 p3 p4 f n oe fe e1 e2 e3 e4 =
    e4 ∙ ap (λ p. times p (vertex_factor q (b 3) (get_or ws 3 0)))
    (e3 ∙ ap (λ p. times p (vertex_factor q (b 2) (get_or ws 2 0)))
    (e2 ∙ ap (λ p. times p (vertex_factor q (b 1) (get_or ws 1 0)))
    (e1 ∙ ap (λ p. times p (vertex_factor q (b 0) (get_or ws 0 0))) (oe ∙ ap constant fe ∙ constant-one))))
    ∙ sym (four_weights q b ws n)

-- the factor of a vertex that the polynomial is multiplied by
pub with_factor_is : (q j d a : ℕ) (p b f r : Polynomial) → r ≡ times p f → f ≡ vertex_factor q b a → b ≡ basis_coordinate d j → r ≡ times p (vertex_factor q (basis_coordinate d j) a)
with_factor_is q j d a p b f r re fe be = re ∙ ap (times p) (fe ∙ ap (λ x. vertex_factor q x a) be)

pub four_sum : (ws : List ℕ) → length ws ≡ 4 → degree_of ws ≡ get_or ws 0 0 + get_or ws 1 0 + get_or ws 2 0 + get_or ws 3 0
four_sum [] e = absurd (omega arith)
four_sum (x ∷ []) e = absurd (omega arith)
four_sum (x ∷ y ∷ []) e = absurd (omega arith)
four_sum (x ∷ y ∷ z ∷ []) e = absurd (omega arith)
four_sum (x ∷ y ∷ z ∷ w ∷ []) e = omega arith
four_sum (x ∷ y ∷ z ∷ w ∷ v ∷ vs) e = absurd (omega arith)
