-- Derived functions: their values, their bounds, and why no step of theirs passes
use Rattle.std.proofs.Common.{◌≡◌, ℕ, zero, suc, ◌+◌, ◌-◌, ◌*◌, ◌^◌, ◌<◌, ◌≤◌, false, List, [], ◌∷◌, ◌++◌, length, get_or, map, replicate, refl, sym, ap, ◌∙◌, arith, add-one, subst}
use Rattle.std.specs.List.{flat_map}
use native.Mathlib.Nat as N
use Rattle.std.proofs.Math.Nat.{pow-zero, pow-suc}
use Rattle.algebra.proofs.OverLaws.{are_weaken}
use Rattle.calculus.specs.Polynomial.{Polynomial, derivative}
use Rattle.polyalg.specs.Terms.{value_of, IsPoly}
use Rattle.polyalg.specs.Products.{degree_of}
use Rattle.polyalg.specs.Bounds.{coefficients, CoefficientsOver}
use Rattle.polyalg.specs.Range.{derivative_passes}
use Rattle.polyalg.specs.declared.term.Term.{Term}
use Rattle.polyalg.proofs.DerivedBounds.{derivatives_fit, derived_bounded}
use Rattle.polyalg.proofs.Variables.{derivative_variables}
use Rattle.std.specs.Prelude.{slice_index_or}
use Rattle.refint.proofs.Combined.{map_length}
use Rattle.calculus.specs.Simplex.{reference}
use Rattle.calculus.specs.LocalFunction.{local_function, factorial}
use Rattle.spaces.specs.declared.cell.Cell.{Cell}
use Rattle.spaces.specs.declared.parts.Part.{Part}
use Rattle.spaces.specs.Cell.{dimension}
use Rattle.spaces.specs.Nodes.{nodes_of}
use Rattle.lagrange.specs.Bounds.{basis_bound}
use Rattle.polyalg.specs.ReferenceIntegral.{VariablesBelow}
use Rattle.refint.specs.Local.{numbers_below, cell_in, node_function}
use Rattle.refint.specs.Reference.{along_all, digit_lists}
use Rattle.refint.proofs.Lists.{first_mapped, map_map, flat_same}
use Rattle.basis_products.specs.Functions.{all_along, derived_functions, IsBounded, AreBounded}
use Rattle.basis_products.proofs.Lists.{all_weaken, all_pushed, all_at, flat_length}
use Rattle.basis_products.proofs.DegreeLaws.{derivative_degree}

-- ---- values
pub along_more : (d i : ℕ) (p : Polynomial) → all_along d (i + 1) p ≡ flat_map (λ k. map (derivative k) (all_along d i p)) (numbers_below d)
along_more d i p =
    ap (λ n. all_along d n p) (add-one i)
    ∙ first_mapped (λ ds. along_all ds p) d (replicate i d)
    ∙ flat_same _ _ (λ k. sym (map_map (derivative k) (λ ds. along_all ds p) (digit_lists (replicate i d)))) (numbers_below d)

-- ---- bounds
pub bounded_within : (d n m l b c : ℕ) (ts : List Term) → n ≤ m → b ≤ c → IsBounded d n l b ts → IsBounded d m l c ts
bounded_within d n m l b c ts h g s = record { degree = omega (arith, s.degree); variables = s.variables; over = are_weaken l b c (coefficients ts) g s.over; lawful = s.lawful }

pub all_within : (d n m l b c : ℕ) (ps : List (List Term)) → n ≤ m → b ≤ c → AreBounded d n l b ps → AreBounded d m l c ps
all_within d n m l b c ps h g s = all_weaken (IsBounded d n l b) (IsBounded d m l c) (λ ts. bounded_within d n m l b c ts h g) ps s

pub derived_is_bounded : (d n l b k : ℕ) (ts out : List Term) → k < 3 → 0 < l → IsPoly out → value_of out ≡ derivative k (value_of ts)
    → IsBounded d n l b ts → IsBounded d (n - 1) l (b * n) out
derived_is_bounded d n l b k ts out h g q e s = record {
  degree = derivative_degree k n ts out h s.lawful q e s.degree;
  variables = derivative_variables d k ts out h s.lawful q e s.variables;
  over = derived_bounded l b n k ts out g s.lawful q e s.degree s.over;
  lawful = q;
}

pub derived_fits : (d n l b k : ℕ) (ts : List Term) → l < 2 ^ 127 → b * n < 2 ^ 127 → IsBounded d n l b ts → derivative_passes k ts ≡ false
derived_fits d n l b k ts h g s = derivatives_fit l b n k ts h g s.lawful.terms s.degree s.over

-- those of all functions, in any order
pub all_derived : (d n l b k : ℕ) (fs : List (List Term)) (i : ℕ) (x out : List Term) (old new : List (List Term)) → k < 3 → 0 < l → i < length fs → x ≡ get_or fs i x
    → IsPoly out → value_of out ≡ derivative k (value_of x) → new ≡ old ++ out ∷ [] → AreBounded d n l b fs → AreBounded d (n - 1) l (b * n) old → AreBounded d (n - 1) l (b * n) new
all_derived d n l b k fs i x out old new h g m is q e a f o =
    all_pushed (IsBounded d (n - 1) l (b * n)) old new out a o (derived_is_bounded d n l b k x out h g q e (all_at (IsBounded d n l b) fs i x m is f))

-- ---- so many derivatives of a function of degree at most 3
-- the bounds after one more
step_within : (n i b : ℕ) → n ≤ 3 → b * 3 ^ i * (n - i) ≤ b * 3 ^ (i + 1)
step_within n i b h =
    let few : b * 3 ^ i * (n - i) ≤ b * 3 ^ i * 3 = N.mul-le-mul_left (b * 3 ^ i) (omega arith) in
    let e : 3 ^ (i + 1) ≡ 3 ^ i * 3 = ap (λ m. 3 ^ m) (add-one i) ∙ pow-suc 3 i in
    let a : b * 3 ^ (i + 1) ≡ b * 3 ^ i * 3 = ap (λ m. b * m) e ∙ sym (N.mul_assoc b (3 ^ i) 3) in
    omega arith

pub all_more : (d n l b i : ℕ) (ps : List (List Term)) → n ≤ 3 → AreBounded d (n - i - 1) l (b * 3 ^ i * (n - i)) ps → AreBounded d (n - (i + 1)) l (b * 3 ^ (i + 1)) ps
all_more d n l b i ps h s = all_within d (n - i - 1) (n - (i + 1)) l (b * 3 ^ i * (n - i)) (b * 3 ^ (i + 1)) ps (omega arith) (step_within n i b h) s

pow_few : (i : ℕ) → i < 3 → 3 ^ (i + 1) ≤ 27
pow_few zero h = omega arith
pow_few (suc zero) h = omega arith
pow_few (suc (suc zero)) h = omega arith
pow_few (suc (suc (suc i))) h = absurd (omega arith)

pub step_few : (n i b : ℕ) → n ≤ 3 → i < 3 → b * 27 < 2 ^ 127 → b * 3 ^ i * (n - i) < 2 ^ 127
step_few n i b h g l =
    let w : b * 3 ^ (i + 1) ≤ b * 27 = N.mul-le-mul_left b (pow_few i g) in
    let s = step_within n i b h in
    omega arith

pub start_within : (d n l b : ℕ) (p : List Term) (ps : List (List Term)) → ps ≡ p ∷ [] → AreBounded d n l b (p ∷ []) → AreBounded d (n - 0) l (b * 3 ^ 0) ps
start_within d n l b p ps e s = all_within d n (n - 0) l b (b * 3 ^ 0) ps (omega arith) (omega arith) (subst (AreBounded d n l b) (sym e) s)

-- ---- powers of the dimension
power_within : (d i : ℕ) → d ≤ 3 → d ^ i ≤ 3 ^ i
power_within d zero h = omega (arith, pow-zero d)
power_within d (suc i) h =
    let p = power_within d i h in
    let q : d ^ i * d ≤ 3 ^ i * 3 = N.mul-le-mul p h in
    omega (arith, pow-suc d i, pow-suc 3 i)

pub power_few : (d i : ℕ) → d ≤ 3 → i < 3 → d ^ i * d ≤ 27
power_few d i h g =
    let q : d ^ i * d ≤ 3 ^ i * 3 = N.mul-le-mul (power_within d i h) h in
    let e : 3 ^ (i + 1) ≡ 3 ^ i * 3 = ap (λ m. 3 ^ m) (add-one i) ∙ pow-suc 3 i in
    let f = pow_few i g in
    omega arith

pub power_next : (d i p : ℕ) → p ≡ d ^ i → p * d ≡ d ^ (i + 1)
power_next d i p e = ap (λ m. m * d) e ∙ sym (ap (λ m. d ^ m) (add-one i) ∙ pow-suc d i)

-- ---- basis functions
pub dimension_in : (d : ℕ) → 1 ≤ d → d ≤ 3 → dimension (cell_in d) ≡ d
dimension_in zero h g = absurd (omega arith)
dimension_in (suc zero) h g = refl
dimension_in (suc (suc zero)) h g = refl
dimension_in (suc (suc (suc zero))) h g = refl
dimension_in (suc (suc (suc (suc d)))) h g = absurd (omega arith)

pub basis_is : (d : ℕ) (p : Part) (j : ℕ) (c : Cell) (q : Polynomial) → 1 ≤ d → d ≤ 3 → c ≡ cell_in d
    → q ≡ local_function (reference (dimension c)) (slice_index_or (nodes_of c p.degree) j []) → q ≡ node_function d (reference d) p j
basis_is d p j c q h g e f =
    f ∙ ap (λ k. local_function (reference (dimension k)) (slice_index_or (nodes_of k p.degree) j [])) e
    ∙ ap (λ n. local_function (reference n) (slice_index_or (nodes_of (cell_in d) p.degree) j [])) (dimension_in d h g)

pub basis_bounded : (d : ℕ) (c : Cell) (n l b : ℕ) (ts : List Term) → 1 ≤ d → d ≤ 3 → c ≡ cell_in d → degree_of ts ≤ n → VariablesBelow (dimension c) ts → CoefficientsOver l b ts → IsPoly ts
    → IsBounded d n l b ts
basis_bounded d c n l b ts h g e k v o p = record {
  degree = k;
  variables = subst (λ m. VariablesBelow m ts) (ap dimension e ∙ dimension_in d h g) v;
  over = o;
  lawful = p;
}

pub basis_small : (q : ℕ) → q ≤ 3 → (factorial q < 2 ^ 127) × (basis_bound q * 27 < 2 ^ 127)
basis_small zero h = (omega arith, omega arith)
basis_small (suc zero) h = (omega arith, omega arith)
basis_small (suc (suc zero)) h = (omega arith, omega arith)
basis_small (suc (suc (suc zero))) h = (omega arith, omega arith)
basis_small (suc (suc (suc (suc q)))) h = absurd (omega arith)

-- ---- how many
digits_length : (k d : ℕ) → length (digit_lists (replicate k d)) ≡ d ^ k
digits_length zero d = sym (pow-zero d)
digits_length (suc k) d =
    flat_length (λ j. map (λ ds. j ∷ ds) (digit_lists (replicate k d))) (d ^ k) (λ j. map_length (λ ds. j ∷ ds) (digit_lists (replicate k d)) ∙ digits_length k d) d
    ∙ N.mul_comm d (d ^ k) ∙ sym (pow-suc d k)

pub derived_length : (d : ℕ) (p : Part) (k : ℕ) (fs : List (List Term)) → map value_of fs ≡ derived_functions d p k → length fs ≡ p.nodes * d ^ k
derived_length d p k fs e =
    sym (map_length value_of fs) ∙ ap length e
    ∙ flat_length (λ j. all_along d k (node_function d (reference d) p j)) (d ^ k)
    (λ j. map_length (λ ds. along_all ds (node_function d (reference d) p j)) (digit_lists (replicate k d)) ∙ digits_length k d) p.nodes
