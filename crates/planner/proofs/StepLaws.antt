-- Where no step of a kernel passes, none passes in a run of its plans
use Rattle.std.proofs.Common.{◌≡◌, ℕ, zero, suc, ◌<◌, ◌≢◌, inl, inr, Bool, false, if◌then◌else◌, Some, None, List, [], ◌∷◌, ◌++◌, map, refl, sym, ap, ap₂, ◌∙◌, subst, arith}
use Rattle.std.specs.List.{AllByRecursion}
use native.Mathlib.Nat as N
use Rattle.algebra.specs.Fraction.{Fraction, add, inverse, is_zero_fraction, mul, mul_comm, negative, zero_fraction}
use Rattle.algebra.specs.Steps.{difference, fits, product, sum}
use Rattle.calculus.specs.Jacobian.{cofactor, cofactor_in, inverse_jacobian, jacobian, next_axis, vertex_at}
use Rattle.calculus.specs.Simplex.{IsCell, Simplex, along_axis, dimension, volume}
use Rattle.room.specs.Adding.{Adding, Plus, Term, added, adding_steps, onto}
use Rattle.room.specs.Columns.{extended, extended_steps, grown, grown_steps, repeated, repeated_steps, weighted, weighted_steps}
use Rattle.room.specs.Kernel.{cofactor_steps, difference_steps, each_below, growth_steps, minor_steps, steps_to_volume, volume_steps}
use Rattle.room.specs.Rows.{row_products, row_steps, sum_of}
use Rattle.room.specs.Steps.{Difference, Product, Step, StepFits, StepsFit, Sum}
use Rattle.room.proofs.Lists.{all_append, all_left, all_right}
use Rattle.refint.proofs.Lists.{flat_same, map_same}
use Rattle.monomial_products.proofs.PartLaws.{none_some}
use Rattle.kernel_runs.specs.Strips.{Factor, Slowest, from_last, in_turn, outer}
use Rattle.kernel_runs.specs.Fit.{AllFit, FactorsFit, RowFits, SumsFit}
use Rattle.kernel_runs.specs.Preamble.{DifferencesFit, TetrahedronFits, TriangleFits, volume_part}
use Rattle.kernel_runs.specs.Body.{PreambleFits}

abbrev pub Fits : Fraction → Type 0
Fits x = fits x ≡ false → ⊥

pub product_fits : (x y : Fraction) → StepFits (Product x y) → Fits (mul x y)
unfolding product
product_fits x y h e = none_some (mul x y) (sym (ap (λ (b : Bool). if b then Some (mul x y) else None) e) ∙ h)

pub sum_fits : (x y : Fraction) → StepFits (Sum x y) → sum x y ≡ None → ⊥
sum_fits x y h e = none_some (add x y) (sym e ∙ h)

pub difference_fits : (x y : Fraction) → StepFits (Difference x y) → difference x y ≡ None → ⊥
difference_fits x y h e = none_some (add x (negative y)) (sym e ∙ h)

-- ---- columns
all_fit : (xs : List Fraction) → AllByRecursion Fits xs → AllFit ⊥ xs
all_fit [] h k l = absurd (omega (arith, l))
all_fit (x ∷ xs) h zero l = h.0
all_fit (x ∷ xs) h (suc k) l = all_fit xs h.1 k (omega arith)

fast_fit : (x : Fraction) (ys : List Fraction) → StepsFit (map (λ y. Product x y) ys) → AllByRecursion Fits (map (mul x) ys)
fast_fit x [] h = tt
fast_fit x (y ∷ ys) h = (product_fits x y h.0, fast_fit x ys h.1)

extended_fit : (xs ys : List Fraction) → StepsFit (extended_steps xs ys) → AllByRecursion Fits (outer xs ys)
extended_fit [] ys h = tt
extended_fit (x ∷ xs) ys h =
    let first = map (λ y. Product x y) ys in
    all_append Fits (map (mul x) ys) (outer xs ys) (fast_fit x ys (all_left StepFits first (extended_steps xs ys) h))
    (extended_fit xs ys (all_right StepFits first (extended_steps xs ys) h))

slow_fit : (y : Fraction) (xs : List Fraction) → StepsFit (map (λ x. Product x y) xs) → AllByRecursion Fits (map (mul y) xs)
slow_fit y [] h = tt
slow_fit y (x ∷ xs) h = (subst Fits (mul_comm x y) (product_fits x y h.0), slow_fit y xs h.1)

repeated_fit : (xs ys : List Fraction) → StepsFit (repeated_steps xs ys) → AllByRecursion Fits (outer ys xs)
repeated_fit xs [] h = tt
repeated_fit xs (y ∷ ys) h =
    let first = map (λ x. Product x y) xs in
    all_append Fits (map (mul y) xs) (outer ys xs) (slow_fit y xs (all_left StepFits first (repeated_steps xs ys) h))
    (repeated_fit xs ys (all_right StepFits first (repeated_steps xs ys) h))

outer_repeated : (xs ys : List Fraction) → repeated xs ys ≡ outer ys xs
outer_repeated xs ys = flat_same (λ y. map (λ x. mul x y) xs) (λ y. map (mul y) xs) (λ y. map_same (λ x. mul x y) (mul y) (λ x. mul_comm x y) xs) ys

turn_fit : (xs : List Fraction) (ds : List (List Fraction)) (fs : List (Factor (List Fraction))) → StepsFit (grown_steps xs ds) → FactorsFit ⊥ (grown xs ds) fs
    → FactorsFit ⊥ xs (in_turn ds [] ++ fs)
turn_fit xs [] fs h k = k
turn_fit xs (d ∷ ds) fs h k = (
  all_fit (outer xs d) (extended_fit xs d (all_left StepFits (extended_steps xs d) (grown_steps (extended xs d) ds) h)),
  turn_fit (extended xs d) ds fs (all_right StepFits (extended_steps xs d) (grown_steps (extended xs d) ds) h) k,
)

last_fit : (xs : List Fraction) (cs : List (List Fraction)) (fs : List (Factor (List Fraction))) → StepsFit (weighted_steps xs cs) → FactorsFit ⊥ (weighted xs cs) fs
    → FactorsFit ⊥ xs (from_last cs fs)
last_fit xs [] fs h k = k
last_fit xs (c ∷ cs) fs h k =
    let steps = repeated_steps (weighted xs cs) c in
    last_fit xs cs (Slowest c ∷ fs) (all_left StepFits (weighted_steps xs cs) steps h) (
      all_fit (outer c (weighted xs cs)) (repeated_fit (weighted xs cs) c (all_right StepFits (weighted_steps xs cs) steps h)),
      subst (λ ys. FactorsFit ⊥ ys fs) (outer_repeated (weighted xs cs) c) k,
    )

pub factors_fit : (xs : List Fraction) (cs ds : List (List Fraction)) → StepsFit (grown_steps xs ds ++ weighted_steps (grown xs ds) cs)
    → FactorsFit ⊥ xs (in_turn ds [] ++ from_last cs [])
factors_fit xs cs ds h =
    turn_fit xs ds (from_last cs []) (all_left StepFits (grown_steps xs ds) (weighted_steps (grown xs ds) cs) h)
    (last_fit (grown xs ds) cs [] (all_right StepFits (grown_steps xs ds) (weighted_steps (grown xs ds) cs) h) tt)

-- ---- rows
-- a sum that goes on began with its first terms
onto_front : (t : Adding) (xs : List Fraction) → StepsFit (adding_steps (onto t xs)) → StepsFit (adding_steps t)
onto_front t [] h = h
onto_front t (x ∷ xs) h = all_left StepFits (adding_steps t) (Sum (added t) x ∷ []) (onto_front (Plus t (Term x)) xs h)

onto_step : (t : Adding) (x : Fraction) (xs : List Fraction) → StepsFit (adding_steps (onto t (x ∷ xs))) → StepFits (Sum (added t) x)
onto_step t x xs h = (all_right StepFits (adding_steps t) (Sum (added t) x ∷ []) (onto_front (Plus t (Term x)) xs h)).0

sums_fit : (t : Adding) (acc : Fraction) (cs rs : List Fraction) → added t ≡ acc → StepsFit (row_steps rs cs) → StepsFit (adding_steps (onto t (row_products rs cs))) → SumsFit ⊥ acc cs rs
sums_fit t acc [] rs e p s = tt
sums_fit t acc (c ∷ cs) [] e p s = tt
sums_fit t acc (c ∷ cs) (r ∷ rs) e p s =
    let turned = mul_comm r c in (
      subst Fits turned (product_fits r c p.0),
      (
        subst (λ x. sum acc x ≡ None → ⊥) turned (subst (λ y. sum y (mul r c) ≡ None → ⊥) e (sum_fits (added t) (mul r c) (onto_step t (mul r c) (row_products rs cs) s))),
        sums_fit (Plus t (Term (mul r c))) (add acc (mul c r)) cs rs (ap₂ add e turned) p.1 s,
      ),
    )

pub row_fits : (cs rs : List Fraction) → StepsFit (row_steps rs cs) → StepsFit (adding_steps (sum_of (row_products rs cs))) → RowFits ⊥ cs rs
row_fits [] rs p s = tt
row_fits (c ∷ cs) [] p s = tt
row_fits (c ∷ cs) (r ∷ rs) p s =
    (subst Fits (mul_comm r c) (product_fits r c p.0), sums_fit (Term (mul r c)) (mul c r) cs rs (mul_comm r c) p.1 s)

-- ---- the preamble
at_below : (d i : ℕ) (f : ℕ → List Step) → i < d → StepsFit (each_below d f) → StepsFit (f i)
at_below zero i f h a = absurd (omega (arith, h))
at_below (suc n) i f h a = elim (N.eq-or-lt_of_le (N.le_of_suc-le-suc h)) [
  | inl e ↦ subst (λ k. StepsFit (f k)) (sym e) (all_right StepFits (each_below n f) (f n) a)
  | inr g ↦ at_below n i f g (all_left StepFits (each_below n f) (f n) a)
]

at_two : (d i a : ℕ) (f : ℕ → ℕ → List Step) → i < d → a < d → StepsFit (each_below d (λ i. each_below d (λ a. f i a))) → StepsFit (f i a)
at_two d i a f h g s = at_below d a (f i) g (at_below d i (λ i. each_below d (λ a. f i a)) h s)

differences_fit : (d : ℕ) (v : Simplex) → StepsFit (difference_steps d v) → DifferencesFit ⊥ d v
differences_fit d v s i a h g =
    difference_fits _ _ (at_two d i a (λ i a. Difference (along_axis i (vertex_at v (suc a))) (along_axis i (vertex_at v 0)) ∷ []) h g s).0

growths_fit : (d : ℕ) (v : Simplex) (i a : ℕ) → i < d → a < d → StepsFit (growth_steps d v) → Fits (inverse_jacobian v a i)
unfolding inverse_jacobian
growths_fit d v i a h g s = product_fits (cofactor v i a) (inverse (volume v)) (at_two d i a (λ i a. Product (cofactor v i a) (inverse (volume v)) ∷ []) h g s).0

triangle_fits : (v : Simplex) → StepsFit (steps_to_volume 2 v) → (is_zero_fraction (volume v) ≡ false → StepsFit (growth_steps 2 v)) → TriangleFits ⊥ v
triangle_fits v s g =
    let j = jacobian v in
    let first = all_left StepFits (difference_steps 2 v) (cofactor_steps 2 j ++ volume_steps 2 j) s in
    let behind = all_right StepFits (difference_steps 2 v) (cofactor_steps 2 j ++ volume_steps 2 j) s in
    record {
      differences = differences_fit 2 v first;
      main = product_fits (j 0 0) (j 1 1) behind.1.1.0;
      other = product_fits (j 0 1) (j 1 0) behind.1.1.1.0;
      volume_factor = difference_fits (mul (j 0 0) (j 1 1)) (mul (j 0 1) (j 1 0)) behind.1.1.1.1.0;
      turned = λ n i a h k apart. turned i a h k apart behind.0 behind.1.0;
      growth = λ n i a h k. growths_fit 2 v i a h k (g n);
    }
  where
    turned : (i a : ℕ) → i < 2 → a < 2 → i ≢ a → StepFits (Difference zero_fraction (jacobian v 0 1)) → StepFits (Difference zero_fraction (jacobian v 1 0))
        → difference zero_fraction (jacobian v i a) ≡ None → ⊥
    turned zero zero h k n p q = absurd (n refl)
    turned zero (suc zero) h k n p q = difference_fits zero_fraction (jacobian v 0 1) p
    turned zero (suc (suc a)) h k n p q = absurd (omega (arith, k))
    turned (suc zero) zero h k n p q = difference_fits zero_fraction (jacobian v 1 0) q
    turned (suc zero) (suc zero) h k n p q = absurd (n refl)
    turned (suc zero) (suc (suc a)) h k n p q = absurd (omega (arith, k))
    turned (suc (suc i)) a h k n p q = absurd (omega (arith, h))

tetrahedron_fits : (v : Simplex) → StepsFit (steps_to_volume 3 v) → (is_zero_fraction (volume v) ≡ false → StepsFit (growth_steps 3 v)) → TetrahedronFits ⊥ v
tetrahedron_fits v s g =
    let j = jacobian v in
    let first = all_left StepFits (difference_steps 3 v) (cofactor_steps 3 j ++ volume_steps 3 j) s in
    let behind = all_right StepFits (difference_steps 3 v) (cofactor_steps 3 j ++ volume_steps 3 j) s in
    let minors = all_left StepFits (cofactor_steps 3 j) (volume_steps 3 j) behind in
    let last = all_right StepFits (cofactor_steps 3 j) (volume_steps 3 j) behind in
    record {
      differences = differences_fit 3 v first;
      main = λ i a h k. product_fits _ _ (minor i a h k minors).0;
      other = λ i a h k. product_fits _ _ (minor i a h k minors).1.0;
      cofactors = λ i a h k. difference_fits _ _ (minor i a h k minors).1.1.0;
      parts = part last;
      two = sum_fits (volume_part v 0) (volume_part v 1) last.1.1.0;
      three = sum_fits (add (volume_part v 0) (volume_part v 1)) (volume_part v 2) last.1.1.1.1.0;
      growth = λ n i a h k. growths_fit 3 v i a h k (g n);
    }
  where
    minor_at : ℕ → ℕ → List Step
    minor_at a i =
        minor_steps (jacobian v (next_axis i) (next_axis a)) (jacobian v (next_axis (next_axis i)) (next_axis (next_axis a)))
        (jacobian v (next_axis i) (next_axis (next_axis a))) (jacobian v (next_axis (next_axis i)) (next_axis a))

    minor : (i a : ℕ) → i < 3 → a < 3 → StepsFit (cofactor_steps 3 (jacobian v)) → StepsFit (minor_at a i)
    minor i a h k m = at_two 3 a i minor_at k h m

    part : StepsFit (volume_steps 3 (jacobian v)) → (a : ℕ) → a < 3 → Fits (volume_part v a)
    part l zero h = product_fits (jacobian v 0 0) (cofactor_in 3 (jacobian v) 0 0) l.0
    part l (suc zero) h = product_fits (jacobian v 0 1) (cofactor_in 3 (jacobian v) 0 1) l.1.0
    part l (suc (suc zero)) h = product_fits (jacobian v 0 2) (cofactor_in 3 (jacobian v) 0 2) l.1.1.1.0
    part l (suc (suc (suc a))) h = absurd (omega (arith, h))

pub preamble_fits : (d : ℕ) (v : Simplex) → IsCell v → dimension v ≡ d → StepsFit (steps_to_volume d v) → (is_zero_fraction (volume v) ≡ false → StepsFit (growth_steps d v)) → PreambleFits ⊥ v
preamble_fits d v c e s g = go v (subst (λ n. StepsFit (steps_to_volume n v)) (sym e) s) (subst (λ n. is_zero_fraction (volume v) ≡ false → StepsFit (growth_steps n v)) (sym e) g) c
  where
    go : (v : Simplex) → StepsFit (steps_to_volume (dimension v) v) → (is_zero_fraction (volume v) ≡ false → StepsFit (growth_steps (dimension v) v)) → IsCell v → PreambleFits ⊥ v
    go [] s g c = tt
    go (x ∷ []) s g c = tt
    go (x ∷ y ∷ []) s g c = differences_fit 1 (x ∷ y ∷ []) (all_left StepFits (difference_steps 1 (x ∷ y ∷ [])) [] s)
    go (x ∷ y ∷ z ∷ []) s g c = triangle_fits (x ∷ y ∷ z ∷ []) s g
    go (x ∷ y ∷ z ∷ t ∷ []) s g c = tetrahedron_fits (x ∷ y ∷ z ∷ t ∷ []) s g
    go (x ∷ y ∷ z ∷ t ∷ u ∷ v) s g c = tt
