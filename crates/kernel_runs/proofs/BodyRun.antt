-- The run of the body of a planned function
use Rattle.std.proofs.Common.{◌≡◌, ℕ, zero, suc, ◌+◌, ◌<◌, ◌≤◌, refl, sym, ◌∙◌, ap, ap₂, subst, arith, length, map, replicate, List, [], ◌∷◌, false, true}
use Rattle.std.proofs.lemmas.List.{length-replicate, replicate-append-replicate}
use Rattle.algebra.specs.Fraction.{Fraction, absolute, is_zero_fraction, zero_fraction}
use Rattle.calculus.specs.Simplex.{IsCell, Simplex, dimension, volume}
use Rattle.c_unit.specs.Meaning.{Slots, run_list, tables_of}
use Rattle.kernel.specs.Ends.{Ends}
use Rattle.kernel.proofs.Rules.{ends_weaker}
use Rattle.kernel_runs.specs.Strips.{Factor, Fastest, MonoPlan, Slowest, map_factor, map_plan, monos_onto, strip}
use Rattle.kernel_runs.specs.Frame.{slot}
use Rattle.kernel_runs.specs.Planned.{AllPlanned, monos_code, plan_values, values_of}
use Rattle.kernel_runs.specs.Fit.{StepsFit}
use Rattle.kernel_runs.specs.Straight.{outside_loops}
use Rattle.kernel_runs.specs.Preamble.{Prepared, coordinates, eleven_zeros, fresh, interval_preamble, preamble, triangle_preamble}
use Rattle.kernel_runs.specs.Body.{AllDirected, IsDirected, MonosDirected, PlannedRun, PlannedShares, PreambleFits, digit_values, places_for, plans_on, strip_of}
use Rattle.kernel_runs.specs.declared.digit.Digit.{Digit}
use Rattle.kernel_runs.specs.declared.digit.Digit.TheVariants.{Growth, Weights, Corners}
use Rattle.kernel_runs.proofs.Steps.{ends_append}
use Rattle.kernel_runs.proofs.StraightLine.{meets_run}
use Rattle.kernel_runs.proofs.MonoRun.{Stands, monos_run}
use Rattle.kernel_runs.proofs.PreambleRun.{interval_meets, triangle_meets}
use Rattle.kernel_runs.proofs.TetrahedronRun.{tetrahedron_run}

abbrev IsPrepared : Simplex → (w rest out : List Fraction) → Slots → Type 0
IsPrepared v w rest out s = (is_zero_fraction (volume v) ≡ false) × Prepared (dimension v) v (fresh (coordinates (dimension v) v) w rest out) s

preamble_run : (Q : Type 0) (ks : List (List Fraction)) (v : Simplex) (w rest out : List Fraction) → IsCell v → PreambleFits Q v
    → Ends Q (is_zero_fraction (volume v) ≡ true) (IsPrepared v w rest out) (run_list (preamble (dimension v)) ks 0 outside_loops (fresh (coordinates (dimension v) v) w rest out))
preamble_run Q ks [] w rest out cell fit = absurd cell
preamble_run Q ks (a ∷ []) w rest out cell fit = absurd cell
preamble_run Q ks (a ∷ b ∷ []) w rest out cell fit =
    meets_run Q (is_zero_fraction (volume (a ∷ b ∷ [])) ≡ true) (IsPrepared (a ∷ b ∷ []) w rest out) ks interval_preamble (fresh (coordinates 1 (a ∷ b ∷ [])) w rest out) (interval_meets Q a b w rest out fit)
preamble_run Q ks (a ∷ b ∷ c ∷ []) w rest out cell fit =
    meets_run Q (is_zero_fraction (volume (a ∷ b ∷ c ∷ [])) ≡ true) (IsPrepared (a ∷ b ∷ c ∷ []) w rest out) ks triangle_preamble (fresh (coordinates 2 (a ∷ b ∷ c ∷ [])) w rest out)
    (triangle_meets Q a b c w rest out fit)
preamble_run Q ks (a ∷ b ∷ c ∷ e ∷ []) w rest out cell fit = tetrahedron_run Q ks w rest out a b c e fit
preamble_run Q ks (a ∷ b ∷ c ∷ e ∷ f ∷ v) w rest out cell fit = absurd cell

-- ---- the values of factors after the preamble
digit_is : (d : ℕ) (v : Simplex) (s₀ s : Slots) → Prepared d v s₀ s → s₀.x ≡ coordinates d v → (g : Digit) → IsDirected g → values_of s (strip_of d g) ≡ digit_values d v s₀.w g
digit_is d v s₀ s h x (Growth zero) l = h.first
digit_is d v s₀ s h x (Growth (suc zero)) l = h.second
digit_is d v s₀ s h x (Growth (suc (suc zero))) l = h.third
digit_is d v s₀ s h x (Growth (suc (suc (suc i)))) l = absurd (none i l)
  where
    none : (i : ℕ) → suc (suc (suc i)) < 3 → ⊥
    none i l = omega arith
digit_is d v s₀ s h x (Weights o n) l = ap (λ w. strip w o 1 n) h.w
digit_is d v s₀ s h x (Corners i n) l = ap (λ x. strip x i d n) (h.x ∙ x)

factors_are : (d : ℕ) (v : Simplex) (s₀ s : Slots) → Prepared d v s₀ s → s₀.x ≡ coordinates d v → (fs : List (Factor Digit)) → AllDirected fs
    → map (map_factor (values_of s)) (map (map_factor (strip_of d)) fs) ≡ map (map_factor (digit_values d v s₀.w)) fs
factors_are d v s₀ s h x [] l = refl
factors_are d v s₀ s h x (Fastest g ∷ fs) l = ap₂ (λ g fs. Fastest g ∷ fs) (digit_is d v s₀ s h x g l.0) (factors_are d v s₀ s h x fs l.1)
factors_are d v s₀ s h x (Slowest g ∷ fs) l = ap₂ (λ g fs. Slowest g ∷ fs) (digit_is d v s₀ s h x g l.0) (factors_are d v s₀ s h x fs l.1)

plans_are : (d : ℕ) (v : Simplex) (s₀ s : Slots) → Prepared d v s₀ s → s₀.x ≡ coordinates d v → (ms : List (MonoPlan Digit)) → MonosDirected ms
    → map (plan_values s) (map (map_plan (strip_of d)) ms) ≡ map (map_plan (digit_values d v s₀.w)) ms
plans_are d v s₀ s h x [] l = refl
plans_are d v s₀ s h x (m ∷ ms) l = ap₂ ◌∷◌ (ap (λ fs. record { factors = fs; more = m.more; table = m.table; rows = m.rows; entries = m.entries; straight = m.straight }) (factors_are d v s₀ s h x m.factors l.0)) (plans_are d v s₀ s h x ms l.1)

eleven_more : (xs : List Fraction) → length (eleven_zeros xs) ≡ 11 + length xs
eleven_more xs = omega arith

fixed_size : (rest : List Fraction) → length (eleven_zeros (eleven_zeros (eleven_zeros rest))) ≡ 33 + length rest
fixed_size rest = omega arith

pub planned_run : (Q : Type 0) → PlannedRun Q
planned_run Q ks v w rest out cap most ms cell some room directed planned fit steps =
    let d : ℕ = dimension v in
    let s₀ : Slots = fresh (coordinates d v) w rest out in
    let Z : Type 0 = is_zero_fraction (volume v) ≡ true in
    let R : Slots → Type 0 = λ s. (is_zero_fraction (volume v) ≡ false) × (s.a ≡ monos_onto (absolute (volume v)) out (plans_on v w ms)) in
    ends_append Q Z (IsPrepared v w rest out) R ks 0 outside_loops (preamble d) (monos_code (places_for cap) (map (map_plan (strip_of d)) ms))
    (λ s h.
    let same : map (plan_values s) (map (map_plan (strip_of d)) ms) ≡ plans_on v w ms = plans_are d v s₀ s h.1 refl ms directed in
    ends_weaker Q Z (Stands (places_for cap) s (monos_onto (slot s 20) out (map (plan_values s) (map (map_plan (strip_of d)) ms)))) R _
    (monos_run Q Z ks (places_for cap) most s low some (space cap most (length rest) (length s.t) (h.1.size ∙ fixed_size rest) room) (map (map_plan (strip_of d)) ms) out planned
    (subst (λ ps. StepsFit Q (slot s 20) out ps) (sym same) (subst (λ x. StepsFit Q x out (plans_on v w ms)) (sym h.1.absolute_volume) (steps h.0)))
    s (record { x = refl; w = refl; a = h.1.a; size = refl; slots = λ k l. refl }))
    (λ s' k. (h.0, k.a ∙ ap₂ (λ x ps. monos_onto x out ps) h.1.absolute_volume same)))
    s₀ (preamble_run Q ks v w rest out cell fit)
  where
    low : 20 < 32
    low = omega arith

    space : (cap most n size : ℕ) → size ≡ 33 + n → cap + cap + most ≤ n → 32 + 1 + cap + cap + most ≤ size
    space cap most n size e h = omega arith

-- ---- of a function, whose slots begin as 0
fresh_is : (n : ℕ) → replicate (33 + n) zero_fraction ≡ eleven_zeros (eleven_zeros (eleven_zeros (replicate n zero_fraction)))
fresh_is n = sym (replicate-append-replicate 33 n zero_fraction)

pub planned_shares : (Q : Type 0) → PlannedShares Q
planned_shares Q f v w cap most ms cell is fit steps =
    let n : ℕ = cap + cap + most in
    let P : Slots → Type 0 = λ s. (is_zero_fraction (volume v) ≡ false) × (s.a ≡ monos_onto (absolute (volume v)) (replicate f.a zero_fraction) (plans_on v w ms)) in
    let start : List Fraction → Slots = λ t. record { x = coordinates (dimension v) v; w = w; t = t; a = replicate f.a zero_fraction } in
    subst (λ t. Ends Q (is_zero_fraction (volume v) ≡ true) P (run_list f.body (tables_of f.tables) 0 (0 ∷ 0 ∷ 0 ∷ 0 ∷ []) (start t)))
    (sym (ap (λ k. replicate k zero_fraction) is.size ∙ fresh_is n))
    (subst (λ cs. Ends Q (is_zero_fraction (volume v) ≡ true) P (run_list cs (tables_of f.tables) 0 (0 ∷ 0 ∷ 0 ∷ 0 ∷ []) (fresh (coordinates (dimension v) v) w (replicate n zero_fraction) (replicate f.a zero_fraction))))
    (sym is.body)
    (planned_run Q (tables_of f.tables) v w (replicate n zero_fraction) (replicate f.a zero_fraction) cap most ms cell is.some (room n) is.directed
    (subst (λ k. AllPlanned (tables_of f.tables) (places_for cap) most k (map (map_plan (strip_of (dimension v))) ms)) (sym (length-replicate f.a zero_fraction)) is.planned) fit steps))
  where
    room : (n : ℕ) → n ≤ length (replicate n zero_fraction)
    room n = let e : length (replicate n zero_fraction) ≡ n = length-replicate n zero_fraction in omega arith
