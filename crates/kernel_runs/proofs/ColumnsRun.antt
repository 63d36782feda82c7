-- The run of the factors of columns, one after the other
use Rattle.std.proofs.Common.{◌≡◌, ℕ, ◌+◌, ◌*◌, ◌<◌, ◌≤◌, ◌⊎◌, inl, inr, sym, ◌∙◌, ap, subst, arith, length, List, [], ◌∷◌}
use Rattle.algebra.specs.Fraction.{Fraction}
use Rattle.c_unit.specs.declared.unit.Array.{Array}
use Rattle.c_unit.specs.declared.unit.Array.TheVariants.{X, W, T, A}
use Rattle.c_unit.specs.declared.unit.CStmt.{CStmt}
use Rattle.c_unit.specs.Meaning.{End, Slots, array_of, run_list, run_one, written}
use Rattle.kernel.specs.Ends.{Ends}
use Rattle.kernel.proofs.Rules.{ends_further, ends_then, ends_weaker}
use Rattle.kernel_runs.specs.Strips.{Factor, Fastest, Slowest, outer, with_factor, with_factors}
use Rattle.kernel_runs.specs.Frame.{Holds, IsOutside, Keeps}
use Rattle.kernel_runs.specs.Planned.{AllFixed, FactorFixed, FactorsFixed, IsFixed, Valued, columns_at, columns_code, count_after, factor_code, in_t, values_in, values_of}
use Rattle.kernel_runs.specs.declared.strip.Strip.{Strip}
use Rattle.kernel_runs.specs.Fit.{AllFit, FactorsFit, FactorsWithin}
use Rattle.kernel_runs.proofs.StripLaws.{outer_length, strip_length, strip_same}
use Rattle.kernel_runs.proofs.Nest.{keeps_all, keeps_fewer, keeps_then, kept_value, nest_run}

abbrev pub no_turns : List ℕ
no_turns = 0 ∷ 0 ∷ 0 ∷ 0 ∷ []

-- ---- what is fixed
fixed_in : (fixed fewer : ℕ → Type 0) → ((k : ℕ) → fixed k → fewer k) → (array : Array) (k : ℕ) → IsFixed fixed array k → IsFixed fewer array k
fixed_in fixed fewer h X k f = f
fixed_in fixed fewer h W k f = f
fixed_in fixed fewer h T k f = h k f
fixed_in fixed fewer h A k f = f

pub values_kept : (fixed : ℕ → Type 0) (s₀ s : Slots) (g : Strip) → Keeps fixed s₀ s → AllFixed fixed g → values_of s g ≡ values_of s₀ g
values_kept fixed s₀ s g h f =
    strip_same (array_of g.array s) (array_of g.array s₀) g.base g.step g.count (λ j l. kept_value fixed s₀ s g.array (g.base + g.step * j) h (f j l))

pub valued_kept : (fixed : ℕ → Type 0) (s₀ s : Slots) (fs : List (Factor Strip)) (vs : List (Factor (List Fraction))) → Keeps fixed s₀ s → FactorsFixed fixed fs → Valued s₀ fs vs → Valued s fs vs
valued_kept fixed s₀ s [] [] h f v = tt
valued_kept fixed s₀ s [] (v ∷ vs) h f n = absurd n
valued_kept fixed s₀ s (g ∷ fs) [] h f n = absurd n
valued_kept fixed s₀ s (Fastest g ∷ fs) (v ∷ vs) h f n = (ap Fastest (values_kept fixed s₀ s g h f.0) ∙ n.0, valued_kept fixed s₀ s fs vs h f.1 n.1)
valued_kept fixed s₀ s (Slowest g ∷ fs) (v ∷ vs) h f n = (ap Slowest (values_kept fixed s₀ s g h f.0) ∙ n.0, valued_kept fixed s₀ s fs vs h f.1 n.1)

abbrev Outer : (Q Z : Type 0) → List (List Fraction) → Slots → ℕ → CStmt → List Fraction → Type 0
Outer Q Z ks s₀ new c zs =
    new + length zs ≤ length s₀.t → AllFit Q zs → Ends Q Z (λ s. Keeps (IsOutside new (new + length zs)) s₀ s × Holds new zs s) (run_one c ks 0 no_turns s₀)

-- the columns `xs` stand from `cur` on, outside the `cap` slots from `new` on
abbrev pub StandsApart : ℕ → ℕ → ℕ → List Fraction → Type 0
StandsApart new cap cur xs = (j : ℕ) → j < length xs → IsOutside new (new + cap) (cur + j)

one_apart : (cur j : ℕ) → cur + j ≡ cur + 1 * j
one_apart cur j = omega arith

fewer_outside : (new cap n : ℕ) → n ≤ cap → (k : ℕ) → IsOutside new (new + cap) k → IsOutside new (new + n) k
fewer_outside new cap n h k (inl g) = inl g
fewer_outside new cap n h k (inr g) = inr (omega arith)

below_outside : (free new n : ℕ) → free ≤ new → (k : ℕ) → k < free → IsOutside new (new + n) k
below_outside free new n h k g = inl (omega arith)

-- one factor
factor_run : (Q Z : Type 0) (ks : List (List Fraction)) (s₀ : Slots) (free new cap cur : ℕ) (xs : List Fraction) (f : Factor Strip) (v : Factor (List Fraction))
    → free ≤ new → StandsApart new cap cur xs → FactorFixed (λ k. k < free) f → Holds cur xs s₀ → values_in s₀ f ≡ v → length (with_factor xs v) ≤ cap
    → Outer Q Z ks s₀ new (factor_code new cur (length xs) f) (with_factor xs v)
factor_run Q Z ks s₀ free new cap cur xs (Fastest g) v low apart fixed held valued small =
    let first : outer (values_of s₀ (in_t cur (length xs))) (values_of s₀ g) ≡ with_factor xs v = ap (λ us. outer us (values_of s₀ g)) held ∙ ap (with_factor xs) valued in
    subst (λ zs. length zs ≤ cap → Outer Q Z ks s₀ new (factor_code new cur (length xs) (Fastest g)) zs) first
    (λ small room fit. nest_run Q Z ks s₀ new (in_t cur (length xs)) g room
    (λ j l. subst (IsOutside new _) (one_apart cur j) (fewer_outside new cap _ small (cur + j) (apart j l)))
    (λ j l. fixed_in (λ k. k < free) (IsOutside new _) (below_outside free new _ low) g.array (g.base + g.step * j) (fixed j l))
    fit)
    small
factor_run Q Z ks s₀ free new cap cur xs (Slowest g) v low apart fixed held valued small =
    let first : outer (values_of s₀ g) (values_of s₀ (in_t cur (length xs))) ≡ with_factor xs v = ap (λ us. outer (values_of s₀ g) us) held ∙ ap (with_factor xs) valued in
    subst (λ zs. length zs ≤ cap → Outer Q Z ks s₀ new (factor_code new cur (length xs) (Slowest g)) zs) first
    (λ small room fit. nest_run Q Z ks s₀ new g (in_t cur (length xs)) room
    (λ j l. fixed_in (λ k. k < free) (IsOutside new _) (below_outside free new _ low) g.array (g.base + g.step * j) (fixed j l))
    (λ j l. subst (IsOutside new _) (one_apart cur j) (fewer_outside new cap _ small (cur + j) (apart j l)))
    fit)
    small

pub count_is : (s : Slots) (xs : List Fraction) (f : Factor Strip) (v : Factor (List Fraction)) → values_in s f ≡ v → length (with_factor xs v) ≡ count_after (length xs) f
count_is s xs (Fastest g) v e =
    ap (λ v. length (with_factor xs v)) (sym e) ∙ outer_length xs (values_of s g) ∙ ap (λ n. length xs * n) (strip_length (array_of g.array s) g.base g.step g.count)
count_is s xs (Slowest g) v e =
    ap (λ v. length (with_factor xs v)) (sym e) ∙ outer_length (values_of s g) xs ∙ ap (λ n. n * length xs) (strip_length (array_of g.array s) g.base g.step g.count)

-- the two buffers don't meet
abbrev pub Apart : ℕ → ℕ → ℕ → Type 0
Apart cap new next = (new + cap ≤ next) ⊎ (next + cap ≤ new)

exchanged : (cap new next : ℕ) → Apart cap new next → Apart cap next new
exchanged cap new next (inl h) = inr h
exchanged cap new next (inr h) = inl h

stands : (cap new next n : ℕ) → Apart cap new next → n ≤ cap → (j : ℕ) → j < n → IsOutside next (next + cap) (new + j)
stands cap new next n (inl h) g j l = inl (omega arith)
stands cap new next n (inr h) g j l = inr (omega arith)

pub columns_run : (Q Z : Type 0) (ks : List (List Fraction)) (free cap : ℕ) (fs : List (Factor Strip)) (vs : List (Factor (List Fraction))) (new next cur : ℕ) (xs : List Fraction) (s₀ : Slots)
    → free ≤ new → free ≤ next → Apart cap new next → new + cap ≤ length s₀.t → next + cap ≤ length s₀.t
    → StandsApart new cap cur xs → FactorsFixed (λ k. k < free) fs → Valued s₀ fs vs → FactorsWithin cap xs vs → Holds cur xs s₀ → FactorsFit Q xs vs
    → Ends Q Z (λ s. Keeps (λ k. k < free) s₀ s × Holds (columns_at new next cur fs) (with_factors xs vs) s) (run_list (columns_code new next cur (length xs) fs) ks 0 no_turns s₀)
columns_run Q Z ks free cap [] [] new next cur xs s₀ low low' buffers room room' apart fixed valued within held fit = (keeps_all (λ k. k < free) s₀, held)
columns_run Q Z ks free cap [] (v ∷ vs) new next cur xs s₀ low low' buffers room room' apart fixed valued within held fit = absurd valued
columns_run Q Z ks free cap (f ∷ fs) [] new next cur xs s₀ low low' buffers room room' apart fixed valued within held fit = absurd valued
columns_run Q Z ks free cap (f ∷ fs) (v ∷ vs) new next cur xs s₀ low low' buffers room room' apart fixed valued within held fit =
    let zs : List Fraction = with_factor xs v in
    let P : Slots → Type 0 = λ s. Keeps (λ k. k < free) s₀ s × Holds (columns_at next new new fs) (with_factors zs vs) s in
    ends_then Q Z (λ s. Keeps (IsOutside new (new + length zs)) s₀ s × Holds new zs s) P (run_one (factor_code new cur (length xs) f) ks 0 no_turns s₀) _
    (factor_run Q Z ks s₀ free new cap cur xs f v low apart fixed.0 held valued.0 within.0 (fewer_slots new (length zs) cap (length s₀.t) within.0 room) fit.0)
    (λ s h.
    let kept : Keeps (λ k. k < free) s₀ s = keeps_fewer (IsOutside new (new + length zs)) (λ k. k < free) s₀ s (below_outside free new (length zs) low) h.0 in
    ends_further Q Z P (written (factor_code new cur (length xs) f)) _
    (subst (λ n. Ends Q Z P (run_list (columns_code next new new n fs) ks 0 no_turns s)) (count_is s₀ xs f v valued.0)
    (ends_from Q Z s₀ s free _ (with_factors zs vs) _ kept
    (columns_run Q Z ks free cap fs vs next new new zs s low' low (exchanged cap new next buffers)
    (subst (λ n. next + cap ≤ n) (sym kept.size) room') (subst (λ n. new + cap ≤ n) (sym kept.size) room)
    (stands cap new next (length zs) buffers within.0) fixed.1 (valued_kept (λ k. k < free) s₀ s fs vs kept fixed.1 valued.1) within.1 h.1 fit.1))))
  where
    fewer_slots : (new n cap size : ℕ) → n ≤ cap → new + cap ≤ size → new + n ≤ size
    fewer_slots new n cap size h g = omega arith

    ends_from : (Q Z : Type 0) (s₀ s₁ : Slots) (free at : ℕ) (xs : List Fraction) (e : End) → Keeps (λ k. k < free) s₀ s₁ → Ends Q Z (λ s. Keeps (λ k. k < free) s₁ s × Holds at xs s) e
        → Ends Q Z (λ s. Keeps (λ k. k < free) s₀ s × Holds at xs s) e
    ends_from Q Z s₀ s₁ free at xs e kept h = ends_weaker Q Z _ _ e h (λ s g. (keeps_then (λ k. k < free) s₀ s₁ s kept g.0, g.1))
