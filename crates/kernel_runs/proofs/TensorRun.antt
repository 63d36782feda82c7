-- The entries of a planned function are the sums over the reference tensors
use Rattle.std.proofs.Common.{◌≡◌, ℕ, ◌<◌, refl, sym, ◌∙◌, ap, ap₂, subst, length, map, replicate, List, [], ◌∷◌, false, true}
use Rattle.std.proofs.lemmas.List.{get_or-replicate, length-replicate}
use Rattle.algebra.specs.Fraction.{Fraction, absolute, add, fractions, is_zero_fraction, zero_fraction}
use Rattle.algebra.specs.RingLaws as L
use Rattle.algebra.specs.Sums.{total}
use Rattle.calculus.specs.Simplex.{Simplex, dimension, volume}
use Rattle.c_unit.specs.Meaning.{ran}
use Rattle.kernel.proofs.Rules.{ends_weaker}
use Rattle.kernel_runs.specs.Strips.{MonoPlan, item, map_factor, map_plan, mono_values, monos_onto}
use Rattle.kernel_runs.specs.Preamble.{coordinates}
use Rattle.kernel_runs.specs.Body.{digit_values, plans_on}
use Rattle.kernel_runs.specs.declared.digit.Digit.{Digit}
use Rattle.kernel_runs.specs.Tensors.{PlanTensors, Tensor, TensorShares, tensor_share}
use Rattle.kernel_runs.proofs.AnySteps.{planned_share}
use Rattle.kernel_runs.proofs.SharesAre.{AllEntries, entry_share, factors_mapped, monos_are}

entries_all : (n : ℕ) (v : Simplex) (w : List Fraction) (ms : List (MonoPlan Digit)) (ts : List Tensor) → PlanTensors n ms ts → AllEntries n (plans_on v w ms)
entries_all n v w [] [] h = tt
entries_all n v w [] (t ∷ ts) h = absurd h
entries_all n v w (m ∷ ms) [] h = absurd h
entries_all n v w (m ∷ ms) (t ∷ ts) h = (h.0.size, entries_all n v w ms ts h.1)

values_are : (n : ℕ) (v : Simplex) (w : List Fraction) (e : ℕ) → e < n → (ms : List (MonoPlan Digit)) (ts : List Tensor) → PlanTensors n ms ts
    → map (λ m. item (mono_values (absolute (volume v)) m) e) (plans_on v w ms) ≡ map (tensor_share v w e) ts
values_are n v w e l [] [] h = refl
values_are n v w e l [] (t ∷ ts) h = absurd h
values_are n v w e l (m ∷ ms) [] h = absurd h
values_are n v w e l (m ∷ ms) (t ∷ ts) h =
    let f : Digit → List Fraction = digit_values (dimension v) v w in
    ap₂ ◌∷◌
    (entry_share (absolute (volume v)) (map_plan f m) (map f t.coefficients) (map f t.directions) t.items
    (ap (map (map_factor f)) h.0.factors ∙ factors_mapped f t.coefficients t.directions) h.0.known h.0.rows e (subst (λ k. e < k) (sym h.0.full) l))
    (values_are n v w e l ms ts h.1)

pub tensor_shares : TensorShares
tensor_shares f v w cap most ms ts cell is plans =
    ends_weaker (Unit {0}) (is_zero_fraction (volume v) ≡ true) (λ s. (is_zero_fraction (volume v) ≡ false) × (s.a ≡ monos_onto (absolute (volume v)) (replicate f.a zero_fraction) (plans_on v w ms))) _
    (ran f (coordinates (dimension v) v) w) (planned_share f v w cap most ms cell is)
    (λ s h. (
      h.0,
      λ e l.
          let size : length (replicate f.a zero_fraction) ≡ f.a = length-replicate f.a zero_fraction in
          ap (λ a. item a e) h.1
          ∙ monos_are (absolute (volume v)) (replicate f.a zero_fraction) (plans_on v w ms) e (subst (λ n. AllEntries n (plans_on v w ms)) (sym size) (entries_all f.a v w ms ts plans)) (subst (λ n. e < n) (sym size) l)
          ∙ ap₂ (λ x xs. add x (total xs)) (get_or-replicate f.a e zero_fraction zero_fraction l) (values_are f.a v w e l ms ts plans)
          ∙ L.zero-add fractions (total (map (tensor_share v w e) ts)),
    ))
