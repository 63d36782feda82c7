-- Kept numbers refuse exactly what exact ones do
use Rattle.std.proofs.Common.{◌≡◌, ℕ, ◌+◌, ◌*◌, ◌^◌, ◌<◌, ◌≤◌, ◌||◌, Bool, true, false, nat_lt, nat_le, if◌then◌else◌, None, Some, inl, inr, refl, sym, ◌∙◌, ap, ap₂, subst, arith}
use native.Mathlib.Nat as N
use Rattle.std.proofs.lemmas.Bool.Decides.{nat_tests}
use Rattle.calculus.specs.LocalFunction.{factorial}
use Rattle.ufl_tree.specs.Places.{Table}
use Rattle.ufl_tree.specs.FormTerm.{FormTerm}
use Rattle.monos.specs.declared.weight.Weight.{Weight}
use Rattle.weigh.specs.declared.refusal.WeightRefusal.{WeightRefusal}
use Rattle.weigh.specs.declared.refusal.WeightRefusal.TheVariants.{Cost, Size}
use Rattle.weigh.specs.Weighing.{exact, kept, form_weight}
use Rattle.weigh.specs.Refusals.{size, weight_refusal, IsCostly, IsLarge, Agree, HasLowDegrees, KeptDecides}
use Rattle.weigh.proofs.AgreeLaws.{IsPositive, Agrees, positive_from_sound}
use Rattle.calculus.proofs.Nodes.{factorial_positive}
use Rattle.weigh.proofs.WeighLaws.{form_agrees}

below_test : (m n : ℕ) → m < n → nat_lt m n ≡ true
below_test m n h = grind (arith, nat_tests)

most_test : (m n : ℕ) → m ≤ n → nat_le m n ≡ true
most_test m n h = grind (arith, nat_tests)

or_true : (b : Bool) → (b || true) ≡ true
or_true true = refl
or_true false = refl

costly_test : (w : Weight) → IsCostly w → (nat_lt (2 ^ 20) w.cost || nat_lt 256 w.g) ≡ true
costly_test w (inl h) = ap (λ b. b || nat_lt 256 w.g) (below_test (2 ^ 20) w.cost h)
costly_test w (inr h) = ap (λ b. nat_lt (2 ^ 20) w.cost || b) (below_test 256 w.g h) ∙ or_true (nat_lt (2 ^ 20) w.cost)

costly_refused : (d : ℕ) (w : Weight) → IsCostly w → weight_refusal d w ≡ Some Cost
costly_refused d w h = ap (λ b. if b then Some Cost else (if nat_le (2 ^ 100) (size d w) then Some Size else None)) (costly_test w h)

-- fac * num * s is at most the size
size_split : (p f c n s : ℕ) → 1 ≤ p → 1 ≤ c → f * n * s ≤ p * f * c * n * s
size_split p f c n s hp hc =
    let a : f ≤ p * f = subst (λ x. f ≤ x) (N.mul_comm f p) (N.le-mul_of_pos_right f hp) in
    let b : f ≤ p * f * c = N.le_trans a (N.le-mul_of_pos_right (p * f) hc) in
    N.mul-le-mul_right s (N.mul-le-mul_right n b)

large_size : (d : ℕ) (w : Weight) → IsPositive w → IsLarge w → 2 ^ 100 ≤ size d w
large_size d w p h = N.le_trans h (size_split (factorial (w.deg + d)) w.fac w.cost w.num w.s (factorial_positive (w.deg + d)) p.cost)

large_refused : (d : ℕ) (w : Weight) → IsPositive w → IsLarge w
    → weight_refusal d w ≡ (if nat_lt (2 ^ 20) w.cost || nat_lt 256 w.g then Some Cost else Some Size)
large_refused d w p h =
    ap (λ b. if nat_lt (2 ^ 20) w.cost || nat_lt 256 w.g then Some Cost else (if b then Some Size else None)) (most_test (2 ^ 100) (size d w) (large_size d w p h))

pub decides : (d : ℕ) (e k : Weight) → Agrees e k → weight_refusal d k ≡ weight_refusal d e
decides d e k h = at h.agree
  where
    at : Agree e k → weight_refusal d k ≡ weight_refusal d e
    at (inl q) = ap (weight_refusal d) (sym q)
    at (inr (inl q)) = costly_refused d k q.1 ∙ sym (costly_refused d e q.0)
    at (inr (inr q)) =
        large_refused d k h.positive q.2
        ∙ ap₂ (λ c g. if nat_lt (2 ^ 20) c || nat_lt 256 g then Some Cost else Some Size) (sym q.0.0) (sym q.0.1)
        ∙ sym (large_refused d e (positive_from_sound e h.sound) q.1)

not_none : (b : Bool) → (if b then Some Cost else Some Size) ≡ None → ⊥
not_none true e = absurd (some_none e)
  where
    some_none : {r : WeightRefusal} → Some r ≡ None → ⊥
    some_none e = grind arith
not_none false e = absurd (some_none e)
  where
    some_none : {r : WeightRefusal} → Some r ≡ None → ⊥
    some_none e = grind arith

cost_none : Some Cost ≡ None → ⊥
cost_none e = grind arith

pub admitted_exact : (d : ℕ) (e k : Weight) → Agrees e k → weight_refusal d k ≡ None → k ≡ e
admitted_exact d e k h n = at h.agree
  where
    at : Agree e k → k ≡ e
    at (inl q) = sym q
    at (inr (inl q)) = absurd (cost_none (sym (costly_refused d k q.1) ∙ n))
    at (inr (inr q)) = absurd (not_none (nat_lt (2 ^ 20) k.cost || nat_lt 256 k.g) (sym (large_refused d k h.positive q.2) ∙ n))

pub kept_decides : (elements : Table) (f : FormTerm) → HasLowDegrees elements → KeptDecides elements f
kept_decides elements f low =
    let h : Agrees (form_weight exact elements f) (form_weight kept elements f) = form_agrees elements low f in
    record {
      refusal = λ d. decides d (form_weight exact elements f) (form_weight kept elements f) h;
      weight = λ d. admitted_exact d (form_weight exact elements f) (form_weight kept elements f) h;
    }
