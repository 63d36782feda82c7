-- A weight that isn't refused is admitted
use Rattle.std.proofs.Common.{◌≡◌, ℕ, ◌^◌, ◌<◌, ◌≤◌, ◌||◌, Bool, true, false, nat_lt, nat_le, if◌then◌else◌, None, Some, refl, ap, ◌∙◌, arith}
use Rattle.std.proofs.lemmas.Bool.Decides.{nat_tests}
use Rattle.ufl_tree.specs.Places.{Table}
use Rattle.ufl_tree.specs.FormTerm.{FormTerm}
use Rattle.monos.specs.declared.weight.Weight.{Weight}
use Rattle.weigh.specs.declared.refusal.WeightRefusal.{WeightRefusal}
use Rattle.weigh.specs.declared.refusal.WeightRefusal.TheVariants.{Cost, Size}
use Rattle.weigh.specs.Admitted.{IsAdmitted}
use Rattle.weigh.specs.Bounds.{IsSound}
use Rattle.weigh.specs.Refusals.{size, weight_refusal}
use Rattle.weigh.specs.Weighing.{exact, form_weight}
use Rattle.weigh.proofs.WeighLaws.{form_sound}

some_none : (r : WeightRefusal) → Some r ≡ None → ⊥
some_none r e = grind arith

at_most : (m n : ℕ) → nat_lt m n ≡ false → n ≤ m
at_most m n h = grind (arith, nat_tests)

below : (m n : ℕ) → nat_le m n ≡ false → n < m
below m n h = grind (arith, nat_tests)

not_above : (m n : ℕ) → n ≤ m → nat_lt m n ≡ false
not_above m n h = grind (arith, nat_tests)

not_within : (m n : ℕ) → n < m → nat_le m n ≡ false
not_within m n h = grind (arith, nat_tests)

pub admitted : (d : ℕ) (w : Weight) → IsSound w → weight_refusal d w ≡ None → IsAdmitted d w
admitted d w s e = go (nat_lt (2 ^ 20) w.cost) (nat_lt 256 w.g) (nat_le (2 ^ 100) (size d w)) refl refl refl e
  where
    go : (a b c : Bool) → nat_lt (2 ^ 20) w.cost ≡ a → nat_lt 256 w.g ≡ b → nat_le (2 ^ 100) (size d w) ≡ c
        → (if a || b then Some Cost else (if c then Some Size else None)) ≡ None → IsAdmitted d w
    go true b c p q r h = absurd (some_none Cost h)
    go false true c p q r h = absurd (some_none Cost h)
    go false false true p q r h = absurd (some_none Size h)
    go false false false p q r h = record {
      cost = at_most (2 ^ 20) w.cost p;
      factors = at_most 256 w.g q;
      size = below (2 ^ 100) (size d w) r;
      one_cost = s.cost;
      one_den = s.den;
      one_fac = s.fac;
      one_s = s.s;
      parts = s.parts;
      functions = s.functions;
      derivatives = s.derivatives;
    }

pub admits : (d : ℕ) (w : Weight) → IsAdmitted d w → weight_refusal d w ≡ None
admits d w h =
    ap (λ a. if a || nat_lt 256 w.g then Some Cost else (if nat_le (2 ^ 100) (size d w) then Some Size else None)) (not_above (2 ^ 20) w.cost h.cost)
    ∙ ap (λ a. if a then Some Cost else (if nat_le (2 ^ 100) (size d w) then Some Size else None)) (not_above 256 w.g h.factors)
    ∙ ap (λ a. if a then Some Size else None) (not_within (2 ^ 100) (size d w) h.size)

pub form_admitted : (elements : Table) (f : FormTerm) (d : ℕ) → weight_refusal d (form_weight exact elements f) ≡ None → IsAdmitted d (form_weight exact elements f)
form_admitted elements f d e = admitted d (form_weight exact elements f) (form_sound elements f) e
