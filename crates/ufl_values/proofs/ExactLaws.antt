-- The number that a fraction is
use Rattle.std.proofs.Common.{◌≡◌, Bool, true, false, true≢false, ◌&&◌, refl, sym, ap, ◌∙◌, unsigned_abs, Some, is_some}
use Rattle.algebra.specs.Fraction.{Fraction}
use Rattle.algebra.specs.LowestTerms.{top, bottom}
use Rattle.algebra.specs.Steps.{below_limit, fits}
use Rattle.algebra.proofs.LowestLaws.{parts_coprime, bottom_positive, same_from_parts}
use Rattle.ratio.specs.declared.reduced.Ratio.{Ratio}
use Rattle.ratio.specs.Value.{fraction_of}
use Rattle.ratio.proofs.Reading.{top_reads, bottom_reads, below, below_is}
use Rattle.ratio.proofs.Equality.{same_parts}
use Rattle.ufl_values.specs.Exact.{exact, decided, flattened}

decided_is : {A : Type 0} (b : Bool) (make : b ≡ true → A) (x : A) → b ≡ true → ((h : b ≡ true) → make h ≡ x) → decided b make ≡ Some x
decided_is true make x h all = ap Some (all refl)
decided_is false make x h all = absurd (true≢false (sym h))

-- a number is that of its own value
pub exact_at : (c : Ratio) → exact (fraction_of c) ≡ Some c
unfolding exact
exact_at c =
    let above = ap (λ z. below_limit (unsigned_abs z)) (top_reads c) ∙ below _ c.fits in
    let small = ap below_limit (bottom_reads c) ∙ below _ c.small in
    ap flattened
    (decided_is _ _ (Some c) above (λ h. decided_is _ _ c small (λ k. same_parts _ c (top_reads c) (bottom_reads c))))

-- the number of a fraction whose parts fit
abbrev lowest_ratio : (x : Fraction) → below_limit (unsigned_abs (top x)) ≡ true → below_limit (bottom x) ≡ true → Ratio
lowest_ratio x above below =
    record { n = top x; d = bottom x; positive = bottom_positive x; small = below_is (bottom x) below; fits = below_is (unsigned_abs (top x)) above; lowest = parts_coprime x }

both_made : {A : Type 0} (a b : Bool) (make : a ≡ true → b ≡ true → A) (x : A) → flattened (decided a (λ h. decided b (λ k. make h k))) ≡ Some x
    → (h : a ≡ true) × ((k : b ≡ true) × (make h k ≡ x))
both_made true true make x e = (refl, (refl, cc))
both_made true false make x e = cc
both_made false b make x e = cc

-- the number of a fraction has its value
pub exact_value : (x : Fraction) (c : Ratio) → exact x ≡ Some c → fraction_of c ≡ x
unfolding exact
exact_value x c e =
    let g = both_made (below_limit (unsigned_abs (top x))) (below_limit (bottom x)) (lowest_ratio x) c e in
    let same : lowest_ratio x g.0 g.1.0 ≡ c = g.1.1 in
    same_from_parts (fraction_of c) x (top_reads c ∙ sym (ap (λ (r : Ratio). r.n) same)) (bottom_reads c ∙ sym (ap (λ (r : Ratio). r.d) same))

both_hold : {A : Type 0} (a b : Bool) (make : a ≡ true → b ≡ true → A) → is_some (flattened (decided a (λ h. decided b (λ k. make h k)))) ≡ (a && b)
both_hold true true make = refl
both_hold true false make = refl
both_hold false b make = refl

-- there is one exactly where both parts fit
pub exact_fits : (x : Fraction) → is_some (exact x) ≡ fits x
unfolding exact
exact_fits x = both_hold (below_limit (unsigned_abs (top x))) (below_limit (bottom x)) (lowest_ratio x)
