-- The stiffness form on intervals meets what is owed of a plan
use Rattle.std.proofs.Common.{◌≡◌, zero, suc, ◌<◌, ◌≤◌, inl, refl, arith, [], ◌∷◌, false}
use Rattle.algebra.specs.Fraction.{Fraction, is_zero_fraction}
use Rattle.ratio.specs.declared.reduced.Ratio.{Ratio}
use Rattle.kernel_runs.specs.Strips.{MonoPlan, factors_in, map_plan}
use Rattle.kernel_runs.specs.declared.entry.Entry.TheVariants.{Counted, Multiple}
use Rattle.kernel_runs.specs.Frame.{IsTable}
use Rattle.kernel_runs.specs.Planned.{IsPlanned}
use Rattle.kernel_runs.specs.Body.{places_for, strip_of}
use Rattle.kernel_runs.specs.declared.digit.Digit.{Digit}
use Rattle.kernel_runs.specs.declared.digit.Digit.TheVariants.{Growth}
use Rattle.kernel_runs.proofs.Directed.{directed_fixed}

-- one item r, and its multiple by l for two nodes
abbrev pub stiffness : Fraction → Ratio → MonoPlan Digit
stiffness r l = record {
  factors = factors_in [] (Growth 0 ∷ Growth 0 ∷ []);
  more = 0;
  table = 0;
  rows = (r ∷ []) ∷ [];
  entries = Counted 0 ∷ Multiple l 0 ∷ Multiple l 0 ∷ Counted 0 ∷ [];
  straight = false;
}

table : (r : Fraction) → IsTable ((r ∷ []) ∷ []) 0 1 ((r ∷ []) ∷ [])
table r zero zero h g = (refl, refl)
table r zero (suc b) h g = absurd (omega arith)
table r (suc a) b h g = absurd (omega arith)

pub stiffness_planned : (r : Fraction) (l : Ratio) → is_zero_fraction r ≡ false → IsPlanned ((r ∷ []) ∷ []) (places_for 1) 1 4 (map_plan (strip_of 1) (stiffness r l))
stiffness_planned r l h =
    let one : 1 ≤ 1 = omega arith in
    let first : 0 < 1 = omega arith in
    let small : 1 ≤ 3 = omega arith in
    let direction : 0 < 3 = omega arith in
    record {
      fixed = directed_fixed 1 small (factors_in [] (Growth 0 ∷ Growth 0 ∷ [])) (direction, (direction, tt));
      within = (one, (one, tt));
      width = refl;
      few = one;
      table = table r;
      nonzero = (inl h, tt);
      known = (first, (first, (first, (first, tt))));
      size = refl;
    }
