-- The number in lowest terms that a fraction is, where both parts fit
use Rattle.std.specs.Prelude.{◌≡◌, Bool, true, false, unsigned_abs, Option, None, Some}
use Rattle.std.proofs.Common.{refl}
use Rattle.algebra.specs.Fraction.{Fraction}
use Rattle.algebra.specs.LowestTerms.{top, bottom}
use Rattle.algebra.specs.Steps.{below_limit}
use Rattle.algebra.proofs.LowestLaws.{parts_coprime, bottom_positive}
use Rattle.ratio.specs.declared.reduced.Ratio.{Ratio}
use Rattle.ratio.proofs.Reading.{below_is}

-- the value that holds where the test does
abbrev pub decided : {A : Type 0} (b : Bool) → (b ≡ true → A) → Option A
decided true make = Some (make refl)
decided false make = None

abbrev pub flattened : {A : Type 0} → Option (Option A) → Option A
flattened None = None
flattened (Some o) = o

unfoldable pub exact : Fraction → Option Ratio
exact x =
    flattened (decided (below_limit (unsigned_abs (top x))) (λ above.
    decided (below_limit (bottom x)) (λ below.
    record {
      n = top x;
      d = bottom x;
      positive = bottom_positive x;
      small = below_is (bottom x) below;
      fits = below_is (unsigned_abs (top x)) above;
      lowest = parts_coprime x;
    })))
