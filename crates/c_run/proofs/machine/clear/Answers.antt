use Rattle.std.proofs.Common.{◌≡◌, ◌∙◌, ℕ, zero, suc, ap, ap₂, ◌∷◌, length, refl, replicate}
use Rattle.algebra.specs.Fraction.{Fraction, zero_fraction}
use Rattle.ratio.specs.declared.reduced.Ratio.{Ratio}
use Rattle.ratio.specs.Value.{fraction_of}
use Rattle.c_unit.specs.Meaning.{fractions_of}
use Rattle.c_run.proofs.machine.clear.Goals as goal

all_same : (n : ℕ) (v : Ratio) (z : Fraction) → fraction_of v ≡ z → fractions_of (replicate n v) ≡ replicate n z
all_same zero v z h = refl
all_same (suc n) v z h = ap₂ ◌∷◌ h (all_same n v z h)

pub returns : goal.returns
returns c =
    ap fractions_of (c.fill.ensures.after (λ y h. h))
    ∙ all_same (length c.args.slots.now) c.zero.result zero_fraction c.zero.ensures
