-- The places of factors are fixed
use Rattle.std.proofs.Common.{ℕ, ◌+◌, ◌*◌, ◌<◌, ◌≤◌, arith, map, List, [], ◌∷◌}
use Rattle.kernel_runs.specs.Strips.{Factor, Fastest, Slowest, map_factor}
use Rattle.kernel_runs.specs.Planned.{AllFixed, FactorsFixed}
use Rattle.kernel_runs.specs.Preamble.{scratch_slot}
use Rattle.kernel_runs.specs.Body.{AllDirected, IsDirected, strip_of}
use Rattle.kernel_runs.specs.declared.digit.Digit.{Digit}
use Rattle.kernel_runs.specs.declared.digit.Digit.TheVariants.{Growth, Weights, Corners}

digit_fixed : (d : ℕ) → d ≤ 3 → (g : Digit) → IsDirected g → AllFixed (λ k. k < scratch_slot) (strip_of d g)
digit_fixed d h (Growth i) l = λ j g. below d i j h l g
  where
    below : (d i j : ℕ) → d ≤ 3 → i < 3 → j < d → 21 + 3 * i + 1 * j < 32
    below d i j h l g = omega arith
digit_fixed d h (Weights o n) l = λ j g. tt
digit_fixed d h (Corners i n) l = λ j g. tt

pub directed_fixed : (d : ℕ) → d ≤ 3 → (fs : List (Factor Digit)) → AllDirected fs → FactorsFixed (λ k. k < scratch_slot) (map (map_factor (strip_of d)) fs)
directed_fixed d h [] l = tt
directed_fixed d h (Fastest g ∷ fs) l = (digit_fixed d h g l.0, directed_fixed d h fs l.1)
directed_fixed d h (Slowest g ∷ fs) l = (digit_fixed d h g l.0, directed_fixed d h fs l.1)
