-- The buffers of contractions, and where columns stand in them
use Rattle.std.proofs.Common.{◌≡◌, ℕ, suc, ◌+◌, ◌*◌, ◌≤◌, max, List, [], ◌∷◌, length, take, drop, zero, refl, ap, arith}
use Rattle.algebra.specs.Fraction.{Fraction}
use Rattle.kernel_runs.specs.Strips.{Factor}
use Rattle.kernel_runs.specs.Planned.{columns_at}
use Rattle.kernel_runs.specs.declared.strip.Strip.{Strip}
use Rattle.kernel_statements.specs.Emitted.{cut}
use Rattle.kernel_statements.specs.Statements.{most_columns}
use Rattle.kernel_statements.specs.declared.contraction.Contraction.{Contraction}

pub some_columns : (cs : List Contraction) → 1 ≤ most_columns cs
some_columns [] = omega arith
some_columns (c ∷ cs) = let h = some_columns cs in omega arith

-- in one of the buffers, or where the first one stands
pub at_few : (most new next cur : ℕ) (fs : List (Factor Strip)) → new ≤ most → next ≤ most → cur ≤ most → columns_at new next cur fs ≤ most
at_few most new next cur [] a b c = c
at_few most new next cur (f ∷ fs) a b c = at_few most next new new fs b a a

pub cut_length : (width n : ℕ) (xs : List Fraction) → length (cut width n xs) ≡ n
cut_length width zero xs = refl
cut_length width (suc n) xs = ap suc (cut_length width n (drop width xs))
