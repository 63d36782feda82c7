use Rattle.std.proofs.Common.{◌≡◌, ℕ, ◌≤◌, ◌+◌, ◌++◌, length, take, replicate}
use Rattle.ratio.specs.NumberText.{without_end_zeros}
use Rattle.ratio.proofs.digits.without_end_zeros.Given as goal

abbrev pub invariant-loop-end : goal.invariant-loop-end
invariant-loop-end l = record {
  within : l.end ≤ length l.digits;
  kept : without_end_zeros (take l.end l.digits) ≡ without_end_zeros l.digits;
  dropped : (n : ℕ) → length l.digits ≡ l.end + n → l.digits ≡ take l.end l.digits ++ replicate n 48;
}

abbrev pub decreases-loop-end : goal.decreases-loop-end
decreases-loop-end l = l.end
