use Rattle.std.proofs.Common.{◌≡◌, take, ◌++◌}
use Rattle.lower.specs.Renaming.{all_renamed}
use Rattle.passes.specs.Names.{renaming_of}
use Rattle.passes.proofs.names.all_renamed.Given as goal

abbrev pub invariant-loop-i : goal.invariant-loop-i
invariant-loop-i l = l.all ≡ all_renamed (renaming_of l.names) (take l.i-index l.at)

abbrev pub invariant-loop-k : goal.invariant-loop-k
invariant-loop-k l = l.all ≡ all_renamed (renaming_of l.names) l.at ++ take l.k-index l.more
