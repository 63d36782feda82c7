use Rattle.std.proofs.Common.{◌≡◌}
use Rattle.spaces.proofs.element.trees.Given as goal

abbrev pub invariant-loop-part : goal.invariant-loop-part
invariant-loop-part l = l.all ≡ l.yielded
