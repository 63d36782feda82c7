use Rattle.std.proofs.Common.{length}
use Rattle.passes.proofs.pieces.+in_parts.Given as goal

abbrev pub decreases-in_parts : goal.decreases-in_parts
decreases-in_parts l = length l.parts.now
