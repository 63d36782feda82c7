use Rattle.std.proofs.Common.{◌≡◌, None, drop}
use Rattle.std.specs.Option.{option_map}
use Rattle.ufl_elab.specs.Exports.{last_exports}
use Rattle.ufl_elab.specs.Answers.{exports_seen}
use Rattle.ufl_elab.proofs.exports.last_exports.Given as goal

abbrev pub invariant-loop-st : goal.invariant-loop-st
invariant-loop-st l = last_exports l.file None l.sts ≡ last_exports l.file (option_map exports_seen l.last) (drop l.st-index l.sts)
