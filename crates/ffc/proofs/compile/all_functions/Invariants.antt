use Rattle.std.proofs.Common.{take}
use Rattle.ffc.specs.Unit.{AreFunctionsOf}
use Rattle.ffc.proofs.compile.all_functions.Given as goal

abbrev pub invariant-loop-named : goal.invariant-loop-named
invariant-loop-named l = AreFunctionsOf l.file l.program (take l.named-index l.forms) l.all
