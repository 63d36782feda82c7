use Rattle.std.proofs.Common.{◌≡◌, drop}
use Rattle.ufl_elab.specs.Statements.{statements}
use Rattle.ufl_elab.specs.Answers.{file_in, state_in}
use Rattle.ufl_elab.proofs.statements.statements.Given as goal

abbrev pub invariant-loop-st : goal.invariant-loop-st
invariant-loop-st l = record {
  file : file_in l.names ≡ file_in l.fn.names;
  run : statements (file_in l.fn.names) l.sts (state_in l.fn.names l.fn.made)
      ≡ statements (file_in l.fn.names) (drop l.st-index l.sts) (state_in l.names l.made);
}
