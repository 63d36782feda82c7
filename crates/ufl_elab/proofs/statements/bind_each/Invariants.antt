use Rattle.std.proofs.Common.{◌≡◌, ◌+◌, length, reverse, drop}
use Rattle.ufl_elab.specs.Statements.{bind_each}
use Rattle.ufl_elab.specs.Answers.{file_in, names_in}
use Rattle.ufl_elab.proofs.statements.bind_each.Given as goal

abbrev pub invariant-loop-target : goal.invariant-loop-target
invariant-loop-target l = record {
  file : file_in l.names ≡ file_in l.fn.names;
  count : length l.rest + l.target-index ≡ length l.targets;
  bound : bind_each (file_in l.fn.names) l.line l.targets l.fn.items (names_in l.fn.names)
      ≡ bind_each (file_in l.fn.names) l.line (drop l.target-index l.targets) (reverse l.rest) (names_in l.names);
}
