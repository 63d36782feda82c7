use Rattle.std.proofs.Common.{◌≡◌, take}
use Rattle.passes.specs.Names.{renaming_of}
use Rattle.passes.proofs.names.look.Given as goal

abbrev pub invariant-loop-one : goal.invariant-loop-one
invariant-loop-one l = l.index ≡ renaming_of (take l.one-index l.names) l.name
