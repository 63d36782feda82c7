use Rattle.std.proofs.Common.{◌-◌, map}
use Rattle.std.specs.Option.{option_copied}
use Rattle.assembly.specs.Kept.{seen}
use Rattle.assembly.specs.Assembly.{assembly_of}
use Rattle.assembly.specs.LentRows.{lent_count}
use Rattle.assembly.proofs.AssembledLaws.{AreAssembled}
use Rattle.assembly.proofs.assembled.assemble.Given as goal

-- the rows so far have their sums
abbrev pub invariant-loop-row : goal.invariant-loop-row
invariant-loop-row l = AreAssembled (assembly_of l.f l.m (option_copied l.rows) (option_copied l.cols) l.coefs) l.lent (map seen l.triples.items)

abbrev pub decreases-loop-row : goal.decreases-loop-row
decreases-loop-row l = lent_count l.lent - l.lent.next
