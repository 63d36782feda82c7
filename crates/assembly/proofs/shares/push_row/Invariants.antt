use Rattle.std.proofs.Common.{◌≡◌, ◌++◌, map, drop}
use Rattle.ratio.specs.Value.{fraction_of}
use Rattle.assembly.specs.Kept.{seen}
use Rattle.assembly.specs.Local.{row_entries}
use Rattle.assembly.specs.Shares.{nonzero_entries}
use Rattle.assembly.proofs.shares.push_row.Given as goal

-- the triples so far and those of the values that are left are all
abbrev pub invariant-loop-i : goal.invariant-loop-i
invariant-loop-i l =
    map seen l.triples.items ++ nonzero_entries (row_entries l.row (drop l.i l.cols) (map fraction_of (drop l.i l.values)))
    ≡ map seen l.initial.triples.items ++ nonzero_entries (row_entries l.row l.cols (map fraction_of l.values))
