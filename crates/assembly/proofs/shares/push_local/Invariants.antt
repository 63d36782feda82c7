use Rattle.std.proofs.Common.{◌≡◌, ◌*◌, ◌-◌, ◌++◌, length, map, drop}
use Rattle.ratio.specs.Value.{fraction_of}
use Rattle.assembly.specs.Kept.{seen}
use Rattle.assembly.specs.Local.{local_entries}
use Rattle.assembly.specs.Shares.{nonzero_entries}
use Rattle.assembly.proofs.shares.push_local.Given as goal

-- the triples so far and those of the rows that are left are all
abbrev pub invariant-loop-row : goal.invariant-loop-row
invariant-loop-row l = record {
  room : (length l.rows - l.row-index) * length l.cols ≡ length l.rest;
  triples : map seen l.triples.items ++ nonzero_entries (local_entries (drop l.row-index l.rows) l.cols (map fraction_of l.rest))
      ≡ map seen l.initial.triples.items ++ nonzero_entries (local_entries l.rows l.cols (map fraction_of l.values));
}
