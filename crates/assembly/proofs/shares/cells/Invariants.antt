use Rattle.std.proofs.Common.{◌≡◌, length}
use Rattle.std.specs.Option.{option_copied}
use Rattle.assembly.specs.Assembly.{assembly_of}
use Rattle.assembly.specs.Shares.{AreSharesFrom}
use Rattle.assembly.proofs.shares.cells.Given as goal

-- the cells so far have their shares
abbrev pub invariant-loop-cell : goal.invariant-loop-cell
invariant-loop-cell l = record {
  count : length l.shares.items ≡ l.cell;
  each : AreSharesFrom (assembly_of l.f l.m (option_copied l.rows) (option_copied l.cols) l.coefs) 0 l.shares.items;
}
