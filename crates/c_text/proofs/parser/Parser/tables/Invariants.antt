use Rattle.std.proofs.Common.{◌≡◌, ◌≤◌, ℕ, codes}
use Rattle.c_text.specs.Stream.{repeat, is_ahead}
use Rattle.c_text.specs.Fractions.{tables_at, add_table}
use Rattle.c_text.specs.Parser.{stream, left}
use Rattle.c_text.proofs.parser.Parser.tables.Given as goal

abbrev pub invariant-all : goal.invariant-all
invariant-all l = record {
  shorter : left l.self ≤ left l.fn.self;
  read : (m : ℕ) × (left l.self ≤ m) × (tables_at (stream l.fn.self) ≡ repeat (is_ahead (codes "static")) add_table m l.tables (stream l.self));
}

abbrev pub decreases-all : goal.decreases-all
decreases-all l = left l.self
