use Rattle.std.proofs.Common.{◌≡◌, ◌≤◌, ℕ}
use Rattle.c_text.specs.Stream.{repeat}
use Rattle.c_text.specs.Units.{functions_at, add_function, is_more}
use Rattle.c_text.specs.Names.{AreNames}
use Rattle.c_text.specs.Parser.{stream, left}
use Rattle.c_text.proofs.parser.Parser.functions.Given as goal

abbrev pub invariant-all : goal.invariant-all
invariant-all l = record {
  names : AreNames l.names l.funs;
  shorter : left l.self ≤ left l.fn.self;
  read : (m : ℕ) × (left l.self ≤ m)
      × (functions_at (stream l.fn.self) ≡ repeat is_more add_function m (record { unit = record { funs = l.funs }; enums = l.enums; lines = l.all_lines }) (stream l.self));
}

abbrev pub decreases-all : goal.decreases-all
decreases-all l = left l.self
