use Rattle.std.proofs.Common.{◌≡◌, ◌≤◌, ℕ, codes}
use Rattle.c_text.specs.Stream.{repeat, is_ahead}
use Rattle.c_text.specs.Fractions.{further_items_at, add_item}
use Rattle.c_text.specs.Parser.{stream, left}
use Rattle.c_text.proofs.parser.Parser.further_items.Given as goal

abbrev pub invariant-all : goal.invariant-all
invariant-all l = record {
  shorter : left l.self ≤ left l.fn.self;
  read : (m : ℕ) × (left l.self ≤ m) × (further_items_at l.fn.first (stream l.fn.self) ≡ repeat (is_ahead (codes ",")) add_item m l.items (stream l.self));
}

abbrev pub decreases-all : goal.decreases-all
decreases-all l = left l.self
