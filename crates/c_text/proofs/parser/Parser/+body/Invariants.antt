use Rattle.std.proofs.Common.{◌≡◌, ◌≤◌, ◌*◌, ◌+◌, ℕ, nat_lt}
use Rattle.c_text.specs.Stream.{repeat}
use Rattle.c_text.specs.Statements.{is_statement, add_line, line_at, body_at}
use Rattle.c_text.specs.Parser.{stream, left}
use Rattle.c_text.proofs.parser.Parser.+body.Given as goal

abbrev pub invariant-body-all : goal.invariant-body-all
invariant-body-all l = record {
  shorter : left l.self ≤ left l.fn.self;
  read : (m : ℕ) × (left l.self ≤ m)
      × (body_at l.room l.scope l.tables (stream l.fn.self)
      ≡ repeat (is_statement (nat_lt 0 l.room)) (add_line (line_at l.room) l.scope l.tables) m (record { statements = l.statements; lines = l.lines; count = l.count }) (stream l.self));
}

abbrev pub decreases-body-all : goal.decreases-body-all
decreases-body-all l = left l.self

abbrev pub decreases-body : goal.decreases-body
decreases-body l = 3 * l.room + 2

abbrev pub decreases-line : goal.decreases-line
decreases-line l = 3 * l.room + 1

abbrev pub decreases-counted_loop : goal.decreases-counted_loop
decreases-counted_loop l = 3 * l.room + 3
