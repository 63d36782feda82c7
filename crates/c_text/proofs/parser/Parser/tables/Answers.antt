use Rattle.std.proofs.Common.{◌∙◌, sym, ap, codes, Ok, [], ◌∷◌, ◌++◌, length, arith}
use Rattle.c_text.specs.Stream.{◌>>=◌, is_ahead, repeat}
use Rattle.c_text.specs.Fractions.{table_at, add_table}
use Rattle.c_text.specs.Parser.{stream}
use Rattle.c_text.proofs.ReadLaws.{gives_err, fails_through, fails_as}
use Rattle.c_text.proofs.Repeats.{one_more, none_more, all_read, some_ahead}
use Rattle.c_text.proofs.parser.Parser.tables.Goals as goal

pub returns-then-not-next_is-clause-read : goal.returns-then-not-next_is-clause-read
returns-then-not-next_is-clause-read c = all_read (is_ahead (codes "static")) add_table _ _ _ _ c.all.invariant.read.2 (sym c.next_is.ensures ∙ c.if-not-next_is.true)

pub returns-in_err-table-clause-read : goal.returns-in_err-table-clause-read
returns-in_err-table-clause-read c =
    let test = sym c.next_is.ensures ∙ c.if-not-next_is.false in
    gives_err (λ x. x) c.from_residual.result c.in_err-table.field-0.0 _ _ c.from_residual.ensures.0 c.from_residual.ensures.1
    (none_more c.in_err-table.field-0.0 (is_ahead (codes "static")) add_table _ _ _ _ _ (some_ahead (stream c.all.self) _ _ test) c.all.invariant.read.1 c.all.invariant.read.2 test
    (fails_through c.in_err-table.field-0.0 (table_at (length c.all.tables) (stream c.all.self)) _
    (fails_as c.in_err-table.field-0.0 (table_at c.len.result (stream c.all.self)) _ (ap (λ k. table_at k (stream c.all.self)) (sym c.len.ensures)) c.in_err-table.ensures.read)))

pub all-preserved : goal.all-preserved
all-preserved c =
    let test = sym c.next_is.ensures ∙ c.if-not-next_is.false in
    let r = one_more (is_ahead (codes "static")) add_table _ _ _ _ c.all.tables _ _ c.all.invariant.read.1 c.in_ok-table.ensures.shorter c.all.invariant.read.2 test
    (ap (λ r. r >>= λ x. Ok (c.all.tables ++ x.0 ∷ [], x.1)) (ap (λ k. table_at k (stream c.all.self)) (sym c.len.ensures) ∙ c.in_ok-table.ensures.read)) in
    record {
      shorter = omega (arith, c.all.invariant.shorter, c.in_ok-table.ensures.shorter);
      read = (r.0, r.1, r.2 ∙ ap (λ ts. repeat (is_ahead (codes "static")) add_table r.0 ts (stream c.table.new.self)) (sym c.in_ok-push.ensures.ok));
    }
