use Rattle.std.proofs.Common.{◌∙◌, sym, ap, ap₂, nat_lt, Ok, length, arith}
use Rattle.c_text.specs.declared.statement.Body.{Body}
use Rattle.c_text.specs.Stream.{◌>>=◌, repeat}
use Rattle.c_text.specs.Statements.{is_statement, add_line, with_line, line_at}
use Rattle.c_text.specs.Parser.{stream}
use Rattle.c_text.proofs.ReadLaws.{same_three, gives_as, gives_err, fails_through}
use Rattle.c_text.proofs.Repeats.{one_more, none_more, all_read}
use Rattle.c_text.proofs.Bodies.{body_from, line_loop_at, line_call_at, some_statement}
use Rattle.c_text.proofs.parser.Parser.+body.Goals as goal

pub body-all-init : goal.body-all-init
body-all-init t c =
    let s = stream c.args.self.now in
    let r = c.args.room in
    record {
      shorter = omega arith;
      read = (
        length s.tokens,
        omega arith,
        body_from r c.args.scope.now c.args.tables.now s
            ∙ ap₂ (λ ss ls. repeat (is_statement (nat_lt 0 r)) (add_line (line_at r) c.args.scope.now c.args.tables.now) (length s.tokens) (record { statements = ss; lines = ls; count = 0 }) s) (sym c.new-statements.ensures) (sym c.new-lines.ensures),
      );
    }

pub body-returns-then-not-is_statement-clause-read : goal.body-returns-then-not-is_statement-clause-read
body-returns-then-not-is_statement-clause-read t c =
    all_read (is_statement (nat_lt 0 c.args.room)) (add_line (line_at c.args.room) c.args.scope.now c.args.tables.now) _ _ _ _ c.all.invariant.read.2 (sym c.is_statement.ensures ∙ c.if-not-is_statement.true)

pub body-returns-in_err-statement-clause-read : goal.body-returns-in_err-statement-clause-read
body-returns-in_err-statement-clause-read t c =
    let test = sym c.is_statement.ensures ∙ c.if-not-is_statement.false in
    gives_err (λ x. x) c.from_residual.result c.in_err-statement.field-0.0 _ _ c.from_residual.ensures.0 c.from_residual.ensures.1
    (none_more c.in_err-statement.field-0.0 (is_statement (nat_lt 0 c.args.room)) (add_line (line_at c.args.room) c.args.scope.now c.args.tables.now) _ _ _ _ _
    (some_statement (nat_lt 0 c.args.room) (stream c.all.self) test) c.all.invariant.read.1 c.all.invariant.read.2 test
    (fails_through c.in_err-statement.field-0.0 (line_at c.args.room c.args.scope.now c.args.tables.now (stream c.all.self)) _ c.in_err-statement.ensures.read))

pub body-all-preserved : goal.body-all-preserved
body-all-preserved t c =
    let test = sym c.is_statement.ensures ∙ c.if-not-is_statement.false in
    let more = is_statement (nat_lt 0 c.args.room) in
    let one = add_line (line_at c.args.room) c.args.scope.now c.args.tables.now in
    let a : Body = record { statements = c.all.statements; lines = c.all.lines; count = c.all.count } in
    let r = one_more more one _ _ _ _ a _ _ c.all.invariant.read.1 c.in_ok-statement.ensures.shorter c.all.invariant.read.2 test
    (ap (λ r. r >>= λ x. Ok (with_line a x.0, x.1)) c.in_ok-statement.ensures.read) in
    record {
      shorter = omega (arith, c.all.invariant.shorter, c.in_ok-statement.ensures.shorter);
      read = (
        r.0,
        r.1,
        r.2
            ∙ same_three (λ ss ls n. repeat more one r.0 (record { statements = ss; lines = ls; count = n }) (stream c.line.new.self)) (sym c.in_ok-push.ensures.ok) (sym c.in_ok-append.ensures) (sym c.sum_capped-count.ensures),
      );
    }

pub line-returns-then-is_loop-clause-read : goal.line-returns-then-is_loop-clause-read
line-returns-then-is_loop-clause-read t c = let e = line_loop_at c.args.room c.args.scope.now c.args.tables.now (stream c.args.self.now) (sym c.is_loop.ensures ∙ c.if-is_loop.true) in
    gives_as (λ x. x) c.counted_loop.result _ _ _ e c.counted_loop.ensures.read

pub line-returns-clause-read : goal.line-returns-clause-read
line-returns-clause-read t c = let e = line_call_at c.args.room c.args.scope.now c.args.tables.now (stream c.args.self.now) (sym c.is_loop.ensures ∙ c.if-is_loop.false) in
    gives_as (λ x. x) c.call_line.result _ _ _ e c.call_line.ensures.read
