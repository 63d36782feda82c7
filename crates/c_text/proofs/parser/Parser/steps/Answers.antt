use Rattle.std.proofs.Common.{◌∙◌, sym, ap, codes, Bool, ◌&&◌, true, Ok, arith}
use Rattle.c_text.specs.Stream.{◌>>=◌}
use Rattle.c_text.specs.Lowest.{first}
use Rattle.c_text.specs.Places.{step_at, add_step, with_step, goes_on}
use Rattle.c_text.specs.Parser.{stream}
use Rattle.c_text.proofs.ReadLaws.{gives_err, fails_through}
use Rattle.c_text.proofs.Repeats.{while_one_more, while_none_more, while_all_read, some_ahead}
use Rattle.c_text.proofs.parser.Parser.steps.Goals as goal

pub returns-then-not-is_step_ahead-clause-read : goal.returns-then-not-is_step_ahead-clause-read
returns-then-not-is_step_ahead-clause-read c = while_all_read (goes_on c.args.depth) (add_step c.args.depth) _ _ _ _ c.all.invariant.read.2 (sym c.is_step_ahead.ensures ∙ c.if-not-is_step_ahead.true)

pub returns-in_err-factor-clause-read : goal.returns-in_err-factor-clause-read
returns-in_err-factor-clause-read c =
    let test = sym c.is_step_ahead.ensures ∙ c.if-not-is_step_ahead.false in
    gives_err (λ x. x) c.from_residual.result c.in_err-factor.field-0.0 _ _ c.from_residual.ensures.0 c.from_residual.ensures.1
    (while_none_more (goes_on c.args.depth) (add_step c.args.depth) c.in_err-factor.field-0.0 _ _ _ _ _ (some_ahead (stream c.all.self) _ _ (first _ _ test)) c.all.invariant.read.1 c.all.invariant.read.2 test
    (fails_through c.in_err-factor.field-0.0 (step_at c.all.from c.args.depth (stream c.all.self)) _ c.in_err-factor.ensures.read))

pub all-preserved : goal.all-preserved
all-preserved c =
    let test = sym c.is_step_ahead.ensures ∙ c.if-not-is_step_ahead.false in
    record {
      shorter = omega (arith, c.all.invariant.shorter, c.in_ok-factor.ensures.shorter);
      read = while_one_more (goes_on c.args.depth) (add_step c.args.depth) _ _ _ _ _ _ _ c.all.invariant.read.1 c.in_ok-factor.ensures.shorter c.all.invariant.read.2 test
          (ap (λ r. r >>= λ x. Ok (with_step (record { steps = c.all.steps; from = c.all.from; line = c.all.last }) x.0, x.1)) c.in_ok-factor.ensures.read);
    }
