use Rattle.std.proofs.Common.{[], ◌∷◌, sym, ap, refl, subst, drop, arith}
use Rattle.ufl_syntax.specs.Machine.{a_word, word_on, run}
use Rattle.ufl_read.specs.Reads.{Fails}
use Rattle.ufl_read.proofs.Turns.{short_at, take_at, unnamed_fails}
use Rattle.ufl_read.proofs.tokens.expect_name.Goals as goal

pub returns-in_default : goal.returns-in_default
returns-in_default c = λ stack. short_at (a_word c.args.room) stack _ c.in_default.ensures refl

pub returns-in-Name : goal.returns-in-Name
returns-in-Name c = (
  omega arith,
  (c.in-Some.ensures.0, (c.in-Name.field-0, c.in-Name.is)),
  λ stack. take_at (a_word c.args.room) stack _ c.in-Some.first _ [] c.in-Some.ensures.0 (ap (word_on c.args.room) c.in-Name.is),
)

pub returns-in_default-class : goal.returns-in_default-class
returns-in_default-class c = λ stack.
    subst (λ e. Fails c.args.tokens.now e (run (a_word c.args.room ∷ stack) (drop c.args.at c.args.tokens.now))) (sym c.unnamed.ensures)
    (unnamed_fails c.args.room c.in-Some.first.class stack c.args.tokens.now c.args.at c.in-Some.first _ c.in-Some.ensures.0 refl c.in_default-class.not-Name)
