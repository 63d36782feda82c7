use Rattle.std.proofs.Common.{◌∷◌, ◌++◌, ◌∙◌, sym, ap, refl, arith}
use Rattle.std.proofs.lemmas.Result.{err_from_is_err_and}
use Rattle.ufl_syntax.specs.declared.class.Class.TheVariants as k
use Rattle.ufl_syntax.specs.Machine.{after_first, later_names, first_on}
use Rattle.ufl_syntax.proofs.Words.{same_is}
use Rattle.ufl_read.specs.Reads.{ended_parts, assigned_parts}
use Rattle.ufl_read.proofs.Turns.{short_at, take_at, stop_at, along}
use Rattle.ufl_read.proofs.Lines.{sign_takes, no_sign_wrong, signed_statement, several_statement}
use Rattle.ufl_read.proofs.statements.named.Goals as goal

pub returns-in_default : goal.returns-in_default
returns-in_default c = λ stack. short_at (after_first c.args.room) stack _ c.in_default.ensures refl

pub returns-in_err-value : goal.returns-in_err-value
returns-in_err-value c =
    let p = err_from_is_err_and c.from_residual-in_err-value.result c.from_residual-in_err-value.ensures.1 in
    rw (p.1, p.2) (λ stack. along c.args.tokens.now _ _ _
    (take_at (after_first c.args.room) stack _ c.in-Some.sign _ (ended_parts c.args.room) c.in-Some.ensures.0 (sign_takes c.args.room c.in-Some.sign.class c.in-Some-assign_op.op c.in-Some-assign_op.ensures))
    (c.in_err-value.ensures stack))

pub returns-in-Some-assign_op : goal.returns-in-Some-assign_op
returns-in-Some-assign_op c =
    let value = c.in_ok-value.ensures in (
      omega (arith, value.0),
      signed_statement c.args.room c.args.first c.in-Some.sign _ _ _ c.in-Some-assign_op.op _ _ c.requires c.in-Some.ensures.0 c.in-Some-assign_op.ensures c.in_ok-targets.ensures value.1 (refl, refl, refl, refl, refl),
      λ stack.
          take_at (after_first c.args.room) stack _ c.in-Some.sign _ (ended_parts c.args.room) c.in-Some.ensures.0 (sign_takes c.args.room c.in-Some.sign.class c.in-Some-assign_op.op c.in-Some-assign_op.ensures)
          ∙ value.2 stack,
    )

pub returns-then-not-same : goal.returns-then-not-same
returns-then-not-same c =
    λ stack. stop_at (after_first c.args.room) stack _ c.in-Some.sign _ c.in-Some.ensures.0 (no_sign_wrong c.args.room c.in-Some.sign.class c.in_default-assign_op.ensures (sym c.same.ensures ∙ c.if-not-same.true))

pub returns-in_err-targets-2 : goal.returns-in_err-targets-2
returns-in_err-targets-2 c =
    let p = err_from_is_err_and c.from_residual-in_err-targets-2.result c.from_residual-in_err-targets-2.ensures.1 in
    let is_comma = same_is k.Comma c.in-Some.sign.class (sym c.same.ensures ∙ c.if-not-same.false) in
    rw (p.1, p.2) (λ stack. along c.args.tokens.now _ _ _
    (take_at (after_first c.args.room) stack _ c.in-Some.sign _ (later_names ∷ assigned_parts c.args.room) c.in-Some.ensures.0 (ap (first_on c.args.room) (sym is_comma)))
    (c.in_err-targets-2.ensures (assigned_parts c.args.room ++ stack)))

pub returns-in_err-value-2 : goal.returns-in_err-value-2
returns-in_err-value-2 c =
    let p = err_from_is_err_and c.from_residual-in_err-value-2.result c.from_residual-in_err-value-2.ensures.1 in
    let is_comma = same_is k.Comma c.in-Some.sign.class (sym c.same.ensures ∙ c.if-not-same.false) in
    rw (p.1, p.2) (λ stack. along c.args.tokens.now _ _ _
    (take_at (after_first c.args.room) stack _ c.in-Some.sign _ (later_names ∷ assigned_parts c.args.room) c.in-Some.ensures.0 (ap (first_on c.args.room) (sym is_comma))
    ∙ c.in_ok-targets-2.ensures.2 (assigned_parts c.args.room ++ stack))
    (c.in_err-value-2.ensures stack))

pub returns : goal.returns
returns c =
    let is_comma = same_is k.Comma c.in-Some.sign.class (sym c.same.ensures ∙ c.if-not-same.false) in
    let names = c.in_ok-targets-2.ensures in
    let value = c.in_ok-value-2.ensures in (
      omega (arith, names.0, value.0),
      several_statement c.args.room c.args.first c.in-Some.sign _ _ _ _ _ _ _ _ c.requires c.in-Some.ensures.0 is_comma names.1.1 names.1.2 c.in_ok-targets.ensures value.1 (refl, refl, refl, refl, refl),
      λ stack.
          take_at (after_first c.args.room) stack _ c.in-Some.sign _ (later_names ∷ assigned_parts c.args.room) c.in-Some.ensures.0 (ap (first_on c.args.room) (sym is_comma))
          ∙ names.2 (assigned_parts c.args.room ++ stack) ∙ value.2 stack,
    )
