use Rattle.std.proofs.Common.{[], ◌∷◌, ◌∙◌, sym, ap, refl, arith}
use Rattle.std.proofs.lemmas.Result.{err_from_is_err_and}
use Rattle.ufl_syntax.specs.declared.class.Class.TheVariants as k
use Rattle.ufl_syntax.specs.Machine.{comma_on, later_names, after_target}
use Rattle.ufl_syntax.proofs.Words.{same_is}
use Rattle.ufl_read.proofs.Turns.{end_at, skip_at, take_at, along, comma_not}
use Rattle.ufl_read.proofs.Lines.{one_of_names, several_of_names}
use Rattle.ufl_read.proofs.statements.target_list.Goals as goal

pub returns-in_default : goal.returns-in_default
returns-in_default c = (omega arith, one_of_names c.args.first _ _ c.requires c.in_ok-targets.ensures, λ stack. end_at after_target stack _ c.in_default.ensures refl)

pub returns-then-not-same : goal.returns-then-not-same
returns-then-not-same c = (
  omega arith,
  one_of_names c.args.first _ _ c.requires c.in_ok-targets.ensures,
  λ stack. skip_at after_target stack _ c.in-Some.comma _ c.in-Some.ensures.0 (comma_not later_names c.in-Some.comma.class (sym c.same.ensures ∙ c.if-not-same.true)),
)

pub returns-in_err-targets-2 : goal.returns-in_err-targets-2
returns-in_err-targets-2 c =
    let p = err_from_is_err_and c.from_residual-in_err-targets-2.result c.from_residual-in_err-targets-2.ensures.1 in
    let is_comma = same_is k.Comma c.in-Some.comma.class (sym c.same.ensures ∙ c.if-not-same.false) in
    rw (p.1, p.2) (λ stack. along c.args.tokens.now _ _ _
    (take_at after_target stack _ c.in-Some.comma _ (later_names ∷ []) c.in-Some.ensures.0 (ap (comma_on later_names) (sym is_comma)))
    (c.in_err-targets-2.ensures stack))

pub returns : goal.returns
returns c =
    let is_comma = same_is k.Comma c.in-Some.comma.class (sym c.same.ensures ∙ c.if-not-same.false) in
    let names = c.in_ok-targets-2.ensures in (
      omega (arith, names.0),
      several_of_names c.args.first c.in-Some.comma _ _ _ _ _ _ c.requires c.in-Some.ensures.0 is_comma names.1.1 names.1.2 c.in_ok-targets.ensures,
      λ stack. take_at after_target stack _ c.in-Some.comma _ (later_names ∷ []) c.in-Some.ensures.0 (ap (comma_on later_names) (sym is_comma)) ∙ names.2 stack,
    )
