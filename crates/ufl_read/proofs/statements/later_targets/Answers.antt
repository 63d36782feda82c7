use Rattle.std.proofs.Common.{[], ◌∷◌, ◌∙◌, sym, ap, refl, arith}
use Rattle.ufl_syntax.specs.declared.class.Class.TheVariants as k
use Rattle.ufl_syntax.specs.Machine.{names_on, comma_on, later_names, after_target}
use Rattle.ufl_syntax.proofs.Words.{same_is}
use Rattle.ufl_read.proofs.Turns.{end_at, skip_at, take_at, comma_not}
use Rattle.ufl_read.proofs.Lines.{names_end, names_last, names_more, no_name_on}
use Rattle.ufl_read.proofs.statements.later_targets.Goals as goal

pub returns-in_default : goal.returns-in_default
returns-in_default c = (c.all.invariant.0, names_end _ _ _ _ c.all.invariant.1, λ stack. c.all.invariant.2 stack ∙ end_at later_names stack _ c.in_default.ensures refl)

pub returns-in_default-class : goal.returns-in_default-class
returns-in_default-class c = (
  c.all.invariant.0,
  names_end _ _ _ _ c.all.invariant.1,
  λ stack. c.all.invariant.2 stack ∙ skip_at later_names stack _ c.in-Some.name _ c.in-Some.ensures.0 (no_name_on c.in-Some.name.class c.in_default-class.not-Name),
)

pub returns-in_default-peek : goal.returns-in_default-peek
returns-in_default-peek c = (
  omega (arith, c.all.invariant.0),
  names_last _ _ _ c.in-Some.name c.in-Name.field-0 _ _ _ c.in_ok-push.ensures.ok c.in-Some.ensures.0 c.in-Name.is c.all.invariant.1,
  λ stack. c.all.invariant.2 stack ∙ take_at later_names stack _ c.in-Some.name _ (after_target ∷ []) c.in-Some.ensures.0 (ap names_on c.in-Name.is)
      ∙ end_at after_target stack _ c.in_default-peek.ensures refl,
)

pub returns-then-not-same : goal.returns-then-not-same
returns-then-not-same c = (
  omega (arith, c.all.invariant.0),
  names_last _ _ _ c.in-Some.name c.in-Name.field-0 _ _ _ c.in_ok-push.ensures.ok c.in-Some.ensures.0 c.in-Name.is c.all.invariant.1,
  λ stack. c.all.invariant.2 stack ∙ take_at later_names stack _ c.in-Some.name _ (after_target ∷ []) c.in-Some.ensures.0 (ap names_on c.in-Name.is)
      ∙ skip_at after_target stack _ c.in-Some-peek.comma _ c.in-Some-peek.ensures.0 (comma_not later_names c.in-Some-peek.comma.class (sym c.same.ensures ∙ c.if-not-same.true)),
)

pub all-preserved : goal.all-preserved
all-preserved c =
    let is_comma = same_is k.Comma c.in-Some-peek.comma.class (sym c.same.ensures ∙ c.if-not-same.false) in (
      omega (arith, c.all.invariant.0),
      names_more _ _ _ _ c.in-Some.name c.in-Some-peek.comma c.in-Name.field-0 _ _ _ c.in_ok-push.ensures.ok c.in-Some.ensures.0 c.in-Name.is c.in-Some-peek.ensures.0 is_comma c.all.invariant.1,
      λ stack. c.all.invariant.2 stack ∙ take_at later_names stack _ c.in-Some.name _ (after_target ∷ []) c.in-Some.ensures.0 (ap names_on c.in-Name.is)
          ∙ take_at after_target stack _ c.in-Some-peek.comma _ (later_names ∷ []) c.in-Some-peek.ensures.0 (ap (comma_on later_names) (sym is_comma)),
    )
