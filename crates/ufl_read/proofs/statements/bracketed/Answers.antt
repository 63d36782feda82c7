use Rattle.std.proofs.Common.{◌∷◌, ◌++◌, ◌∙◌, refl, sym, arith}
use Rattle.ufl_syntax.specs.declared.class.Class.TheVariants as k
use Rattle.ufl_syntax.specs.Machine.{after_target, token}
use Rattle.ufl_syntax.proofs.Statements.{some_names}
use Rattle.ufl_syntax.proofs.Words.{same_is}
use Rattle.ufl_read.specs.Reads.{assigned_parts}
use Rattle.ufl_read.proofs.Lines.{bracket_statement}
use Rattle.ufl_read.proofs.statements.bracketed.Goals as goal

pub returns : goal.returns
returns c =
    let first = c.in_ok-first.ensures in
    let names = c.in_ok-targets.ensures in
    let close = c.in_ok-_close.ensures in
    let value = c.in_ok-value.ensures in (
      omega (arith, first.0, names.0, close.0, value.0),
      bracket_statement c.args.room c.args.bracket c.in_ok-first.first c.in_ok-_close._close _ _ _ _ _ _ _ _ c.requires first.1.0 names.1 close.1.0 (sym (same_is k.Close _ close.1.1)) value.1 (refl, refl, refl, refl, refl),
      λ stack. first.2 (after_target ∷ token k.Close ∷ (assigned_parts c.args.room ++ stack)) ∙ names.2 (token k.Close ∷ (assigned_parts c.args.room ++ stack)) ∙ close.2 (assigned_parts c.args.room ++ stack) ∙ value.2 stack,
    )

pub invariant_of-result : goal.invariant_of-result
invariant_of-result c = record { assigned = λ _. (some_names c.in_ok-targets.ensures.1, refl) }
