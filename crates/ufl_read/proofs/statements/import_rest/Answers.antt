use Rattle.std.proofs.Common.{true, ◌∷◌, ◌∙◌, sym, ap, arith}
use Rattle.ufl_syntax.specs.declared.class.Class.TheVariants as k
use Rattle.ufl_syntax.specs.Machine.{token}
use Rattle.ufl_syntax.proofs.Words.{same_is}
use Rattle.ufl_read.proofs.statements.import_rest.Goals as goal

pub returns : goal.returns
returns c =
    let ufl = c.in_ok-_ufl.ensures in
    let imports = c.in_ok-_import.ensures in
    let star = c.in_ok-_star.ensures in
    let end = c.in_ok-_end.ensures in (
      omega (arith, ufl.0, imports.0, star.0, end.0),
      (
        c.in_ok-_ufl._ufl,
        c.in_ok-_import._import,
        c.in_ok-_star._star,
        c.in_ok-_end._end,
        ufl.1.0 ∙ ap (λ l. c.in_ok-_ufl._ufl ∷ l) (imports.1.0 ∙ ap (λ l. c.in_ok-_import._import ∷ l) (star.1.0 ∙ ap (λ l. c.in_ok-_star._star ∷ l) end.1.0)),
        sym (same_is (k.Name true) _ ufl.1.1),
        sym (same_is k.Import _ imports.1.1),
        sym (same_is k.Times _ star.1.1),
        sym (same_is k.End _ end.1.1),
      ),
      λ stack. ufl.2 (token k.Import ∷ token k.Times ∷ token k.End ∷ stack) ∙ imports.2 (token k.Times ∷ token k.End ∷ stack) ∙ star.2 (token k.End ∷ stack) ∙ end.2 stack,
    )
