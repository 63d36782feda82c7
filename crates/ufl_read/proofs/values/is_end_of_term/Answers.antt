use Rattle.std.proofs.Common.{sym, subst, ◌∙◌}
use Rattle.ufl_read.specs.Reads.{EndsTerm}
use Rattle.ufl_read.proofs.values.is_end_of_term.Goals as goal

pub returns-in-Some : goal.returns-in-Some
returns-in-Some c = λ h. subst EndsTerm (sym c.in-Some.ensures.0) (sym c.ends_term.ensures ∙ h)

pub returns-in-None : goal.returns-in-None
returns-in-None c = λ h. subst EndsTerm (sym c.in-None.ensures) tt
