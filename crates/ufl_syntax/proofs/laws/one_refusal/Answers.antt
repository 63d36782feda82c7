use Rattle.ufl_syntax.proofs.Only.{not_both}
use Rattle.ufl_syntax.proofs.Whole.{one_of_three, never_begins, whole_only, one_stop}
use Rattle.ufl_syntax.proofs.laws.one_refusal.Goals as goal

pub returns : goal.returns
returns c = record {
  some = one_of_three;
  whole = whole_only;
  early = λ n all e s. never_begins n all s e.0;
  token = one_stop;
  reason = not_both;
}
