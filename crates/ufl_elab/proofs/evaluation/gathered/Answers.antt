use Rattle.ufl_elab.proofs.evaluation.gathered.Goals as goal

pub returns : goal.returns
returns c = λ want m vs g h. (c.in_ok-value.value, (c.in_ok-value.ensures want m h, c.in_ok-push.ensures vs g))
