use Rattle.form_monomials.proofs.FormLaws.{form_named, runs_there, none_or_named}
use Rattle.form_monomials.proofs.laws.functions.Goals as goal

pub returns-clause-runs : goal.returns-clause-runs
returns-clause-runs c = λ ps k. runs_there k ps

pub returns-clause-named : goal.returns-clause-named
returns-clause-named c = λ ps k. none_or_named k ps

pub returns-clause-markers : goal.returns-clause-markers
returns-clause-markers c = form_named
