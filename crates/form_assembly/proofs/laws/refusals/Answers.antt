use Rattle.form_assembly.proofs.CellRuns.{refuses, only_memory}
use Rattle.form_assembly.proofs.laws.refusals.Goals as goal

pub returns : goal.returns
returns c = record {
  cause = λ p o w s is e r. refuses p o w s is e r;
  apart = λ p o w h small e r. only_memory p o w h small e r;
}
