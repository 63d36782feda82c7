use Rattle.ufl_meaning.proofs.EnvironmentLaws.{raised_only_used, turned_only_used, scaled_only_used, with_function_only_used, exchanged_only_used}
use Rattle.ufl_meaning.proofs.laws.parameters.Goals as goal

pub returns : goal.returns
returns c = record { raised = raised_only_used; turned = turned_only_used; scaled = scaled_only_used; with_function = with_function_only_used; exchanged = exchanged_only_used }
