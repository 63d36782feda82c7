use Rattle.std.proofs.Common.{◌∙◌}
use Rattle.ufl_tree.specs.Reading.{term_of}
use Rattle.passes.proofs.ResultLaws.{ok_as}
use Rattle.derivatives.proofs.DerivationLaws.{fun_by_variable, fun_by_function}
use Rattle.derivatives.proofs.rules.of_function.Goals as goal

pub returns-in-Variable : goal.returns-in-Variable
returns-in-Variable c = c.zero.ensures ∙ fun_by_variable c.args.by.now c.in-Variable.label c.in-Variable.at c.args.f c.args.at.now c.in-Variable.is

pub returns-in-Function : goal.returns-in-Function
returns-in-Function c =
    ok_as term_of c.moved.result _ _ (fun_by_function c.args.by.now c.in-Function.coef c.in-Function.dir c.args.f c.args.at.now c.in-Function.is) c.moved.ensures
