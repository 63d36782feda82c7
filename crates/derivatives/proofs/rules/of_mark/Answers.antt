use Rattle.ufl_tree.specs.Reading.{term_of}
use Rattle.passes.proofs.ResultLaws.{ok_as}
use Rattle.derivatives.proofs.DerivationLaws.{mark_by_variable, mark_by_function}
use Rattle.derivatives.proofs.rules.of_mark.Goals as goal

pub returns-in_ok-own-in-Variable : goal.returns-in_ok-own-in-Variable
returns-in_ok-own-in-Variable c = λ e h.
    ok_as term_of c.sum.result _ _
    (mark_by_variable c.args.by.now c.in-Variable.of c.in-Variable.component _ c.args.label c.args.at.now e _ _ c.in-Variable.is c.as_slice.ensures h c.in_ok-own-in-Variable.ensures)
    c.sum.ensures

pub returns-in-Function : goal.returns-in-Function
returns-in-Function c = λ e h. mark_by_function c.args.by.now c.in-Function.coef c.in-Function.dir c.args.label c.args.at.now e _ c.in-Function.is h
