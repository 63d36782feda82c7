use Rattle.std.proofs.Common.{◌∙◌, sym, ap, ap₂, if◌then◌else◌}
use Rattle.calculus.specs.Polynomial.{plus, times}
use Rattle.ufl_meaning.specs.Environment.{Environment, parameter, same_role, other_argument}
use Rattle.tree_values.specs.PolyValue.{value_of}
use Rattle.tree_values.specs.Scene.{environment_of}
use Rattle.tree_values.proofs.SceneLaws as l
use Rattle.tree_values.proofs.ResultLaws.{ok_as}
use Rattle.tree_values.proofs.environment.+component.Goals as goal

pub returns-in-Raised : goal.returns-in-Raised
returns-in-Raised t c =
    ok_as value_of c.component.result _ _
    (ap (λ (env : Environment). env.value c.args.role c.args.at) (l.under c.args.functions.now c.args.changes.now c.in-Some.before.now c.in-Some.last.now _ c.in-Some.ensures.cases.0 c.in-Raised.is))
    c.component.ensures

pub returns-in_ok-slope-in-Turned : goal.returns-in_ok-slope-in-Turned
returns-in_ok-slope-in-Turned t c =
    ok_as value_of c.turned.result _ _
    (l.turned_value c.args.functions.now c.args.changes.now c.in-Some.before.now c.in-Some.last.now c.in-Turned.coef c.in-Turned.dir c.args.role c.args.at c.is_same.result c.used.result _ _
    c.in-Some.ensures.cases.0 c.in-Turned.is c.is_same.ensures (c.used.ensures.is c.args.functions.now) c.in_ok-own-in-Turned.ensures c.in_ok-slope-in-Turned.ensures)
    c.turned.ensures

pub returns-in_ok-own-in-Scaled : goal.returns-in_ok-own-in-Scaled
returns-in_ok-own-in-Scaled t c =
    ok_as value_of c.scaled.result _ _
    (l.scaled_value c.args.functions.now c.args.changes.now c.in-Some.before.now c.in-Some.last.now c.in-Scaled.w c.args.role c.args.at c.is_same-in-Scaled.result c.used-in-Scaled.result _
    c.in-Some.ensures.cases.0 c.in-Scaled.is c.is_same-in-Scaled.ensures (c.used-in-Scaled.ensures.is c.args.functions.now) c.in_ok-own-in-Scaled.ensures)
    c.scaled.ensures

pub returns-in-Replaced : goal.returns-in-Replaced
returns-in-Replaced t c =
    ok_as value_of c.component-in-Replaced.result _ _
    (l.replaced_value c.args.functions.now c.args.changes.now c.in-Some.before.now c.in-Some.last.now c.in-Replaced.last c.in-Replaced.by c.args.role c.chosen-role.result c.args.at c.is_same-in-Replaced.result
    c.in-Some.ensures.cases.0 c.in-Replaced.is c.is_same-in-Replaced.ensures c.chosen-role.ensures)
    c.component-in-Replaced.ensures

pub returns-in-Exchanged : goal.returns-in-Exchanged
returns-in-Exchanged t c =
    ok_as value_of c.component-in-Exchanged.result _ _
    (ap (λ r. (environment_of c.args.functions.now c.in-Some.before.now).value r c.args.at) c.other_argument.ensures
    ∙ ap (λ (env : Environment). env.value c.args.role c.args.at) (l.under c.args.functions.now c.args.changes.now c.in-Some.before.now c.in-Some.last.now _ c.in-Some.ensures.cases.0 c.in-Exchanged.is))
    c.component-in-Exchanged.ensures
