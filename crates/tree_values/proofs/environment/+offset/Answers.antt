use Rattle.std.proofs.Common.{◌∙◌, ap, ap₂, if◌then◌else◌}
use Rattle.calculus.specs.Polynomial.{plus}
use Rattle.ufl_meaning.specs.Environment.{Environment, parameter}
use Rattle.tree_values.specs.PolyValue.{value_of}
use Rattle.tree_values.proofs.SceneLaws.{under, offset_moved}
use Rattle.tree_values.proofs.ResultLaws.{ok_as}
use Rattle.tree_values.proofs.environment.+offset.Goals as goal

pub returns-in-Raised : goal.returns-in-Raised
returns-in-Raised t c gs =
    ok_as value_of c.moved.result _ _
    (offset_moved gs c.args.changes.now c.in-Some.before.now c.in-Some.last.now c.in-Raised.of c.in-Raised.component c.args.label c.args.at.now c.as_slice.result.now _ c.is_component-is.result c.used.result
    c.in-Some.ensures.cases.0 c.in-Raised.is c.as_slice.ensures (c.in_ok-own.ensures gs) c.is_component-is.ensures (c.used.ensures.is gs))
    c.moved.ensures

pub returns-in-Turned : goal.returns-in-Turned
returns-in-Turned t c gs =
    c.in_ok-own.ensures gs ∙ ap (λ (env : Environment). env.offset c.args.label c.args.at.now) (under gs c.args.changes.now c.in-Some.before.now c.in-Some.last.now _ c.in-Some.ensures.cases.0 c.in-Turned.is)

pub returns-in-Scaled : goal.returns-in-Scaled
returns-in-Scaled t c gs =
    c.in_ok-own.ensures gs ∙ ap (λ (env : Environment). env.offset c.args.label c.args.at.now) (under gs c.args.changes.now c.in-Some.before.now c.in-Some.last.now _ c.in-Some.ensures.cases.0 c.in-Scaled.is)

pub returns-in-Replaced : goal.returns-in-Replaced
returns-in-Replaced t c gs =
    c.in_ok-own.ensures gs ∙ ap (λ (env : Environment). env.offset c.args.label c.args.at.now) (under gs c.args.changes.now c.in-Some.before.now c.in-Some.last.now _ c.in-Some.ensures.cases.0 c.in-Replaced.is)

pub returns-in-Exchanged : goal.returns-in-Exchanged
returns-in-Exchanged t c gs =
    c.in_ok-own.ensures gs ∙ ap (λ (env : Environment). env.offset c.args.label c.args.at.now) (under gs c.args.changes.now c.in-Some.before.now c.in-Some.last.now _ c.in-Some.ensures.cases.0 c.in-Exchanged.is)
