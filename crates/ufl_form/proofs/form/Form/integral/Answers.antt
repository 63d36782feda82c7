use Rattle.std.proofs.Common.{ap, ◌∙◌, sym}
use Rattle.ufl_tree.specs.Reading.{typed_of}
use Rattle.ufl_form.specs.Patterns.{tree_patterns}
use Rattle.ufl_form.proofs.FormLaws.{passed, described_integral, integral_refused}
use Rattle.ufl_form.proofs.form.Form.integral.Goals as goal

pub finish-requires : goal.finish-requires
finish-requires c =
    described_integral c.args.on c.args.body c.in_ok-kind.kind c.tree_patterns-patterns.result c.nodes-nodes.result c.height-height.result c.tree.ensures.typed
    (sym c.in_ok-kind.ensures) (c.tree_patterns-patterns.ensures ∙ ap (λ t. tree_patterns (typed_of t)) c.tree.ensures.same) c.nodes-nodes.ensures.count c.height-height.ensures.depth

pub returns-in_err-kind : goal.returns-in_err-kind
returns-in_err-kind c =
    passed c.from_residual.result c.in_err-kind.field-0.0 c.from_residual.ensures.0 c.from_residual.ensures.1
    ∙ sym (integral_refused c.args.on c.args.body c.in_err-kind.field-0.0 (sym c.in_err-kind.ensures))
