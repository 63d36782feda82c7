use Rattle.ffc.proofs.FormsLaws.{has_weight, weight_over, form_unit}
use Rattle.ffc.proofs.compile.functions_of.Goals as goal

pub functions-requires : goal.functions-requires
functions-requires c =
    weight_over c.args.program.now c.args.named.now c.as_slice.result.now c.as_slice.ensures
    (has_weight c.args.program.now c.args.named.now c.requires c.tree-tree.ensures.lawful)

pub returns : goal.returns
returns c =
    form_unit c.args.program.now c.args.named.now c.as_slice.result.now c.as_slice.ensures c.args.file.now c.name_of.result.now c.in_ok-of_form.of_form.functions
    c.name_of.ensures (has_weight c.args.program.now c.args.named.now c.requires c.tree-tree.ensures.lawful) c.in_ok-of_form.ensures.functions
