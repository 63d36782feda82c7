use Rattle.std.proofs.Common.{inr, ap, ◌∙◌}
use Rattle.form_layouts.specs.Occurrences.{occurring_in}
use Rattle.ffc.proofs.FormsLaws.{found, has_weight, named_exported, some_occur}
use Rattle.ffc.proofs.forms.form_of_name.Goals as goal

pub returns-then-not-is_empty-clause-cause : goal.returns-then-not-is_empty-clause-cause
returns-then-not-is_empty-clause-cause c = inr (inr (
  c.in-Some.named.now,
  found c.args.file.now c.args.name.now c.as_slice.result.now c.args.program.now.forms c.in-Some.named.now c.as_slice.ensures c.in-Some.ensures,
  some_occur c.args.program.now c.in-Some.named.now (occurring_in c.in_ok-occurrences.occurrences) c.len.result c.is_empty.result
      c.in_ok-occurrences.ensures c.len.ensures c.is_empty.ensures.1 c.if-not-is_empty.true,
  c.not_yet.ensures,
))

pub returns-clause-weight : goal.returns-clause-weight
returns-clause-weight c =
    has_weight c.args.program.now c.in-Some.named.now
    (named_exported c.args.program.now c.args.file.now c.args.name.now c.args.program.now.forms c.in-Some.named.now c.requires
    (found c.args.file.now c.args.name.now c.as_slice.result.now c.args.program.now.forms c.in-Some.named.now c.as_slice.ensures c.in-Some.ensures))
    c.tree-tree.ensures.lawful
