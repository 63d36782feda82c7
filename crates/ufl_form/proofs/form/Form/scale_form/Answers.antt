use Rattle.ufl_form.proofs.FormLaws.{described_scale, described_part}
use Rattle.ufl_form.proofs.form.Form.scale_form.Goals as goal

pub finish-requires : goal.finish-requires
finish-requires c =
    let a = c.a.inside in
    let p = c.in_ok-new.field-0 in
    described_scale c.args.c p a.kind a.patterns a.nodes a.height (described_part p a.tree a.kind a.patterns a.nodes a.height c.in_ok-new.ensures c.a.invariant.described)
