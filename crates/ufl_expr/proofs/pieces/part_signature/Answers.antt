use Rattle.std.proofs.Common.{refl, sym, ◌∙◌}
use Rattle.spaces.specs.Reading.{spaces_in}
use Rattle.ufl_expr.specs.Few.{AreFew}
use Rattle.ufl_expr.proofs.PieceLaws.{parts_Mixed, part_lawful}
use Rattle.ufl_expr.proofs.pieces.part_signature.Goals as goal

pub tree_shape-requires : goal.tree_shape-requires
tree_shape-requires c =
    let p : AreFew (spaces_in c.in-Mixed.parts) = parts_Mixed c.args.element.now c.in-Mixed.parts c.in-Mixed.parts (sym c.tree.ensures.same ∙ c.in-Mixed.is) refl c.tree.ensures.lawful in
    part_lawful c.in-Mixed.parts c.args.which c.in-Some.part.now (sym c.in-Some.ensures.value) p.lawful
