use Rattle.std.proofs.Common.{sym, ap, ◌∙◌, arith}
use Rattle.ufl_tree.specs.Places.{table_of}
use Rattle.ufl_expr.specs.Elements.{position_space, number_of}
use Rattle.ufl_expr.proofs.ElementLaws.{found_within}
use Rattle.ufl_expr.proofs.elements.Elements.position.Goals as goal

pub overflow_cast-result : goal.overflow_cast-result
overflow_cast-result c =
    let h = sym (c.in-Some.ensures ∙ ap (λ x. number_of (position_space c.args.cell) (table_of x)) c.as_slice.ensures) in
    omega (arith, found_within c.in-Some.number (position_space c.args.cell) c.self.inside.items h, c.self.invariant.few)
