use Rattle.basis_products.proofs.FunctionLaws.{basis_is, basis_bounded}
use Rattle.std.proofs.Common.{◌<◌, ap, subst, sym, ◌∙◌}
use Rattle.spaces.specs.Family.{node_count}
use Rattle.basis_products.proofs.factor.node_function.Goals as goal

pub basis-requires-clause-node : goal.basis-requires-clause-node
basis-requires-clause-node c = subst (λ n. c.args.node < n) (c.requires.nodes ∙ ap (λ k. node_count k c.args.part.degree) (sym c.cell_of.ensures)) c.requires.node

pub returns-clause-value : goal.returns-clause-value
returns-clause-value c =
    basis_is c.args.d c.args.part c.args.node c.cell_of.result _ c.requires.dimension.0 c.requires.dimension.1 c.cell_of.ensures c.in_ok-function.ensures.function

pub returns-clause-bounds : goal.returns-clause-bounds
returns-clause-bounds c =
    basis_bounded c.args.d c.cell_of.result c.args.part.degree _ _ _ c.requires.dimension.0 c.requires.dimension.1 c.cell_of.ensures
    c.in_ok-function.ensures.degree c.in_ok-function.ensures.variables c.in_ok-function.ensures.bounds c.terms-terms.ensures.lawful
