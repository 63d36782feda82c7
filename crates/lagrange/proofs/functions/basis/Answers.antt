use Rattle.std.proofs.Common.{◌≡◌, [], length, get_or, ap, ◌∙◌, subst, arith}
use Rattle.calculus.specs.LocalFunction.{degree_of, local_function}
use Rattle.calculus.proofs.Barycentric.{basis_coordinate}
use Rattle.calculus.proofs.LocalFunctions.{factors_of}
use Rattle.polyalg.specs.Terms.{value_of}
use Rattle.polyalg.specs.ReferenceIntegral.{VariablesBelow}
use Rattle.spaces.specs.Nodes.{nodes_of}
use Rattle.spaces.proofs.NodeLaws.{table_length, node_at, entry_at, padded_sum, padded_four}
use Rattle.lagrange.proofs.NodeLaws.{basis_is}
use Rattle.calculus.specs.Simplex.{reference}
use Rattle.spaces.specs.Cell.{dimension}
use Rattle.lagrange.proofs.NodeValues.{own_value, other_value}
use Rattle.calculus.specs.LocalFunction.{factorial}
use Rattle.polyalg.proofs.SizeLaws.{size_at}
use Rattle.polyalg.proofs.BoundLaws.{bounded}
use Rattle.lagrange.specs.Bounds.{basis_bound}
use Rattle.spaces.proofs.NodeLaws.{dimension_range}
use Rattle.lagrange.proofs.Sizes.{basis_size}
use Rattle.lagrange.proofs.functions.basis.Goals as goal

pub bounds-weights-node : goal.bounds-weights-node
bounds-weights-node c = table_length c.args.cell c.args.degree c.args.node c.weights.result.now c.requires.degree c.requires.node c.weights.ensures

pub product-requires-clause-sum : goal.product-requires-clause-sum
product-requires-clause-sum c =
    omega (
      arith,
      ap degree_of (entry_at c.args.cell c.args.degree c.args.node c.weights.result.now [] c.requires.degree c.requires.node c.weights.ensures),
      padded_sum c.args.cell c.args.degree (get_or (nodes_of c.args.cell c.args.degree) c.args.node []) (node_at c.args.cell c.args.degree c.args.node c.requires.degree c.requires.node),
    )

pub product-requires-clause-four : goal.product-requires-clause-four
product-requires-clause-four c =
    ap length (entry_at c.args.cell c.args.degree c.args.node c.weights.result.now [] c.requires.degree c.requires.node c.weights.ensures)
    ∙ padded_four c.args.cell c.args.degree (get_or (nodes_of c.args.cell c.args.degree) c.args.node []) (node_at c.args.cell c.args.degree c.args.node c.requires.degree c.requires.node)

function_is : (c : goal.In-Ok) → value_of c.in-Ok.function ≡ local_function (reference (dimension c.args.cell)) (get_or (nodes_of c.args.cell c.args.degree) c.args.node [])
function_is c =
    basis_is c.args.cell c.args.degree (get_or (nodes_of c.args.cell c.args.degree) c.args.node []) (get_or c.weights.result.now c.args.node []) (value_of c.in-Ok.function)
    (node_at c.args.cell c.args.degree c.args.node c.requires.degree c.requires.node)
    (entry_at c.args.cell c.args.degree c.args.node c.weights.result.now [] c.requires.degree c.requires.node c.weights.ensures)
    (c.in-Ok.ensures.value ∙ ap (λ d. factors_of c.args.degree (basis_coordinate d) 0 (get_or c.weights.result.now c.args.node [])) c.dim.ensures)

pub returns-in-Ok-clause-function : goal.returns-in-Ok-clause-function
returns-in-Ok-clause-function c = function_is c

pub returns-in-Ok-clause-own : goal.returns-in-Ok-clause-own
returns-in-Ok-clause-own c = own_value c.args.cell c.args.degree c.args.node (value_of c.in-Ok.function) c.requires.degree c.requires.node (function_is c)

pub returns-in-Ok-clause-others : goal.returns-in-Ok-clause-others
returns-in-Ok-clause-others c k l apart = other_value c.args.cell c.args.degree c.args.node k (value_of c.in-Ok.function) c.requires.degree c.requires.node (function_is c) l apart

-- the weights add up to the degree
weights_add : (c : goal.In-Ok) → degree_of (get_or c.weights.result.now c.args.node []) ≡ c.args.degree
weights_add c =
    ap degree_of (entry_at c.args.cell c.args.degree c.args.node c.weights.result.now [] c.requires.degree c.requires.node c.weights.ensures)
    ∙ padded_sum c.args.cell c.args.degree (get_or (nodes_of c.args.cell c.args.degree) c.args.node []) (node_at c.args.cell c.args.degree c.args.node c.requires.degree c.requires.node)

pub returns-in-Ok-clause-degree : goal.returns-in-Ok-clause-degree
returns-in-Ok-clause-degree c = omega (arith, c.in-Ok.ensures.degree, weights_add c)

pub returns-in-Ok-clause-variables : goal.returns-in-Ok-clause-variables
returns-in-Ok-clause-variables c = subst (λ d. VariablesBelow d c.in-Ok.function) c.dim.ensures c.in-Ok.ensures.variables

pub returns-in-Ok-clause-bounds : goal.returns-in-Ok-clause-bounds
returns-in-Ok-clause-bounds c =
    bounded (factorial c.args.degree) (basis_bound c.args.degree) c.in-Ok.function c.in-Ok.ensures.lawful
    (size_at (factorial c.args.degree) (basis_bound c.args.degree) _ _ c.in-Ok.ensures.value
    (basis_size c.args.degree c.dim.result (get_or c.weights.result.now c.args.node []) c.requires.degree (omega (arith, (dimension_range c.args.cell).1, c.dim.ensures))
    (ap length (entry_at c.args.cell c.args.degree c.args.node c.weights.result.now [] c.requires.degree c.requires.node c.weights.ensures)
    ∙ padded_four c.args.cell c.args.degree (get_or (nodes_of c.args.cell c.args.degree) c.args.node []) (node_at c.args.cell c.args.degree c.args.node c.requires.degree c.requires.node))
    (weights_add c)))
