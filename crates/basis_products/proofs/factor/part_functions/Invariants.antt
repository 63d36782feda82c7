use Rattle.std.proofs.Common.{◌≡◌, map}
use Rattle.std.specs.List.{flat_map}
use Rattle.calculus.specs.Simplex.{reference}
use Rattle.polyalg.specs.Prelude.{value_of}
use Rattle.refint.specs.Local.{numbers_below, node_function}
use Rattle.basis_products.specs.Functions.{all_along, AreDerived}
use Rattle.basis_products.proofs.factor.part_functions.Given as goal

abbrev pub invariant-loop-node : goal.invariant-loop-node
invariant-loop-node l = record {
  value : map value_of l.functions.items ≡ flat_map (λ j. all_along l.d l.derivatives (node_function l.d (reference l.d) l.part j)) (numbers_below l.node);
  bounds : AreDerived l.d l.part l.derivatives l.functions.items;
}
