use Rattle.std.proofs.Common.{◌≡◌, ◌-◌, ◌*◌, ◌^◌, ◌++◌, [], map, arith, ap, sym, subst, ◌∙◌, refl}
use Rattle.std.specs.List.{flat_map}
use Rattle.calculus.specs.LocalFunction.{factorial}
use Rattle.calculus.specs.Simplex.{reference}
use Rattle.calculus.proofs.Nodes.{factorial_positive}
use Rattle.lagrange.specs.Bounds.{basis_bound}
use Rattle.lagrange.proofs.Sizes.{never}
use Rattle.polyalg.specs.Prelude.{value_of}
use Rattle.refint.specs.Local.{numbers_below, node_function}
use Rattle.refint.proofs.Lists.{map_append}
use Rattle.basis_products.specs.Functions.{all_along, AreDerived, IsBounded}
use Rattle.basis_products.proofs.Lists.{more_numbers, all_append}
use Rattle.basis_products.proofs.FunctionLaws.{basis_small}
use Rattle.basis_products.proofs.factor.part_functions.Goals as goal

pub loop-node-preserved : goal.loop-node-preserved
loop-node-preserved c = record {
  value = more_numbers (λ j. all_along c.args.d c.args.derivatives (node_function c.args.d (reference c.args.d) c.args.part j)) c.loop-node.node [] _ _ c.loop-node.invariant.value
      (ap (map value_of) c.in_ok-append.ensures.items ∙ map_append value_of c.loop-node.functions.items c.in_ok-derived.derived.items
      ∙ ap (λ r. map value_of c.loop-node.functions.items ++ r) (c.in_ok-derived.ensures.value ∙ ap (all_along c.args.d c.args.derivatives) c.in_ok-function.ensures.value));
  bounds = subst (AreDerived c.args.d c.args.part c.args.derivatives) (sym c.in_ok-append.ensures.items)
      (all_append (IsBounded c.args.d (c.args.part.degree - c.args.derivatives) (factorial c.args.part.degree) (basis_bound c.args.part.degree * 3 ^ c.args.derivatives))
      c.loop-node.functions.items c.in_ok-derived.derived.items c.loop-node.invariant.bounds
      (c.in_ok-derived.ensures.bounds c.args.part.degree (factorial c.args.part.degree) (basis_bound c.args.part.degree) c.requires.degree
      (factorial_positive c.args.part.degree) (c.in_ok-function.ensures.bounds, tt)));
}

pub returns-in_err-derived-clause-fits : goal.returns-in_err-derived-clause-fits
returns-in_err-derived-clause-fits c =
    let small = basis_small c.args.part.degree c.requires.degree in
    never _ c.from_residual-in_err-derived.result _ c.in_err-derived.field-0.0 c.from_residual-in_err-derived.ensures.0 c.from_residual-in_err-derived.ensures.1 refl
    (c.in_err-derived.ensures.fits c.args.part.degree (factorial c.args.part.degree) (basis_bound c.args.part.degree) c.requires.degree
    (factorial_positive c.args.part.degree) small.0 small.1 (c.in_ok-function.ensures.bounds, tt))

pub returns-clause-value : goal.returns-clause-value
returns-clause-value c =
    let all : c.loop-node.node ≡ c.args.part.nodes = omega arith in
    c.loop-node.invariant.value ∙ ap (λ n. flat_map (λ j. all_along c.args.d c.args.derivatives (node_function c.args.d (reference c.args.d) c.args.part j)) (numbers_below n)) all
