use Rattle.std.proofs.Common.{◌++◌, ◌∷◌, [], map, ap, sym, ◌∙◌, arith}
use Rattle.std.proofs.lemmas.List.{take_all}
use Rattle.algebra.specs.Fraction.{mul, inverse}
use Rattle.ratio.specs.Value.{fraction_of}
use Rattle.c_unit.specs.Meaning.{fractions_of}
use Rattle.refint.proofs.Lists.{map_map}
use Rattle.basis_products.proofs.Lists.{all_at, more_mapped, pushed}
use Rattle.kernel_statements.specs.Found.{DivideBy}
use Rattle.kernel_statements.proofs.counted.set_shape.Goals as goal

pub quotient-requires-clause-fits : goal.quotient-requires-clause-fits
quotient-requires-clause-fits c = all_at (DivideBy c.args.leading) c.args.row.now c.loop-item.item-index c.item-item.result (omega arith) c.item-item.is c.requires.fits

pub loop-item-preserved : goal.loop-item-preserved
loop-item-preserved c =
    more_mapped (λ r. mul (fraction_of r) (inverse (fraction_of c.args.leading))) c.args.row.now c.loop-item.item-index c.item-item.result
    [] (fractions_of c.loop-item.shape.items) _ (omega arith) c.item-item.is c.loop-item.invariant
    (pushed fraction_of _ _ _ c.in_ok-push.ensures.items ∙ ap (λ q. fractions_of c.loop-item.shape.items ++ q ∷ []) c.quotient.ensures)

pub returns : goal.returns
returns c =
    c.loop-item.invariant
    ∙ ap (map (λ r. mul (fraction_of r) (inverse (fraction_of c.args.leading)))) (take_all c.loop-item.item-index c.args.row.now (omega arith))
    ∙ sym (map_map (λ x. mul x (inverse (fraction_of c.args.leading))) fraction_of c.args.row.now)
