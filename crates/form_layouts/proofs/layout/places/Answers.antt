use Rattle.std.proofs.Common.{◌+◌, ◌++◌, drop, get_or, refl, sym, ap, ◌∙◌, arith}
use Rattle.monos.specs.declared.layout.CoefPlace.{CoefPlace}
use Rattle.monos.specs.Layout.{value_count}
use Rattle.form_values.specs.CellLayout.{places_from}
use Rattle.form_layouts.proofs.LayoutLaws.{next_place, coefficient_parts, all_places, value_count-append}
use Rattle.form_layouts.proofs.layout.places.Goals as goal

pub loop-number-preserved : goal.loop-number-preserved
loop-number-preserved c =
    let n = get_or c.args.numbers.now c.loop-number.number-index 0 in
    let parts = c.in_ok-parts.parts in
    let place : CoefPlace = record { number = n; offset = c.loop-number.offset; parts = parts } in
    record {
      says = λ p same_elements same_numbers.
          let are = coefficient_parts p c.args.elements.now c.args.coefficients.now n c.element_number.result parts same_elements same_numbers c.element_number.ensures c.in_ok-parts.ensures in
          next_place p c.args.numbers.now c.loop-number.number-index n c.loop-number.offset parts (places_from p 0 c.args.numbers.now) c.loop-number.places
          c.loop-number-test.true refl are (c.loop-number.invariant.says p same_elements same_numbers)
          ∙ ap (λ ps. ps ++ places_from p (c.loop-number.offset + parts.local) (drop (c.loop-number.number-index + 1) c.args.numbers.now)) (sym c.in_ok-push.ensures.ok);
      count = ap value_count c.in_ok-push.ensures.ok ∙ value_count-append c.loop-number.places place ∙ ap (λ k. k + parts.local) c.loop-number.invariant.count;
      few = omega (arith, c.loop-number.invariant.few);
    }

pub returns-clause-places : goal.returns-clause-places
returns-clause-places c = λ p same_elements same_numbers.
    all_places p c.args.numbers.now c.loop-number.number-index c.loop-number.offset (places_from p 0 c.args.numbers.now) c.loop-number.places c.loop-number-test.false
    (c.loop-number.invariant.says p same_elements same_numbers)
