use Rattle.std.proofs.Common.{◌≡◌, ◌<◌, ◌-◌, ◌≤◌, length, sym, ◌∙◌, arith}
use Rattle.spaces.specs.Reading.{space_of}
use Rattle.spaces.specs.Space.{scalars}
use Rattle.form_layouts.proofs.LayoutLaws.{last_is, last_width, width_few}
use Rattle.form_layouts.proofs.layout.local_size.Goals as goal

pub unreachable-requires : goal.unreachable-requires
unreachable-requires c =
    let s = space_of c.args.element.now in
    let some : 0 < length (scalars s) = omega arith in
    let last : c.value_size.result - 1 ≡ length (scalars s) - 1 = omega arith in
    last_is s (c.value_size.result - 1) some last (sym c.part_of.ensures ∙ c.in-None.is)

pub overflow_add-result : goal.overflow_add-result
overflow_add-result c =
    let s = space_of c.args.element.now in
    let some : 0 < length (scalars s) = omega arith in
    let last : c.value_size.result - 1 ≡ length (scalars s) - 1 = omega arith in
    let few : length (scalars s) ≤ 64 = omega arith in
    omega (arith, last_width s (c.value_size.result - 1) c.in-Some.last some last (sym c.part_of.ensures ∙ c.in-Some.is), width_few s c.tree-tree.ensures.lawful few)

pub returns-clause-value : goal.returns-clause-value
returns-clause-value c =
    let s = space_of c.args.element.now in
    let some : 0 < length (scalars s) = omega arith in
    let last : c.value_size.result - 1 ≡ length (scalars s) - 1 = omega arith in
    last_width s (c.value_size.result - 1) c.in-Some.last some last (sym c.part_of.ensures ∙ c.in-Some.is)

pub returns-clause-few : goal.returns-clause-few
returns-clause-few c =
    let s = space_of c.args.element.now in
    let some : 0 < length (scalars s) = omega arith in
    let last : c.value_size.result - 1 ≡ length (scalars s) - 1 = omega arith in
    let few : length (scalars s) ≤ 64 = omega arith in
    omega (arith, last_width s (c.value_size.result - 1) c.in-Some.last some last (sym c.part_of.ensures ∙ c.in-Some.is), width_few s c.tree-tree.ensures.lawful few)
