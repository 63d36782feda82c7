use Rattle.std.proofs.Common.{◌∙◌, sym}
use Rattle.spaces.proofs.SpaceLaws.{described_mixed_at, joined_fits_at}
use Rattle.spaces.proofs.element.Element.mixed.Goals as goal

pub joined-requires : goal.joined-requires
joined-requires c =
    joined_fits_at c.as_slice-2.result.now _ _ (c.as_slice-2.ensures.value ∙ sym c.as_slice-3.ensures.value) c.in_ok-depth.ensures.depth c.in_ok-depth.ensures.lawful

pub invariant_of-result : goal.invariant_of-result
invariant_of-result c =
    described_mixed_at _ c.args.parts.items c.as_slice.result.now c.as_slice-2.result.now c.as_slice-3.result.now _ _ _
    c.in_ok-parts.ensures c.as_slice.ensures.value c.as_slice-2.ensures.value c.as_slice-3.ensures.value
    c.in_ok-cell.ensures c.in_ok-depth.ensures.depth c.in_ok-depth.ensures.lawful c.in_ok-flat.ensures
