use Rattle.std.proofs.Common.{◌≡◌, ◌+◌, ◌≤◌, ◌^◌, sym, ap, ◌∙◌, arith}
use Rattle.std.specs.Prelude.{slice_get}
use Rattle.monos.specs.Layout.{place_of, role_parts}
use Rattle.kernel_statements.specs.Digits.{offset_in}
use Rattle.kernel_statements.proofs.PlaceLaws.{lawful_within}
use Rattle.kernel_statements.proofs.digits.digit_of.Goals as goal

pub part_digit-requires : goal.part_digit-requires
part_digit-requires c p e =
    let own = ap (λ r. slice_get (role_parts c.args.l.now r) c.args.atom.component) c.in-Coefficient.is in
    let within = lawful_within c.args.l.now c.requires c.in-Coefficient.number c.args.atom.component p (sym own ∙ sym c.part_of-in-Coefficient.ensures ∙ e) in
    let offset = c.offset_of-offset.ensures ∙ ap (λ cs. offset_in (place_of cs c.in-Coefficient.number)) c.as_slice.ensures in
    omega (arith, within, offset)
