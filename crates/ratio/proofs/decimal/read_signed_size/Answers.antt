use Rattle.std.proofs.Common.{◌≡◌, ◌-◌, ◌∷◌, [], length, take, drop, true, false, refl, inr, rules}
use Rattle.ratio.proofs.DigitLaws.{begins}
use Rattle.ratio.proofs.SignedSizes.{signed_size}
use Rattle.ratio.proofs.decimal.read_signed_size.Goals as goal

pub returns-in-45-clause-lawful : goal.returns-in-45-clause-lawful
returns-in-45-clause-lawful c =
    let text : c.args.text.now ≡ 45 ∷ take (length c.args.text.now - 1) (drop 1 c.args.text.now) = search (rules, begins) in
    signed_size c.args.text.now (45 ∷ []) (take (length c.args.text.now - 1) (drop 1 c.args.text.now)) true c.exponent_of.result text refl c.exponent_of.ensures

pub returns-in-43-clause-lawful : goal.returns-in-43-clause-lawful
returns-in-43-clause-lawful c =
    let text : c.args.text.now ≡ 43 ∷ take (length c.args.text.now - 1) (drop 1 c.args.text.now) = search (rules, begins) in
    signed_size c.args.text.now (43 ∷ []) (take (length c.args.text.now - 1) (drop 1 c.args.text.now)) false c.exponent_of-in-43.result text (inr refl) c.exponent_of-in-43.ensures
