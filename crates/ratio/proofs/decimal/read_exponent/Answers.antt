use Rattle.std.proofs.Common.{◌≡◌, ◌-◌, ◌∷◌, length, take, drop, rules}
use Rattle.ratio.proofs.DigitLaws.{begins}
use Rattle.ratio.proofs.SignedSizes.{behind_mark}
use Rattle.ratio.proofs.decimal.read_exponent.Goals as goal

pub returns-in-101-clause-value : goal.returns-in-101-clause-value
returns-in-101-clause-value c =
    let text : c.args.text.now ≡ 101 ∷ take (length c.args.text.now - 1) (drop 1 c.args.text.now) = search (rules, begins) in
    λ lowered size h. c.read_signed_size.ensures.value lowered size (behind_mark c.args.text.now _ 101 lowered size text h)

pub returns-in-69-clause-value : goal.returns-in-69-clause-value
returns-in-69-clause-value c =
    let text : c.args.text.now ≡ 69 ∷ take (length c.args.text.now - 1) (drop 1 c.args.text.now) = search (rules, begins) in
    λ lowered size h. c.read_signed_size-in-69.ensures.value lowered size (behind_mark c.args.text.now _ 69 lowered size text h)
