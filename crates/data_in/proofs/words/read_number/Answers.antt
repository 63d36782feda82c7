use Rattle.std.proofs.Common.{◌≡◌, refl, length, sym, ◌∙◌, arith}
use Rattle.std.proofs.lemmas.Bool.{eqb-true, eqb-false}
use Rattle.mesh_in.proofs.NumberLemmas.{no_digit, too_large, one_more, all_read, no_number}
use Rattle.data_in.proofs.words.read_number.Goals as goal

pub returns-then-is_empty : goal.returns-then-is_empty
returns-then-is_empty c = no_number c.args.word.now (eqb-true (length c.args.word.now) 0 (sym c.is_empty.ensures ∙ c.if-is_empty.true))

pub returns-then-not-is_ascii_digit : goal.returns-then-not-is_ascii_digit
returns-then-not-is_ascii_digit c = no_digit c.loop-digit.number c.args.word.now c.loop-digit.digit-index c.loop-digit-test.true c.loop-digit.invariant (sym c.is_ascii_digit.ensures.value ∙ c.if-not-is_ascii_digit.true)

pub returns-then-number : goal.returns-then-number
returns-then-number c = too_large c.loop-digit.number c.args.word.now c.loop-digit.digit-index c.loop-digit-test.true c.loop-digit.invariant (sym c.is_ascii_digit.ensures.value ∙ c.if-not-is_ascii_digit.false) (omega arith)

pub loop-digit-preserved : goal.loop-digit-preserved
loop-digit-preserved c = one_more c.loop-digit.number c.args.word.now c.loop-digit.digit-index c.loop-digit-test.true c.loop-digit.invariant (sym c.is_ascii_digit.ensures.value ∙ c.if-not-is_ascii_digit.false) (omega arith)

pub loop-digit-init : goal.loop-digit-init
loop-digit-init c = record { small = omega arith; rest = refl }

pub returns : goal.returns
returns c =
    let no : length c.args.word.now ≡ 0 → ⊥ = eqb-false (length c.args.word.now) 0 (sym c.is_empty.ensures ∙ c.if-is_empty.false) in
    all_read c.loop-digit.number c.args.word.now c.loop-digit.digit-index (omega arith) c.loop-digit-test.false c.loop-digit.invariant
