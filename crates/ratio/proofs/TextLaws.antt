-- The text of a reduced pair
use Rattle.std.proofs.Common.{◌≡◌, ◌≢◌, ℕ, List, ◌∷◌, ◌++◌, sym, ap, arith}
use Rattle.std.specs.Fmt.{decimal, signed_decimal}
use Rattle.std.proofs.lemmas.Bool.Decides.{nat_tests}
use Rattle.algebra.specs.Fraction.{Fraction}
use Rattle.algebra.specs.LowestTerms.{top, bottom}
use Rattle.ratio.specs.WrittenText.{text_of, quotient_text}

pub text_of_whole : (x : Fraction) → bottom x ≡ 1 → signed_decimal (top x) ≡ text_of x
unfolding text_of
text_of_whole x h = ap (quotient_text (signed_decimal (top x))) (sym h)

apart : (m : ℕ) (above below : List ℕ) → m ≢ 1 → above ++ (47 ∷ decimal m) ≡ quotient_text above m
apart m above below h = grind (arith, nat_tests)

pub text_of_quotient : (x : Fraction) → bottom x ≢ 1 → signed_decimal (top x) ++ (47 ∷ decimal (bottom x)) ≡ text_of x
unfolding text_of
text_of_quotient x h = apart (bottom x) (signed_decimal (top x)) (decimal (bottom x)) h
