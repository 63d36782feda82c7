-- The exponent that a text writes
use Rattle.std.proofs.Common.{◌≡◌, ℕ, ◌≤◌, inl, inr, List, [], ◌∷◌, ◌++◌, length, refl, sym, ◌∙◌, subst, Bool, Option, None, Some, IfSome}
use Rattle.std.specs.Option.{SomeIff}
use Rattle.std.specs.Str.Parse.{IsNumeral, digits_value}
use Rattle.ratio.specs.declared.decimal.Exponent.{Exponent}
use Rattle.ratio.specs.NumberText.{IsSign, IsSignedSize, IsExponent}

pub signed_size : (text sign digits : List ℕ) (lowered : Bool) (r : Option Exponent) → text ≡ sign ++ digits → IsSign sign lowered
    → SomeIff r (IsNumeral 10 digits × (length digits ≤ 3)) (record { negative = lowered; size = digits_value 10 digits }) → IfSome r (λ e. IsSignedSize text e.negative e.size)
signed_size text sign digits lowered None e s h = tt
signed_size text sign digits lowered (Some x) e s h =
    subst (λ y. IsSignedSize text y.negative y.size) (sym h.1) (record { sign = sign; digits = digits; is_sign = s; is_numeral = h.0.0; at_most_three = h.0.1; size_is = refl; text_is = e })

-- an exponent behind its mark is a signed size
pub behind_mark : (text rest : List ℕ) (mark : ℕ) (lowered : Bool) (size : ℕ) → text ≡ mark ∷ rest → IsExponent text lowered size → IsSignedSize rest lowered size
behind_mark text rest mark lowered size e (inl h) = absurd (apart (sym h.0 ∙ e))
  where
    apart : [] ≡ mark ∷ rest → ⊥
    apart h = cc
behind_mark text rest mark lowered size e (inr w) = subst (λ l. IsSignedSize l lowered size) (tails (sym w.text_is ∙ e)) w.is_signed
  where
    tails : w.mark ∷ w.rest ≡ mark ∷ rest → w.rest ≡ rest
    tails h = cc
