-- Where strings of digits end
use Rattle.std.specs.Prelude.{◌≡◌, ℕ, ◌+◌, ◌-◌, ◌<◌, ◌≤◌, List, [], ◌∷◌, ◌++◌, ◌⊎◌, length, replicate, ⊤}
use Rattle.std.specs.Char.{digit_value}
use Rattle.std.specs.Str.Parse.{AllDigits}
use Rattle.ratio.specs.NumberText.{without_end_zeros}

-- the text is empty, or its first byte is no digit
abbrev pub BeginsOtherwise : List ℕ → Type 0
BeginsOtherwise [] = ⊤
BeginsOtherwise (c ∷ cs) = ¬ (digit_value c < 10)

-- front and behind are whole and fraction without the zeros at the end of both
pub record IsSignificant (whole fraction front behind : List ℕ) : Type 0 where
  pub kept : front ++ behind ≡ without_end_zeros (whole ++ fraction)
  pub zeros : whole ++ fraction ≡ (front ++ behind) ++ replicate ((length whole - length front) + (length fraction - length behind)) 48
  pub front_short : length front ≤ length whole
  pub behind_short : length behind ≤ length fraction

-- the digits behind a point that the text begins with, and what follows; or no point, and the text itself
abbrev pub IsFraction : List ℕ → List ℕ → List ℕ → Type 0
IsFraction text fraction rest =
    ((text ≡ 46 ∷ (fraction ++ rest)) × AllDigits 10 fraction × BeginsOtherwise rest)
    ⊎ ((fraction ≡ []) × (rest ≡ text) × ¬ ((cs : List ℕ) × (text ≡ 46 ∷ cs)))
