-- How the code goes through a text: what is left of it says what the whole says
use Rattle.std.specs.Prelude.{◌≡◌, ◌⊎◌, ◌≤◌, ◌+◌, ◌++◌, ℕ, List, [], ◌∷◌, length, Option, Some, None, Result, Ok, Err}
use Rattle.std.specs.Str.Lines.{lines}
use Rattle.algebra.specs.Fraction.{Fraction}
use Rattle.ratio.specs.declared.reduced.Ratio.{Ratio}
use Rattle.mesh_in.specs.Line.{words}
use Rattle.data_in.specs.declared.lines.Line.{Line}
use Rattle.data_in.specs.declared.lines.Lines.{Lines}
use Rattle.data_in.specs.declared.refusal.ValueRefusal.{ValueRefusal}
use Rattle.data_in.specs.CoefficientValues.{CoefficientValues, fractions}
use Rattle.data_in.specs.DataReading.{Place, Reading, ended, after_line, said, row_at, reading, out_of_memory}

-- how many bytes are left
abbrev pub left_of : Lines → ℕ
left_of left = length left.rest.now

-- what the lines that are left say
abbrev pub remaining : Lines → Place → Reading
remaining left p = reading left.number p (lines left.rest.now)

-- a line that has words, or none, and then what is left
abbrev pub goes_on : Option Line → Lines → Place → Reading
goes_on None left p = ended left.number p
goes_on (Some line) left p =
    after_line line.number p (said (row_at p line.number (words line.text.now))) (λ q. remaining left q)

-- an error for want of memory, or the refusal
abbrev pub Fails : {A : Type 0} → ValueRefusal → Result A ValueRefusal → Type 0
Fails e read = (e ≡ out_of_memory) ⊎ (read ≡ Err e)

-- the blocks, or the refusal, unless memory ran out
abbrev pub Gives : Result (List (CoefficientValues Ratio)) ValueRefusal
    → Result (List (CoefficientValues Fraction)) ValueRefusal → Type 0
Gives (Ok blocks) read = read ≡ Ok (fractions blocks)
Gives (Err e) read = Fails e read

-- values of the open block, and what the lines behind them say
abbrev pub behind_values : List Fraction → Reading → Reading
behind_values xs (Ok s) = Ok (record { lacking = xs ++ s.lacking; blocks = s.blocks })
behind_values xs (Err e) = Err e

-- blocks, and what the lines behind them say
abbrev pub behind_blocks : List (CoefficientValues Fraction) → Reading → Reading
behind_blocks bs (Ok s) = Ok (record { lacking = s.lacking; blocks = bs ++ s.blocks })
behind_blocks bs (Err e) = Err e

-- the numbers rise from one on, and stay below the other
abbrev pub RiseTo : {A : Type 0} → ℕ → List (CoefficientValues A) → ℕ → Type 0
RiseTo low [] to = low ≤ to
RiseTo low (b ∷ bs) to = (low ≤ b.number) × RiseTo (b.number + 1) bs to
