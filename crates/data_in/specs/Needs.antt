-- When blocks are the values that the coefficients of a form need
use Rattle.std.specs.Prelude.{ℕ, ◌==◌, nat_lt, List, [], ◌∷◌, length, Option, None, Some, Result, Ok, Err, if◌then◌else◌}
use Rattle.data_in.specs.declared.refusal.ValueKind.TheVariants.{Missing, Extra, WrongCount}
use Rattle.data_in.specs.declared.refusal.ValueRefusal.{ValueRefusal}
use Rattle.data_in.specs.declared.values.Need.{Need}
use Rattle.data_in.specs.CoefficientValues.{CoefficientValues, block_of}
use Rattle.data_in.specs.DataReading.{refusal}

-- the first block of a coefficient that isn't known, of which there are so many
abbrev pub first_extra : {A : Type 0} → ℕ → List (CoefficientValues A) → Option ValueRefusal
first_extra known [] = None
first_extra known (b ∷ bs) = if nat_lt b.number known then first_extra known bs else Some (refusal Extra b.line)

-- why a block, or none, isn't what is needed
abbrev pub unmet : {A : Type 0} → Option (CoefficientValues A) → ℕ → Option ValueRefusal
unmet None count = Some (refusal Missing 0)
unmet (Some b) count = if length b.values == count then None else Some (refusal WrongCount b.line)

abbrev pub or_else : Option ValueRefusal → Option ValueRefusal → Option ValueRefusal
or_else (Some e) o = Some e
or_else None o = o

-- the first need that isn't met
abbrev pub first_unmet : {A : Type 0} → List (CoefficientValues A) → List Need → Option ValueRefusal
first_unmet blocks [] = None
first_unmet blocks (n ∷ ns) = or_else (unmet (block_of blocks n.number) n.count) (first_unmet blocks ns)

-- the refusal of blocks: all are tested for known coefficients before any need is
abbrev pub check_refusal : {A : Type 0} → ℕ → List Need → List (CoefficientValues A) → Option ValueRefusal
check_refusal known needs blocks = or_else (first_extra known blocks) (first_unmet blocks needs)

abbrev pub unless : Option ValueRefusal → Result (Unit {0}) ValueRefusal
unless None = Ok tt
unless (Some e) = Err e
