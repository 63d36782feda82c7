-- What holds at the end of a run
use Rattle.c_unit.specs.Meaning.{Slots, End, Going, Passed, Zero}

-- P of the slots where the run goes on, Q where a step passes, Z where a reciprocal of 0 is asked for.
-- With Q = `Unit {0}` nothing is said of runs that pass, and with Q = `⊥` that none does.
abbrev pub Ends : Type 0 → Type 0 → (Slots → Type 0) → End → Type 0
Ends Q Z P (Going s) = P s
Ends Q Z P (Passed at op l r s) = Q
Ends Q Z P (Zero at s) = Z
