-- What a caller sees of a run
use Rattle.std.specs.Prelude.{ℕ, ◌-◌, ◌^◌, min, List, Bool, true, false}
use Rattle.algebra.specs.Fraction.{Fraction}
use Rattle.ratio.specs.declared.reduced.Ratio.{Ratio}
use Rattle.ratio.specs.Value.{fraction_of}
use Rattle.c_unit.specs.declared.unit.Op.{Op}
use Rattle.c_unit.specs.Meaning.{Slots, End, Going, fractions_of}
use Rattle.c_unit.specs.declared.unit.CStmt.{CStmt, Set, Copy, Abs, Inv, Add, Sub, Mul, Load, For'}
use Rattle.c_unit.specs.Meaning as m
use Rattle.c_run.specs.declared.ret.Ret.{Ret}

-- a run to the end, a step that passed, or the reciprocal of 0, each with A
pub data Answer : Type 0 where
  Good : List Fraction → Answer
  Passed : (at : ℕ) → (op : Op) → (left right : Fraction) → List Fraction → Answer
  Zero : (at : ℕ) → List Fraction → Answer

-- the number by which a statement is named: the greatest stands for all above it
abbrev pub number : ℕ → ℕ
number n = min n (2 ^ 32 - 1)

-- what is seen of an end: not the temporaries
abbrev pub answer : End → Answer
answer (Going s) = Good s.a
answer (m.Passed at op l r s) = Passed (number at) op l r s.a
answer (m.Zero at s) = Zero (number at) s.a

-- what the code's answer stands for
abbrev pub answer_of : Ret → List Ratio → Answer
answer_of Ret.Good a = Good (fractions_of a)
answer_of (Ret.Passed at op l r) a = Passed at op (fraction_of l) (fraction_of r) (fractions_of a)
answer_of (Ret.Zero at) a = Zero at (fractions_of a)

-- the same with all slots, within a run
abbrev pub end_of : Ret → Slots → End
end_of Ret.Good s = Going s
end_of (Ret.Passed at op l r) s = m.Passed at op (fraction_of l) (fraction_of r) s
end_of (Ret.Zero at) s = m.Zero at s

abbrev pub numbered : End → End
numbered (Going s) = Going s
numbered (m.Passed at op l r s) = m.Passed (number at) op l r s
numbered (m.Zero at s) = m.Zero (number at) s

abbrev pub is_good : Ret → Bool
is_good Ret.Good = true
is_good (Ret.Passed at op l r) = false
is_good (Ret.Zero at) = false

abbrev pub slots_of : List Ratio → List Ratio → List Ratio → List Ratio → Slots
slots_of x w t a = record { x = fractions_of x; w = fractions_of w; t = fractions_of t; a = fractions_of a }

abbrev pub is_loop : CStmt → Bool
is_loop (For' n m body) = true
is_loop (Set to v) = false
is_loop (Copy to p) = false
is_loop (Abs to p) = false
is_loop (Inv to p) = false
is_loop (Add to p q) = false
is_loop (Sub to p q) = false
is_loop (Mul to p q) = false
is_loop (Load to k at) = false
