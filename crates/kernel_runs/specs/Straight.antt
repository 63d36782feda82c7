-- What straight statements need to end as wanted
use Rattle.std.specs.Prelude.{◌≡◌, ℕ, List, [], ◌∷◌, false, true, None}
use Rattle.algebra.specs.Fraction.{absolute, add, inverse, is_zero_fraction, mul, negative}
use Rattle.algebra.specs.Steps.{difference, fits, sum}
use Rattle.ratio.specs.Value.{fraction_of}
use Rattle.c_unit.specs.declared.unit.CStmt.{CStmt, Set, Copy, Abs, Inv, Add, Sub, Mul, Load, For'}
use Rattle.c_unit.specs.Meaning.{Slots, put, value_at}

abbrev pub outside_loops : List ℕ
outside_loops = 0 ∷ 0 ∷ 0 ∷ 0 ∷ []

-- of statements without loads and loops: a step that passes gives Q, a reciprocal of 0 gives Z, and P holds at the end
abbrev pub Meets : Type 0 → Type 0 → (Slots → Type 0) → List CStmt → Slots → Type 0
Meets Q Z P [] s = P s
Meets Q Z P (Set to v ∷ cs) s = Meets Q Z P cs (put to outside_loops (fraction_of v) s)
Meets Q Z P (Copy to p ∷ cs) s = Meets Q Z P cs (put to outside_loops (value_at p outside_loops s) s)
Meets Q Z P (Abs to p ∷ cs) s = Meets Q Z P cs (put to outside_loops (absolute (value_at p outside_loops s)) s)
Meets Q Z P (Inv to p ∷ cs) s =
    (is_zero_fraction (value_at p outside_loops s) ≡ true → Z)
    × (is_zero_fraction (value_at p outside_loops s) ≡ false
    → Meets Q Z P cs (put to outside_loops (inverse (value_at p outside_loops s)) s))
Meets Q Z P (Add to p q ∷ cs) s =
    (sum (value_at p outside_loops s) (value_at q outside_loops s) ≡ None → Q)
    × Meets Q Z P cs (put to outside_loops (add (value_at p outside_loops s) (value_at q outside_loops s)) s)
Meets Q Z P (Sub to p q ∷ cs) s =
    (difference (value_at p outside_loops s) (value_at q outside_loops s) ≡ None → Q)
    × Meets Q Z P cs (put to outside_loops (add (value_at p outside_loops s) (negative (value_at q outside_loops s))) s)
Meets Q Z P (Mul to p q ∷ cs) s =
    (fits (mul (value_at p outside_loops s) (value_at q outside_loops s)) ≡ false → Q)
    × Meets Q Z P cs (put to outside_loops (mul (value_at p outside_loops s) (value_at q outside_loops s)) s)
Meets Q Z P (Load to k at ∷ cs) s = ⊥
Meets Q Z P (For' n m body ∷ cs) s = ⊥
