-- The polynomial that a list of terms is
use Rattle.std.specs.Prelude.{ℕ, List, [], ◌∷◌}
use Rattle.ratio.specs.Value.{fraction_of}
use Rattle.calculus.specs.Polynomial.{Polynomial, nil, plus, monomial}
use Rattle.reference.specs.declared.term.Term.{Term}
use Rattle.reference.specs.declared.term.Axis.{Axis}
use Rattle.reference.specs.declared.term.Axis.TheVariants.{X, Y, Z}

-- the variable of a coordinate
abbrev pub number_of : Axis → ℕ
number_of X = 0
number_of Y = 1
number_of Z = 2

abbrev pub term_of : Term → Polynomial
term_of t = monomial (fraction_of t.coefficient) (t.x ∷ t.y ∷ t.z ∷ [])

unfoldable pub sum_of : List Term → Polynomial
sum_of [] = nil
sum_of (t ∷ ts) = plus (term_of t) (sum_of ts)
