-- The polynomial that a list of terms is
use Rattle.std.specs.Prelude.{ℕ, List, [], ◌∷◌, Option, None, Some}
use Rattle.ratio.specs.Value.{fraction_of}
use Rattle.calculus.specs.Polynomial.{Polynomial, nil, plus, monomial}
use Rattle.tree_values.specs.declared.term.Term.{Term}

abbrev pub powers_of : Term → List ℕ
powers_of t = t.x ∷ t.y ∷ t.z ∷ t.first ∷ t.second ∷ t.third ∷ []

abbrev pub term_of : Term → Polynomial
term_of t = monomial (fraction_of t.coefficient) (powers_of t)

abbrev pub part_value : Option Term → Polynomial
part_value None = nil
part_value (Some t) = term_of t

unfoldable pub sum_of : List Term → Polynomial
sum_of [] = nil
sum_of (t ∷ ts) = plus (term_of t) (sum_of ts)
