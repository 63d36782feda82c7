-- The polynomial that a `Poly` is
use Rattle.calculus.specs.Polynomial.{Polynomial}
use Rattle.tree_values.specs.TermValue.{sum_of}
use Rattle.tree_values.specs.declared.poly.Poly.{Poly}

abbrev pub value_of : Poly → Polynomial
value_of p = sum_of p.terms
