-- The polynomial that a `Poly` is
use Rattle.calculus.specs.Polynomial.{Polynomial}
use Rattle.reference.specs.TermValue.{sum_of}
use Rattle.reference.specs.declared.poly.Poly.{Poly}

abbrev pub value_of : Poly → Polynomial
value_of p = sum_of p.terms.items
