-- The products of one term with the terms of a list
use Rattle.std.specs.Prelude.{◌≡◌, Some, List, [], ◌∷◌}
use Rattle.algebra.specs.Steps.{product}
use Rattle.ratio.specs.Value.{fraction_of}
use Rattle.polyalg.specs.Products.{exponent_sum}
use Rattle.polyalg.specs.declared.term.Term.{Term}

abbrev pub IsRow : Term → List Term → List Term → Type 0
IsRow s [] [] = Unit {0}
IsRow s [] (u ∷ us) = ⊥
IsRow s (t ∷ ts) [] = ⊥
IsRow s (t ∷ ts) (u ∷ us) = (product (fraction_of s.c) (fraction_of t.c) ≡ Some (fraction_of u.c)) × (u.e ≡ exponent_sum s.e t.e) × IsRow s ts us
