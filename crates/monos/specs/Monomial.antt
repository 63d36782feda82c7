-- Monomials as data that recursion goes over: a fraction times a product of atoms
use Rattle.std.specs.Prelude.{ℕ, ◌+◌, List, [], ◌∷◌, ◌++◌, map, replicate, slice_index}
use Rattle.algebra.specs.Fraction.{Fraction}
use Rattle.ratio.specs.Value.{fraction_of}
use Rattle.monos.specs.declared.mono.Atom.{Atom}
use Rattle.monos.specs.declared.mono.Mono.{Mono}

-- c times the product of the atoms
pub record Monomial : Type 0 where
  pub c : Fraction
  pub atoms : List Atom

-- the code's monomials, read as these
abbrev pub monomial_of : Mono → Monomial
monomial_of m = record { c = fraction_of m.c; atoms = m.atoms }

abbrev pub monomials_of : List Mono → List Monomial
monomials_of ms = map monomial_of ms

-- the directions of an atom, each as often as it was derived in it
abbrev pub directions : Atom → List ℕ
directions x = replicate (slice_index x.dirs 0) 0 ++ (replicate (slice_index x.dirs 1) 1 ++ replicate (slice_index x.dirs 2) 2)

-- how many derivatives an atom has, and a product of atoms
abbrev pub derivative_count : Atom → ℕ
derivative_count a = slice_index a.dirs 0 + slice_index a.dirs 1 + slice_index a.dirs 2

abbrev pub derivatives : List Atom → ℕ
derivatives [] = 0
derivatives (a ∷ more) = derivative_count a + derivatives more
