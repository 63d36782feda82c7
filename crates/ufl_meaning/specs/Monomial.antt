-- The polynomial that a sum of monomials is in an environment
use Rattle.std.specs.Prelude.{◌≡◌, ℕ, zero, suc, List, [], ◌∷◌, slice_index}
use Rattle.calculus.specs.Polynomial.{Polynomial, nil, one, plus, times, constant, derivative}
use Rattle.monos.specs.declared.mono.Atom.{Atom}
use Rattle.monos.specs.Monomial.{Monomial}
use Rattle.ufl_meaning.specs.Environment.{Environment}

-- n derivatives in direction i
abbrev pub again : ℕ → ℕ → Polynomial → Polynomial
again i zero p = p
again i (suc n) p = derivative i (again i n p)

-- by how many derivatives there are in each of the three directions
abbrev pub derived : List ℕ → Polynomial → Polynomial
derived ds p = again 0 (slice_index ds 0) (again 1 (slice_index ds 1) (again 2 (slice_index ds 2) p))

-- the derivatives of a component of the function of the atom's role
abbrev pub atom_value : Environment → Atom → Polynomial
atom_value env a = derived a.dirs (env.value a.f.role a.component)

abbrev pub atoms_value : Environment → List Atom → Polynomial
atoms_value env [] = one
atoms_value env (a ∷ more) = times (atom_value env a) (atoms_value env more)

abbrev pub mono_value : Environment → Monomial → Polynomial
mono_value env m = times (constant m.c) (atoms_value env m.atoms)

abbrev pub monos_value : Environment → List Monomial → Polynomial
monos_value env [] = nil
monos_value env (m ∷ ms) = plus (mono_value env m) (monos_value env ms)

-- variables have their values, and no more
abbrev pub HasNoOffset : Environment → Type 0
HasNoOffset env = (l : ℕ) (b : List ℕ) → env.offset l b ≡ nil
