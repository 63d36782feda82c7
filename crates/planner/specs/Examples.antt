-- Sums of monomials that are worked out by hand, with functions of degree 1
use Rattle.std.specs.Prelude.{ℕ, List, [], ◌∷◌, None}
use Rattle.algebra.specs.Fraction.{one_fraction}
use Rattle.spaces.specs.declared.cell.Cell.{Cell}
use Rattle.spaces.specs.declared.cell.Cell.TheVariants.{Triangle}
use Rattle.spaces.specs.declared.family.Family.TheVariants.{Lagrange}
use Rattle.spaces.specs.declared.parts.Parts.{Parts}
use Rattle.spaces.specs.Cell.{dimension}
use Rattle.spaces.specs.Scalar.{laid_out}
use Rattle.spaces.specs.Space.{scalar, scalars, vector}
use Rattle.ufl_tree.specs.declared.function.Role.{Role}
use Rattle.ufl_tree.specs.declared.function.Role.TheVariants.{Test, Trial, Coefficient}
use Rattle.monos.specs.declared.layout.Layout.{Layout}
use Rattle.monos.specs.declared.mono.Atom.{Atom}
use Rattle.monos.specs.declared.weight.Weight.{Weight}
use Rattle.monos.specs.Monomial.{Monomial}

abbrev pub linear_parts : Cell → Parts
linear_parts c = laid_out (scalars (scalar Lagrange c 1))

-- a test and a trial function
abbrev pub linear_layout : Cell → Layout
linear_layout c =
    record { d = dimension c; rows = linear_parts c; cols = linear_parts c; coefs = []; position = None }

-- one of them, derived so often in each direction
abbrev pub derived_atom : Role → List ℕ → Atom
derived_atom r dirs = record { f = record { role = r; element = 0 }; component = 0; dirs = dirs }

abbrev pub derived_product : List ℕ → Monomial
derived_product dirs = record { c = one_fraction; atoms = derived_atom Test dirs ∷ derived_atom Trial dirs ∷ [] }

-- inner(grad(u), grad(v)) in the plane
abbrev pub laplace_monomials : List Monomial
laplace_monomials = derived_product (1 ∷ 0 ∷ 0 ∷ []) ∷ derived_product (0 ∷ 1 ∷ 0 ∷ []) ∷ []

abbrev pub laplace_weight : Weight
laplace_weight =
    record { cost = 72; deg = 0; g = 2; f = 2; rmin = 2; rmax = 2; num = 9; den = 1; fac = 1; s = 16 }

-- f[0]*u.dx(0)*v + f[1]*u.dx(1)*v with a vector f in the plane
abbrev pub velocity_parts : Parts
velocity_parts = laid_out (scalars (vector (scalar Lagrange Triangle 1) 2))

abbrev pub transport_layout : Layout
transport_layout = record {
  d = 2;
  rows = linear_parts Triangle;
  cols = linear_parts Triangle;
  coefs = record { number = 3; offset = 0; parts = velocity_parts } ∷ [];
  position = None;
}

abbrev pub velocity : ℕ → Atom
velocity i = record { f = record { role = Coefficient 3; element = 0 }; component = i; dirs = 0 ∷ 0 ∷ 0 ∷ [] }

abbrev pub transport_term : List ℕ → ℕ → Monomial
transport_term dirs i = record {
  c = one_fraction;
  atoms = derived_atom Test (0 ∷ 0 ∷ 0 ∷ []) ∷ derived_atom Trial dirs ∷ velocity i ∷ [];
}

abbrev pub transport_monomials : List Monomial
transport_monomials = transport_term (1 ∷ 0 ∷ 0 ∷ []) 0 ∷ transport_term (0 ∷ 1 ∷ 0 ∷ []) 1 ∷ []

abbrev pub transport_weight : Weight
transport_weight =
    record { cost = 108; deg = 2; g = 3; f = 3; rmin = 1; rmax = 1; num = 3; den = 1; fac = 1; s = 64 }
