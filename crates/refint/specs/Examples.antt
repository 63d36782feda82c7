-- A monomial that is worked out by hand: the mass form u*v with functions of degree 1 on intervals
use Rattle.std.specs.Prelude.{[], ◌∷◌, None}
use Rattle.algebra.specs.Fraction.{one_fraction}
use Rattle.ufl_tree.specs.declared.function.Role.{Role}
use Rattle.ufl_tree.specs.declared.function.Role.TheVariants.{Test, Trial}
use Rattle.monos.specs.declared.layout.Layout.{Layout}
use Rattle.monos.specs.declared.mono.Atom.{Atom}
use Rattle.monos.specs.Layout.{line}
use Rattle.monos.specs.Monomial.{Monomial}

abbrev pub mass_layout : Layout
mass_layout = record { d = 1; rows = line; cols = line; coefs = []; position = None }

abbrev pub plain_atom : Role → Atom
plain_atom r = record { f = record { role = r; element = 0 }; component = 0; dirs = 0 ∷ 0 ∷ 0 ∷ [] }

abbrev pub mass_monomial : Monomial
mass_monomial = record { c = one_fraction; atoms = plain_atom Test ∷ plain_atom Trial ∷ [] }
