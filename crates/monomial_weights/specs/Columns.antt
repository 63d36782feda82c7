-- How many items a row has
use Rattle.std.specs.Prelude.{ℕ, ◌*◌, ◌^◌, List, [], ◌∷◌, if◌then◌else◌}
use Rattle.monos.specs.declared.layout.Layout.{Layout}
use Rattle.monos.specs.declared.mono.Atom.{Atom}
use Rattle.monos.specs.Monomial.{derivative_count}
use Rattle.refint.specs.Reference.{is_argument, nodes_in, part_of}

-- one for each choice of the coefficients' nodes and of the derivatives' reference directions
abbrev pub column_count : Layout → List Atom → ℕ
column_count l [] = 1
column_count l (x ∷ xs) =
    (if is_argument x.f.role then 1 else nodes_in (part_of l x.f.role x.component)) * l.d ^ derivative_count x
    * column_count l xs
