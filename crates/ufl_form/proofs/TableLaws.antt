-- A table of elements grows by at most one element at a time
use Rattle.std.proofs.Common.{◌≡◌, ◌+◌, ◌≤◌, Bool, true, false, if◌then◌else◌, List, [], ◌∷◌, ◌++◌, length, length-append, arith, subst, sym}
use Rattle.spaces.specs.declared.element_tree.ElementTree.{ElementTree}
use Rattle.spaces.specs.Reading.{space_of}
use Rattle.ufl_tree.specs.Places.{table_of}
use Rattle.ufl_expr.specs.Elements.{has_space, with_element}

grown : (b : Bool) (e : ElementTree) (ts : List ElementTree) → length (if b then ts else ts ++ e ∷ []) ≤ length ts + 1
grown true e ts = omega arith
grown false e ts = let same : length (ts ++ e ∷ []) ≡ length ts + 1 = length-append ts (e ∷ []) in omega (arith, same)

pub one_more_element : (e : ElementTree) (ts us : List ElementTree) → us ≡ with_element e ts → length us ≤ length ts + 1
one_more_element e ts us h = subst (λ x. length x ≤ length ts + 1) (sym h) (grown (has_space (space_of e) (table_of ts)) e ts)
