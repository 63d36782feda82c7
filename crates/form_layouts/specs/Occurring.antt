-- Which coefficients a form has, and whether the position of space occurs in it
use Rattle.std.specs.Prelude.{ℕ, zero, suc, ◌||◌, Bool, false, List, [], ◌∷◌, if◌then◌else◌}
use Rattle.ufl_tree.specs.declared.function.Role.{Role}
use Rattle.ufl_tree.specs.declared.function.Role.TheVariants.{Position, Coefficient}
use Rattle.ufl_tree.specs.FormTerm.{FormTerm, integral, sum, scale, left, right, action, adjoint, derivative}
use Rattle.ufl_tree.specs.Typed.{Typed, number, identity, function, piece, one, two, power, index, partial, tensor, list, variable, diff, TypedList, no_items, item}
use Rattle.ufl_meaning.specs.Environment.{same_role}
use Rattle.form_values.specs.CellLayout.{Occurring}

-- a function of this role stands in the tree, whole or in part
abbrev mutual
  pub occurs_in : Role → Typed → Bool
  occurs_in r (number k c) = false
  occurs_in r (identity k n) = false
  occurs_in r (function k f) = same_role f.role r
  occurs_in r (piece k f n) = same_role f.role r
  occurs_in r (one k op a) = occurs_in r a
  occurs_in r (two k op a b) = occurs_in r a || occurs_in r b
  occurs_in r (power k a n) = occurs_in r a
  occurs_in r (index k a at) = occurs_in r a
  occurs_in r (partial k a i) = occurs_in r a
  occurs_in r (tensor k a by) = occurs_in r a
  occurs_in r (list k ts) = occurs_in_all r ts
  occurs_in r (variable k l a) = occurs_in r a
  occurs_in r (diff k l by a) = occurs_in r a

  pub occurs_in_all : Role → TypedList → Bool
  occurs_in_all r no_items = false
  occurs_in_all r (item t ts) = occurs_in r t || occurs_in_all r ts

-- a function of this role, which is no argument, stands in an integrand, whatever becomes of it there; or it is put
-- in the place of an argument, or is the direction of a derivative. The function that a derivative is taken by
-- needn't occur
abbrev pub occurs : Role → FormTerm → Bool
occurs r (integral on e) = occurs_in r e
occurs r (sum f g) = occurs r f || occurs r g
occurs r (scale c f) = occurs r f
occurs r (left f) = occurs r f
occurs r (right f) = occurs r f
occurs r (action f last g) = occurs r f || same_role g.role r
occurs r (adjoint f) = occurs r f
occurs r (derivative f w du) = occurs r f || same_role du.role r

-- the numbers of the coefficients that occur, of those from n on, so many
abbrev pub coefficients_from : FormTerm → ℕ → ℕ → List ℕ
coefficients_from f n zero = []
coefficients_from f n (suc count) =
    if occurs (Coefficient n) f then n ∷ coefficients_from f (suc n) count else coefficients_from f (suc n) count

-- of a form whose file has so many coefficients
abbrev pub occurring : ℕ → FormTerm → Occurring
occurring count f = record { coefficients = coefficients_from f 0 count; position = occurs Position f }
