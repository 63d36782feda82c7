-- Trees and forms whose functions all have a property
use Rattle.std.specs.Prelude.{ℕ}
use Rattle.ufl_tree.specs.declared.function.Function.{Function}
use Rattle.ufl_tree.specs.Typed.{Kind, Typed, number, identity, function, piece, one, two, power, index, partial, tensor, list, variable, diff, TypedList, no_items, item}
use Rattle.ufl_tree.specs.FormTerm.{FormTerm, integral, sum, scale, left, right, action, adjoint, derivative}

-- W holds at each whole function, with what its node says of its value; S at each sub-element of a function, with its number
abbrev mutual
  pub EachFunction : (Kind → Function → Type 0) → (Kind → Function → ℕ → Type 0) → Typed → Type 0
  EachFunction W S (number k c) = Unit {0}
  EachFunction W S (identity k n) = Unit {0}
  EachFunction W S (function k f) = W k f
  EachFunction W S (piece k f n) = S k f n
  EachFunction W S (one k op a) = EachFunction W S a
  EachFunction W S (two k op a b) = EachFunction W S a × EachFunction W S b
  EachFunction W S (power k a n) = EachFunction W S a
  EachFunction W S (index k a at) = EachFunction W S a
  EachFunction W S (partial k a i) = EachFunction W S a
  EachFunction W S (tensor k a by) = EachFunction W S a
  EachFunction W S (list k ts) = EachFunctionOfAll W S ts
  EachFunction W S (variable k l a) = EachFunction W S a
  EachFunction W S (diff k l by a) = EachFunction W S a

  pub EachFunctionOfAll : (Kind → Function → Type 0) → (Kind → Function → ℕ → Type 0) → TypedList → Type 0
  EachFunctionOfAll W S no_items = Unit {0}
  EachFunctionOfAll W S (item t ts) = EachFunction W S t × EachFunctionOfAll W S ts

-- P holds at each function, whether it stands whole or in part
abbrev pub Each : (Function → Type 0) → Typed → Type 0
Each P = EachFunction (λ k f. P f) (λ k f n. P f)

-- E holds at each integrand; N at each function that an action or a derivative of a form names
abbrev pub EachPart : (Typed → Type 0) → (FormTerm → Function → Type 0) → FormTerm → Type 0
EachPart E N (integral m e) = E e
EachPart E N (sum f g) = EachPart E N f × EachPart E N g
EachPart E N (scale c f) = EachPart E N f
EachPart E N (left f) = EachPart E N f
EachPart E N (right f) = EachPart E N f
EachPart E N (action f last g) = EachPart E N f × N f g
EachPart E N (adjoint f) = EachPart E N f
EachPart E N (derivative f w du) = EachPart E N f × N f w × N f du
