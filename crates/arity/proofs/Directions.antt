-- All functions of the integrands of a form have the directions of its cell
use Rattle.std.proofs.Common.{◌≡◌, ℕ, List, [], ◌∷◌, Option, None, Some, Ok, slice_get, ap}
use Rattle.std.specs.List.{AllByRecursion}
use Rattle.spaces.specs.declared.cell.Cell.{Cell}
use Rattle.spaces.specs.Cell.{dimension}
use Rattle.spaces.specs.Space.{Space}
use Rattle.ufl_tree.specs.declared.function.Function.{Function}
use Rattle.ufl_tree.specs.FormTerm.{FormTerm, integral, sum as sum_of, scale, left, right, action, adjoint, derivative}
use Rattle.ufl_tree.specs.Functions.{Each, EachPart}
use Rattle.ufl_tree.specs.Places.{Table}
use Rattle.ufl_tree.specs.Term.{Term, num, fun, mark, neg, sum, prod, over, dx, delta, pick, raise, turn, Terms, no_terms, term}
use Rattle.ufl_tree.proofs.FunctionLaws.{weaker, part_weaker}
use Rattle.ufl_expr.specs.Elements.{IsSpaceOn, IsOn}
use Rattle.ufl_form.specs.declared.table.FormKind.{FormKind}
use Rattle.ufl_form.specs.Fits.{FormFits}
use Rattle.ufl_form.specs.Table.{AreTyped, form_kind}
use Rattle.ufl_form.proofs.CellLaws.{functions_on}
use Rattle.weigh.specs.Terms.{space_directions, function_directions}
use Rattle.weigh.proofs.ListLaws.{all_append}
use Rattle.normal.specs.Bounding.{HasDirections, HaveDirections}
use Rattle.integrands.specs.declared.operator.Operator.{Operator}
use Rattle.integrands.specs.declared.operator.Operator.TheVariants as o
use Rattle.integrands.specs.Flattening.{flattened}
use Rattle.integrands.specs.Integrands.{IntegrandTerm}
use Rattle.arity.specs.Bodies.{HaveFormDirections}
use Rattle.arity.specs.Leaves.{EachLeaf, EachLeafOfAll}
use Rattle.arity.proofs.Leaves.{Turns, integrand_each, all_under}

-- ---- what depends on the element alone
module _ (elements : Table) (E : ℕ → Type 0) where
  abbrev P : Function → Type 0
  P x = E x.element

  turns : (op : Operator) → Turns P P op
  turns (o.Scale c) = λ f h. h
  turns o.Left = λ f h. h
  turns o.Right = λ f h e. h
  turns (o.Action last by) = (λ f h e. h, λ f h e. h)
  turns o.Adjoint = λ f h. h
  turns (o.Derivative w x) = (λ f h. h, λ f h e. h)

  abbrev AllBodies : List IntegrandTerm → Type 0
  AllBodies ps = AllByRecursion (λ (p : IntegrandTerm). EachLeaf P p.body) ps

  bodies : (N : FormTerm → Function → Type 0) (f : FormTerm) → EachPart (Each P) N f → AllBodies (flattened elements f)
  bodies N (integral on e) h = (integrand_each elements P e h, tt)
  bodies N (sum_of f g) h = all_append _ (flattened elements f) (flattened elements g) (bodies N f h.0) (bodies N g h.1)
  bodies N (scale c f) h = all_under P P (o.Scale c) (turns (o.Scale c)) (flattened elements f) (bodies N f h)
  bodies N (left f) h = all_under P P o.Left (turns o.Left) (flattened elements f) (bodies N f h)
  bodies N (right f) h = all_under P P o.Right (turns o.Right) (flattened elements f) (bodies N f h)
  bodies N (action f last g) h = all_under P P (o.Action last g.role) (turns (o.Action last g.role)) (flattened elements f) (bodies N f h.0)
  bodies N (adjoint f) h = all_under P P o.Adjoint (turns o.Adjoint) (flattened elements f) (bodies N f h)
  bodies N (derivative f w du) h = all_under P P (o.Derivative w.role du.role) (turns (o.Derivative w.role du.role)) (flattened elements f) (bodies N f h.0)

-- ---- the directions of a cell
abbrev IsAlong : Table → ℕ → Function → Type 0
IsAlong elements d f = function_directions elements f ≡ d

mutual
  along : (elements : Table) (d : ℕ) (t : Term) → EachLeaf (IsAlong elements d) t → HasDirections elements d t
  along elements d (num c) h = tt
  along elements d (fun f at) h = h
  along elements d (mark l at b) h = along elements d b h
  along elements d (neg a) h = along elements d a h
  along elements d (sum a b) h = (along elements d a h.0, along elements d b h.1)
  along elements d (prod a b) h = (along elements d a h.0, along elements d b h.1)
  along elements d (over i n b) h = along elements d b h
  along elements d (dx i b) h = along elements d b h
  along elements d (delta i j) h = tt
  along elements d (pick i ts) h = all_along elements d ts h
  along elements d (raise l at b) h = along elements d b h
  along elements d (turn w x b) h = absurd h

  all_along : (elements : Table) (d : ℕ) (ts : Terms) → EachLeafOfAll (IsAlong elements d) ts → HaveDirections elements d ts
  all_along elements d no_terms h = tt
  all_along elements d (term t ts) h = (along elements d t h.0, all_along elements d ts h.1)

bodies_along : (elements : Table) (d : ℕ) (ps : List IntegrandTerm) → AllByRecursion (λ (p : IntegrandTerm). EachLeaf (IsAlong elements d) p.body) ps
    → HaveFormDirections elements d ps
bodies_along elements d [] h = tt
bodies_along elements d (p ∷ ps) h = (along elements d p.body h.0, bodies_along elements d ps h.1)

on_cell : (c : Cell) (s : Option Space) → IsSpaceOn (Some c) s → space_directions s ≡ dimension c
on_cell c None h = absurd h
on_cell c (Some s) h = ap dimension h

pub all_directions : (elements : Table) (f : FormTerm) (k : FormKind) → AreTyped f → FormFits elements f → form_kind f ≡ Ok k
    → HaveFormDirections elements (dimension k.cell) (flattened elements f)
all_directions elements f k t h is =
    bodies_along elements (dimension k.cell) (flattened elements f)
    (bodies elements (λ e. space_directions (slice_get elements e) ≡ dimension k.cell) (λ g x. IsOn elements (Some k.cell) x) f
    (part_weaker (Each (IsOn elements (Some k.cell))) (Each (IsAlong elements (dimension k.cell)))
    (λ g x. IsOn elements (Some k.cell) x) (λ g x. IsOn elements (Some k.cell) x)
    (λ e. weaker (IsOn elements (Some k.cell)) (IsAlong elements (dimension k.cell)) (λ x. on_cell k.cell (slice_get elements x.element)) e)
    (λ g x y. y) f (functions_on elements f k t h is)))
