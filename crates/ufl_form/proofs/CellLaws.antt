-- All functions of a form that fits a table, and the elements of its arguments, are on the form's cell
use Rattle.std.proofs.Common.{◌≡◌, ℕ, ◌==◌, ◌&&◌, Bool, true, false, if◌then◌else◌, Option, None, Some, slice_get, Ok, Err, refl, sym, ap, ◌∙◌, subst}
use Rattle.spaces.specs.declared.cell.Cell.{Cell}
use Rattle.ufl_tree.specs.declared.function.Function.{Function}
use Rattle.ufl_tree.specs.declared.function.Role.{Role}
use Rattle.ufl_tree.specs.declared.function.Role.TheVariants.{Test, Trial, Position, Coefficient}
use Rattle.ufl_tree.specs.FormTerm.{FormTerm, integral, sum, scale, left, right, action, adjoint, derivative}
use Rattle.ufl_tree.specs.Places.{Table}
use Rattle.ufl_tree.specs.Typed.{Typed, number, identity, function, piece, one, two, power, index, partial, tensor, list, variable, diff, TypedList, no_items, item, own_kind, shape_of, free_of}
use Rattle.ufl_tree.specs.Functions.{EachFunctionOfAll, Each, EachPart}
use Rattle.ufl_expr.specs.declared.refusal.TypeRefusal.{TypeRefusal}
use Rattle.ufl_expr.specs.declared.refusal.TypeRefusal.TheVariants.{Kind as OfKind, Shape, FreeIndex}
use Rattle.ufl_expr.specs.Elements.{IsSpaceOn, IsOn}
use Rattle.ufl_expr.specs.Fits.{FitsTable}
use Rattle.ufl_expr.specs.Shapes.{is_scalar}
use Rattle.ufl_expr.specs.Table.{IsTyped}
use Rattle.spaces.specs.Cell.{same_cell}
use Rattle.ufl_expr.proofs.CellLaws.{tree_on}
use Rattle.spaces.proofs.EqualityLaws.{cell_true}
use Rattle.ufl_form.specs.declared.arguments.Arguments.{Arguments}
use Rattle.ufl_form.specs.declared.table.FormKind.{FormKind}
use Rattle.ufl_form.specs.Arguments.{no_arguments, argument_in, argument, joined_element, arguments_from, joined, joined_both, tree_arguments, arguments_behind}
use Rattle.ufl_form.specs.Fits.{IsOnForm, FormFits, HasOneCell}
use Rattle.ufl_form.specs.Table.{Verdict, AreTyped, no_free, if_plain, integral_from, with_arguments, sum_kind, right_kind, adjoint_kind, is_coefficient, is_direction, element_of, has_element, dropped, action_kind, is_last, last_kind, last_of, derivative_kind, form_patterns, further, form_kind, verdict_cell, form_cell}

-- ---- what a row takes from the rows below it
record IsFurther (v : Verdict) (f : FormKind → Verdict) (k : FormKind) : Type 0 where
  kind : FormKind
  first : v ≡ Ok kind
  rest : f kind ≡ Ok k

is_further : (v : Verdict) (f : FormKind → Verdict) (k : FormKind) → further v f ≡ Ok k → IsFurther v f k
is_further (Err r) f k h = cc
is_further (Ok a) f k h = record { kind = a; first = refl; rest = h }

abbrev fine : FormKind → Verdict
fine k = Ok k

ok_kind : (a k : FormKind) → fine a ≡ fine k → a ≡ k
ok_kind a k h = cc

record IsIntegral (c : Option Cell) (a : Option Arguments) (k : FormKind) : Type 0 where
  cell : c ≡ Some k.cell
  arguments : a ≡ Some k.arguments

plain_kind : (s f : Bool) (j k : FormKind) → if_plain s f j ≡ Ok k → j ≡ k
plain_kind true true j k h = cc
plain_kind true false j k h = cc
plain_kind false f j k h = cc

is_integral : (c : Option Cell) (a : Option Arguments) (s f : Bool) (k : FormKind) → integral_from c a s f ≡ Ok k → IsIntegral c a k
is_integral None a s f k h = cc
is_integral (Some c) None s f k h = cc
is_integral (Some c) (Some a) s f k h =
    let e = plain_kind s f (record { cell = c; arguments = a }) k h in
    record { cell = ap (λ (x : FormKind). Some x.cell) e; arguments = ap (λ (x : FormKind). Some x.arguments) e }

record IsWith (c : Cell) (a : Option Arguments) (k : FormKind) : Type 0 where
  cell : c ≡ k.cell
  arguments : a ≡ Some k.arguments

is_with : (c : Cell) (a : Option Arguments) (k : FormKind) → with_arguments c a ≡ Ok k → IsWith c a k
is_with c None k h = cc
is_with c (Some a) k h =
    let e : record { cell = c; arguments = a } ≡ k = cc in
    record { cell = ap (λ (x : FormKind). x.cell) e; arguments = ap (λ (x : FormKind). Some x.arguments) e }

record IsSum (a b k : FormKind) : Type 0 where
  first : a.cell ≡ k.cell
  second : b.cell ≡ k.cell
  arguments : joined a.arguments b.arguments ≡ Some k.arguments

sum_choice : (b : Bool) (x y k : FormKind) → same_cell x.cell y.cell ≡ b → (if b then with_arguments x.cell (joined x.arguments y.arguments) else Err OfKind) ≡ Ok k → IsSum x y k
sum_choice true x y k e h =
    let W = is_with x.cell (joined x.arguments y.arguments) k h in
    record { first = W.cell; second = sym (cell_true x.cell y.cell e) ∙ W.cell; arguments = W.arguments }
sum_choice false x y k e h = cc

is_sum : (x y k : FormKind) → sum_kind x y ≡ Ok k → IsSum x y k
is_sum x y k h = sum_choice (same_cell x.cell y.cell) x y k refl h

record IsAction (a : FormKind) (last : Role) (k : FormKind) : Type 0 where
  cell : a.cell ≡ k.cell
  arguments : dropped last a.arguments ≡ k.arguments

action_choice : (t b c : Bool) (a : FormKind) (last : Role) (k : FormKind)
    → last_kind t (if b then (if c then Ok (record { cell = a.cell; arguments = dropped last a.arguments }) else Err OfKind) else Err OfKind) ≡ Ok k → IsAction a last k
action_choice true true true a last k h =
    let e : record { cell = a.cell; arguments = dropped last a.arguments } ≡ k = cc in
    record { cell = ap (λ (x : FormKind). x.cell) e; arguments = ap (λ (x : FormKind). x.arguments) e }
action_choice true true false a last k h = cc
action_choice true false c a last k h = cc
action_choice false b c a last k h = cc

derivative_choice : (b c : Bool) (w : Verdict) (k : FormKind) → (if b then (if c then w else Err OfKind) else Err OfKind) ≡ Ok k → w ≡ Ok k
derivative_choice true true w k h = h
derivative_choice true false w k h = cc
derivative_choice false c w k h = cc

is_derivative : (a : FormKind) (w du : Function) (k : FormKind) → derivative_kind a w du ≡ Ok k → IsWith a.cell (joined a.arguments (argument du)) k
is_derivative a w du k h = is_with a.cell (joined a.arguments (argument du)) k (derivative_choice (is_coefficient w.role && is_direction du.role) (w.element == du.element) _ k h)

-- ---- all functions are on the form's cell
abbrev AllOn : Table → Cell → FormTerm → Type 0
AllOn table c = EachPart (Each (IsOn table (Some c))) (λ f g. IsOn table (Some c) g)

moved : (table : Table) (c d : Cell) (f : FormTerm) → c ≡ d → AllOn table c f → AllOn table d f
moved table c d f e h = subst (λ x. AllOn table x f) e h

named_on : (table : Table) (f : FormTerm) (g : Function) (a : FormKind) (c : Cell) → form_kind f ≡ Ok a → a.cell ≡ c → IsOnForm table f g → IsOn table (Some c) g
named_on table f g a c e same h = subst (λ x. IsOn table x g) (ap verdict_cell e ∙ ap Some same) h

pub functions_on : (table : Table) (f : FormTerm) (k : FormKind) → AreTyped f → FormFits table f → form_kind f ≡ Ok k → AllOn table k.cell f
unfolding AreTyped FormFits form_kind
functions_on table (integral m e) k t h is =
    let I = is_integral (own_kind e).cell (tree_arguments e) (is_scalar (shape_of e)) (no_free (free_of e)) k is in
    subst (λ c. Each (IsOn table c) e) I.cell (tree_on table e t h)
functions_on table (sum f g) k t h is =
    let F = is_further (form_kind f) (λ a. further (form_kind g) (λ b. sum_kind a b)) k is in
    let G = is_further (form_kind g) (λ b. sum_kind F.kind b) k F.rest in
    let S = is_sum F.kind G.kind k G.rest in
    (moved table _ k.cell f S.first (functions_on table f F.kind t.0 h.0 F.first), moved table _ k.cell g S.second (functions_on table g G.kind t.1 h.1 G.first))
functions_on table (scale c f) k t h is = functions_on table f k t h is
functions_on table (left f) k t h is = functions_on table f k t h is
functions_on table (right f) k t h is =
    let F = is_further (form_kind f) (λ a. Ok (right_kind a)) k is in
    moved table F.kind.cell k.cell f (ap (λ (x : FormKind). x.cell) (ok_kind (right_kind F.kind) k F.rest)) (functions_on table f F.kind t h F.first)
functions_on table (action f last g) k t h is =
    let F = is_further (form_kind f) (λ a. last_kind (is_last last (last_of (form_patterns f))) (action_kind a last g)) k is in
    let A = action_choice (is_last last (last_of (form_patterns f))) (is_coefficient g.role) (has_element (element_of last F.kind.arguments) g.element) F.kind last k F.rest in
    (moved table F.kind.cell k.cell f A.cell (functions_on table f F.kind t h.0 F.first), named_on table f g F.kind k.cell F.first A.cell h.1)
functions_on table (adjoint f) k t h is =
    let F = is_further (form_kind f) (λ a. Ok (adjoint_kind a)) k is in
    moved table F.kind.cell k.cell f (ap (λ (x : FormKind). x.cell) (ok_kind (adjoint_kind F.kind) k F.rest)) (functions_on table f F.kind t h F.first)
functions_on table (derivative f w du) k t h is =
    let F = is_further (form_kind f) (λ a. derivative_kind a w du) k is in
    let D = is_derivative F.kind w du k F.rest in (
      moved table F.kind.cell k.cell f D.cell (functions_on table f F.kind t h.0 F.first),
      named_on table f w F.kind k.cell F.first D.cell h.1,
      named_on table f du F.kind k.cell F.first D.cell h.2,
    )

-- ---- what all functions' elements have, the elements of the arguments have
abbrev Holds : (ℕ → Type 0) → Option ℕ → Type 0
Holds P None = Unit {0}
Holds P (Some e) = P e

record HaveBoth (P : ℕ → Type 0) (a : Arguments) : Type 0 where
  test : Holds P a.test
  trial : Holds P a.trial

no_have : (P : ℕ → Type 0) (a : Arguments) → no_arguments ≡ a → HaveBoth P a
no_have P a e = subst (HaveBoth P) e (record { test = tt; trial = tt })

argument_has : (P : ℕ → Type 0) (r : Role) (e : ℕ) → P e → HaveBoth P (argument_in r e)
argument_has P Test e h = record { test = h; trial = tt }
argument_has P Trial e h = record { test = tt; trial = h }
argument_has P Position e h = record { test = tt; trial = tt }
argument_has P (Coefficient n) e h = record { test = tt; trial = tt }

same_choice : (P : ℕ → Type 0) (b : Bool) (x : ℕ) (z : Option ℕ) → (if b then Some (Some x) else None) ≡ Some z → P x → Holds P z
same_choice P true x z h p = let e : Some x ≡ z = cc in subst (Holds P) e p
same_choice P false x z h p = cc

element_holds : (P : ℕ → Type 0) (x y z : Option ℕ) → joined_element x y ≡ Some z → Holds P x → Holds P y → Holds P z
element_holds P None y z h p q = let e : y ≡ z = cc in subst (Holds P) e q
element_holds P (Some x) None z h p q = let e : Some x ≡ z = cc in subst (Holds P) e p
element_holds P (Some x) (Some y) z h p q = same_choice P (x == y) x z h p

from_holds : (P : ℕ → Type 0) (x y : Option (Option ℕ)) (c : Arguments) → arguments_from x y ≡ Some c → ((z : Option ℕ) → x ≡ Some z → Holds P z)
    → ((z : Option ℕ) → y ≡ Some z → Holds P z) → HaveBoth P c
from_holds P None y c h p q = cc
from_holds P (Some t) None c h p q = cc
from_holds P (Some t) (Some u) c h p q =
    let e : record { test = t; trial = u } ≡ c = cc in
    subst (HaveBoth P) e (record { test = p t refl; trial = q u refl })

joined_have : (P : ℕ → Type 0) (a b c : Arguments) → joined a b ≡ Some c → HaveBoth P a → HaveBoth P b → HaveBoth P c
joined_have P a b c h A B =
    from_holds P (joined_element a.test b.test) (joined_element a.trial b.trial) c h (λ z e. element_holds P a.test b.test z e A.test B.test)
    (λ z e. element_holds P a.trial b.trial z e A.trial B.trial)

both_have : (P : ℕ → Type 0) (x y : Option Arguments) (c : Arguments) → joined_both x y ≡ Some c → ((a : Arguments) → x ≡ Some a → HaveBoth P a)
    → ((a : Arguments) → y ≡ Some a → HaveBoth P a) → HaveBoth P c
both_have P None y c h p q = cc
both_have P (Some a) None c h p q = cc
both_have P (Some a) (Some b) c h p q = joined_have P a b c h (p a refl) (q b refl)

abbrev EachHas : (ℕ → Type 0) → Typed → Type 0
EachHas P = Each (λ f. P f.element)

abbrev AllHave : (ℕ → Type 0) → TypedList → Type 0
AllHave P = EachFunctionOfAll (λ k f. P f.element) (λ k f n. P f.element)

mutual
  tree_has : (P : ℕ → Type 0) (e : Typed) (a : Arguments) → tree_arguments e ≡ Some a → EachHas P e → HaveBoth P a
  tree_has P (number k c) a is h = no_have P a cc
  tree_has P (identity k n) a is h = no_have P a cc
  tree_has P (function k f) a is h = let e : argument f ≡ a = cc in subst (HaveBoth P) e (argument_has P f.role f.element h)
  tree_has P (piece k f n) a is h = let e : argument f ≡ a = cc in subst (HaveBoth P) e (argument_has P f.role f.element h)
  tree_has P (one k op b) a is h = tree_has P b a is h
  tree_has P (two k op b c) a is h = both_have P (tree_arguments b) (tree_arguments c) a is (λ x e. tree_has P b x e h.0) (λ x e. tree_has P c x e h.1)
  tree_has P (power k b n) a is h = tree_has P b a is h
  tree_has P (index k b at) a is h = tree_has P b a is h
  tree_has P (partial k b i) a is h = tree_has P b a is h
  tree_has P (tensor k b by) a is h = tree_has P b a is h
  tree_has P (list k ts) a is h = behind_has P (Some no_arguments) ts a is (λ x e. no_have P x cc) h
  tree_has P (variable k l b) a is h = tree_has P b a is h
  tree_has P (diff k l by b) a is h = tree_has P b a is h

  behind_has : (P : ℕ → Type 0) (x : Option Arguments) (ts : TypedList) (a : Arguments) → arguments_behind x ts ≡ Some a → ((b : Arguments) → x ≡ Some b → HaveBoth P b)
      → AllHave P ts → HaveBoth P a
  behind_has P x no_items a is p h = p a is
  behind_has P x (item t ts) a is p h =
      behind_has P (joined_both x (tree_arguments t)) ts a is (λ b e. both_have P x (tree_arguments t) b e p (λ c d. tree_has P t c d h.0)) h.1

right_has : (P : ℕ → Type 0) (a k : FormKind) → right_kind a ≡ k → HaveBoth P a.arguments → HaveBoth P k.arguments
right_has P a k e A = subst (λ (x : FormKind). HaveBoth P x.arguments) e (record { test = A.test; trial = tt })

adjoint_has : (P : ℕ → Type 0) (a k : FormKind) → adjoint_kind a ≡ k → HaveBoth P a.arguments → HaveBoth P k.arguments
adjoint_has P a k e A = subst (λ (x : FormKind). HaveBoth P x.arguments) e (record { test = A.trial; trial = A.test })

dropped_has : (P : ℕ → Type 0) (r : Role) (a : Arguments) → HaveBoth P a → HaveBoth P (dropped r a)
dropped_has P Test a A = record { test = tt; trial = A.trial }
dropped_has P Trial a A = record { test = A.test; trial = tt }
dropped_has P Position a A = A
dropped_has P (Coefficient n) a A = A

form_has : (P : ℕ → Type 0) (f : FormTerm) (k : FormKind) → EachPart (EachHas P) (λ g h. P h.element) f → form_kind f ≡ Ok k → HaveBoth P k.arguments
unfolding form_kind
form_has P (integral m e) k h is =
    let I = is_integral (own_kind e).cell (tree_arguments e) (is_scalar (shape_of e)) (no_free (free_of e)) k is in
    tree_has P e k.arguments I.arguments h
form_has P (sum f g) k h is =
    let F = is_further (form_kind f) (λ a. further (form_kind g) (λ b. sum_kind a b)) k is in
    let G = is_further (form_kind g) (λ b. sum_kind F.kind b) k F.rest in
    let S = is_sum F.kind G.kind k G.rest in
    joined_have P F.kind.arguments G.kind.arguments k.arguments S.arguments (form_has P f F.kind h.0 F.first) (form_has P g G.kind h.1 G.first)
form_has P (scale c f) k h is = form_has P f k h is
form_has P (left f) k h is = form_has P f k h is
form_has P (right f) k h is =
    let F = is_further (form_kind f) (λ a. Ok (right_kind a)) k is in
    right_has P F.kind k (ok_kind (right_kind F.kind) k F.rest) (form_has P f F.kind h F.first)
form_has P (action f last g) k h is =
    let F = is_further (form_kind f) (λ a. last_kind (is_last last (last_of (form_patterns f))) (action_kind a last g)) k is in
    let A = action_choice (is_last last (last_of (form_patterns f))) (is_coefficient g.role) (has_element (element_of last F.kind.arguments) g.element) F.kind last k F.rest in
    subst (HaveBoth P) A.arguments (dropped_has P last F.kind.arguments (form_has P f F.kind h.0 F.first))
form_has P (adjoint f) k h is =
    let F = is_further (form_kind f) (λ a. Ok (adjoint_kind a)) k is in
    adjoint_has P F.kind k (ok_kind (adjoint_kind F.kind) k F.rest) (form_has P f F.kind h F.first)
form_has P (derivative f w du) k h is =
    let F = is_further (form_kind f) (λ a. derivative_kind a w du) k is in
    let D = is_derivative F.kind w du k F.rest in
    joined_have P F.kind.arguments (argument du) k.arguments D.arguments (form_has P f F.kind h.0 F.first) (argument_has P du.role du.element h.2)

element_has : (P : ℕ → Type 0) (a : Arguments) (r : Role) (e : ℕ) → HaveBoth P a → element_of r a ≡ Some e → P e
element_has P a Test e A h = subst (Holds P) h A.test
element_has P a Trial e A h = subst (Holds P) h A.trial
element_has P a Position e A h = cc
element_has P a (Coefficient n) e A h = cc

pub argument_on : (table : Table) (f : FormTerm) (k : FormKind) → AreTyped f → FormFits table f → form_kind f ≡ Ok k → (r : Role) (e : ℕ) → element_of r k.arguments ≡ Some e
    → IsSpaceOn (Some k.cell) (slice_get table e)
argument_on table f k t h is r e same =
    let P = λ (n : ℕ). IsSpaceOn (Some k.cell) (slice_get table n) in
    element_has P k.arguments r e (form_has P f k (functions_on table f k t h is) is) same

pub form_on : (table : Table) (f : FormTerm) (k : FormKind) → AreTyped f → FormFits table f → form_kind f ≡ Ok k → HasOneCell table f k
form_on table f k t h is = record {
  functions = functions_on table f k t h is;
  arguments = λ g same. argument_on table f k t h is g.role g.element same;
}
