-- The functions in the integrands of a form have their places
use Rattle.std.proofs.Common.{◌≡◌, ℕ, ◌==◌, ◌&&◌, ◌||◌, Bool, true, false, if◌then◌else◌, List, Option, None, Some, slice_get, Ok, Err, refl, sym, ap, ◌∙◌, subst, arith}
use Rattle.std.proofs.lemmas.Bool.Decides.{nat_tests}
use Rattle.spaces.specs.declared.cell.Cell.{Cell}
use Rattle.spaces.specs.Cell.{same_cell}
use Rattle.spaces.specs.Equality.{same_space}
use Rattle.spaces.specs.Space.{Space, cell_of}
use Rattle.spaces.proofs.EqualityLaws.{cell_true, spaces_equal}
use Rattle.ufl_tree.specs.declared.function.Function.{Function}
use Rattle.ufl_tree.specs.declared.function.Role.{Role}
use Rattle.ufl_tree.specs.declared.function.Role.TheVariants.{Test, Trial, Position, Coefficient}
use Rattle.ufl_tree.specs.FormTerm.{FormTerm, integral, sum, scale, left, right, action, adjoint, derivative}
use Rattle.ufl_tree.specs.Functions.{EachFunctionOfAll, Each}
use Rattle.ufl_tree.specs.Places.{Table}
use Rattle.ufl_tree.specs.Typed.{Kind, Typed, number, identity, function, piece, one, two, power, index, partial, tensor, list, variable, diff, TypedList, no_items, item, own_kind, shape_of, free_of}
use Rattle.ufl_tree.proofs.FunctionLaws.{weaker, each_weaker}
use Rattle.ufl_meaning.specs.Environment.{same_role, other_argument}
use Rattle.ufl_expr.specs.declared.refusal.TypeRefusal.TheVariants.{Kind as OfKind}
use Rattle.ufl_expr.specs.Elements.{IsSpaceOn, IsOn, position_space, space_for, space_in, function_kind, function_in, piece_kind, piece_in}
use Rattle.ufl_tree.specs.Places.{sub_element, Piece}
use Rattle.ufl_expr.specs.Fits.{FitsTable}
use Rattle.ufl_expr.specs.Numbered.{IsElementOf, HasItsElement, IsNumbered}
use Rattle.ufl_expr.specs.Shapes.{is_scalar}
use Rattle.ufl_form.specs.declared.arguments.Arguments.{Arguments}
use Rattle.ufl_form.specs.declared.table.FormKind.{FormKind}
use Rattle.ufl_form.specs.Arguments.{no_arguments, argument_in, argument, joined_element, arguments_from, joined, joined_both, tree_arguments, arguments_behind}
use Rattle.ufl_form.specs.Fits.{FormFits}
use Rattle.ufl_form.specs.Numbered.{FormIsNumbered}
use Rattle.ufl_form.specs.Table.{AreTyped, no_free, if_plain, integral_from, with_arguments, sum_kind, right_kind, adjoint_kind, is_coefficient, is_direction, element_of, has_element, dropped, action_kind, is_last, last_kind, last_of, derivative_kind, form_patterns, further, form_kind}
use Rattle.ufl_form.proofs.CellLaws.{functions_on}
use Rattle.weigh.proofs.ListLaws.{all_append}
use Rattle.integrands.specs.declared.operator.Operator.TheVariants as o
use Rattle.integrands.specs.Flattening.{flattened}
use Rattle.form_layouts.specs.Occurring.{occurs_in, occurs_in_all, occurs}
use Rattle.arity.specs.Places.{IsPlaceFor, HasItsPlace, HaveTheirPlaces}
use Rattle.arity.proofs.Forms.{is_further}
use Rattle.arity.proofs.Leaves.{integrand_each, all_under, all_kept}

-- ---- numbers and flags
same_number : (m n : ℕ) → (m == n) ≡ true → m ≡ n
same_number m n h = grind (arith, nat_tests)

own_number : (n : ℕ) → (n == n) ≡ true
own_number n = grind (arith, nat_tests)

either_left : (a b : Bool) → a ≡ true → (a || b) ≡ true
either_left true b h = refl
either_left false b h = cc

either_right : (a b : Bool) → b ≡ true → (a || b) ≡ true
either_right true b h = refl
either_right false b h = h

same_element : (x : Option ℕ) (a b : ℕ) → x ≡ Some a → x ≡ Some b → a ≡ b
same_element x a b h k = cc

-- ---- two properties of all functions of a tree
mutual
  both : (P Q R : Function → Type 0) → ((f : Function) → P f → Q f → R f) → (e : Typed) → Each P e → Each Q e → Each R e
  both P Q R w (number k c) h i = tt
  both P Q R w (identity k n) h i = tt
  both P Q R w (function k f) h i = w f h i
  both P Q R w (piece k f n) h i = w f h i
  both P Q R w (one k op a) h i = both P Q R w a h i
  both P Q R w (two k op a b) h i = (both P Q R w a h.0 i.0, both P Q R w b h.1 i.1)
  both P Q R w (power k a n) h i = both P Q R w a h i
  both P Q R w (index k a at) h i = both P Q R w a h i
  both P Q R w (partial k a x) h i = both P Q R w a h i
  both P Q R w (tensor k a by) h i = both P Q R w a h i
  both P Q R w (list k ts) h i = all_both P Q R w ts h i
  both P Q R w (variable k l a) h i = both P Q R w a h i
  both P Q R w (diff k l by a) h i = both P Q R w a h i

  all_both : (P Q R : Function → Type 0) → ((f : Function) → P f → Q f → R f) → (ts : TypedList) → EachFunctionOfAll (λ k f. P f) (λ k f n. P f) ts
      → EachFunctionOfAll (λ k f. Q f) (λ k f n. Q f) ts → EachFunctionOfAll (λ k f. R f) (λ k f n. R f) ts
  all_both P Q R w no_items h i = tt
  all_both P Q R w (item t ts) h i = (both P Q R w t h.0 i.0, all_both P Q R w ts h.1 i.1)

-- ---- what each function of an integrand has
abbrev EachOf : (Function → Type 0) → TypedList → Type 0
EachOf P = EachFunctionOfAll (λ k f. P f) (λ k f n. P f)

list_weaker : (P Q : Function → Type 0) → ((f : Function) → P f → Q f) → (ts : TypedList) → EachOf P ts → EachOf Q ts
list_weaker P Q w ts h = all_both P P Q (λ f x y. w f x) ts h h

own_role : (r : Role) → same_role r r ≡ true
own_role Test = refl
own_role Trial = refl
own_role Position = refl
own_role (Coefficient n) = own_number n

mutual
  occur : (e : Typed) → Each (λ x. occurs_in x.role e ≡ true) e
  occur (number k c) = tt
  occur (identity k n) = tt
  occur (function k f) = own_role f.role
  occur (piece k f n) = own_role f.role
  occur (one k op a) = occur a
  occur (two k op a b) = (
    weaker _ _ (λ x h. either_left (occurs_in x.role a) (occurs_in x.role b) h) a (occur a),
    weaker _ _ (λ x h. either_right (occurs_in x.role a) (occurs_in x.role b) h) b (occur b),
  )
  occur (power k a n) = occur a
  occur (index k a at) = occur a
  occur (partial k a x) = occur a
  occur (tensor k a by) = occur a
  occur (list k ts) = all_occur ts
  occur (variable k l a) = occur a
  occur (diff k l by a) = occur a

  all_occur : (ts : TypedList) → EachOf (λ x. occurs_in_all x.role ts ≡ true) ts
  all_occur no_items = tt
  all_occur (item t ts) = (
    weaker _ _ (λ x h. either_left (occurs_in x.role t) (occurs_in_all x.role ts) h) t (occur t),
    list_weaker _ _ (λ x h. either_right (occurs_in x.role t) (occurs_in_all x.role ts) h) ts (all_occur ts),
  )

-- what is said of an argument's element is said in a longer list too
abbrev IsSaidBy : Arguments → Role → ℕ → Type 0
IsSaidBy a Test e = a.test ≡ Some e
IsSaidBy a Trial e = a.trial ≡ Some e
IsSaidBy a Position e = Unit {0}
IsSaidBy a (Coefficient n) e = Unit {0}

abbrev IsSaid : Arguments → Function → Type 0
IsSaid a x = IsSaidBy a x.role x.element

record IsWithin (a b : Arguments) : Type 0 where
  test : (e : ℕ) → a.test ≡ Some e → b.test ≡ Some e
  trial : (e : ℕ) → a.trial ≡ Some e → b.trial ≡ Some e

said_within : (a b : Arguments) → IsWithin a b → (r : Role) (e : ℕ) → IsSaidBy a r e → IsSaidBy b r e
said_within a b w Test e h = w.test e h
said_within a b w Trial e h = w.trial e h
said_within a b w Position e h = tt
said_within a b w (Coefficient n) e h = tt

itself : (a : Arguments) → IsWithin a a
itself a = record { test = λ e h. h; trial = λ e h. h }

said_alone : (r : Role) (e : ℕ) → IsSaidBy (argument_in r e) r e
said_alone Test e = refl
said_alone Trial e = refl
said_alone Position e = tt
said_alone (Coefficient n) e = tt

choice_left : (b : Bool) (x e : ℕ) (z : Option ℕ) → (if b then Some (Some x) else None) ≡ Some z → Some x ≡ Some e → z ≡ Some e
choice_left true x e z h p = cc
choice_left false x e z h p = cc

choice_right : (b : Bool) (x y e : ℕ) (z : Option ℕ) → (x == y) ≡ b → (if b then Some (Some x) else None) ≡ Some z → Some y ≡ Some e → z ≡ Some e
choice_right true x y e z t h p = let s = same_number x y t in cc
choice_right false x y e z t h p = cc

element_left : (x y z : Option ℕ) (e : ℕ) → joined_element x y ≡ Some z → x ≡ Some e → z ≡ Some e
element_left None y z e h p = cc
element_left (Some x) None z e h p = cc
element_left (Some x) (Some y) z e h p = choice_left (x == y) x e z h p

element_right : (x y z : Option ℕ) (e : ℕ) → joined_element x y ≡ Some z → y ≡ Some e → z ≡ Some e
element_right None y z e h p = cc
element_right (Some x) None z e h p = cc
element_right (Some x) (Some y) z e h p = choice_right (x == y) x y e z refl h p

record AreJoined (x y : Option (Option ℕ)) (c : Arguments) : Type 0 where
  test : x ≡ Some c.test
  trial : y ≡ Some c.trial

are_joined : (x y : Option (Option ℕ)) (c : Arguments) → arguments_from x y ≡ Some c → AreJoined x y c
are_joined None y c h = cc
are_joined (Some t) None c h = cc
are_joined (Some t) (Some u) c h =
    let e : record { test = t; trial = u } ≡ c = cc in
    record { test = ap (λ (a : Arguments). Some a.test) e; trial = ap (λ (a : Arguments). Some a.trial) e }

joined_left : (a b c : Arguments) → joined a b ≡ Some c → IsWithin a c
joined_left a b c h =
    let J = are_joined (joined_element a.test b.test) (joined_element a.trial b.trial) c h in
    record { test = λ e p. element_left a.test b.test c.test e J.test p; trial = λ e p. element_left a.trial b.trial c.trial e J.trial p }

joined_right : (a b c : Arguments) → joined a b ≡ Some c → IsWithin b c
joined_right a b c h =
    let J = are_joined (joined_element a.test b.test) (joined_element a.trial b.trial) c h in
    record { test = λ e p. element_right a.test b.test c.test e J.test p; trial = λ e p. element_right a.trial b.trial c.trial e J.trial p }

record AreBoth (x y : Option Arguments) (c : Arguments) : Type 0 where
  left : Arguments
  right : Arguments
  is_left : x ≡ Some left
  is_right : y ≡ Some right
  joint : joined left right ≡ Some c

are_both : (x y : Option Arguments) (c : Arguments) → joined_both x y ≡ Some c → AreBoth x y c
are_both None y c h = cc
are_both (Some a) None c h = cc
are_both (Some a) (Some b) c h = record { left = a; right = b; is_left = refl; is_right = refl; joint = h }

within_each : (a b : Arguments) → IsWithin a b → (e : Typed) → Each (IsSaid a) e → Each (IsSaid b) e
within_each a b w e h = weaker (IsSaid a) (IsSaid b) (λ x. said_within a b w x.role x.element) e h

record Behind (ts : TypedList) (all : Option Arguments) (a : Arguments) : Type 0 where
  before : Arguments
  is : all ≡ Some before
  within : IsWithin before a
  items : EachOf (IsSaid a) ts

mutual
  said : (e : Typed) (a : Arguments) → tree_arguments e ≡ Some a → Each (IsSaid a) e
  said (number k c) a h = tt
  said (identity k n) a h = tt
  said (function k f) a h = let e : argument f ≡ a = cc in subst (λ b. IsSaidBy b f.role f.element) e (said_alone f.role f.element)
  said (piece k f n) a h = let e : argument f ≡ a = cc in subst (λ b. IsSaidBy b f.role f.element) e (said_alone f.role f.element)
  said (one k op b) a h = said b a h
  said (two k op b c) a h =
      let B = are_both (tree_arguments b) (tree_arguments c) a h in
      (within_each B.left a (joined_left B.left B.right a B.joint) b (said b B.left B.is_left), within_each B.right a (joined_right B.left B.right a B.joint) c (said c B.right B.is_right))
  said (power k b n) a h = said b a h
  said (index k b at) a h = said b a h
  said (partial k b x) a h = said b a h
  said (tensor k b by) a h = said b a h
  said (list k ts) a h = (all_said ts (Some no_arguments) a h).items
  said (variable k l b) a h = said b a h
  said (diff k l by b) a h = said b a h

  all_said : (ts : TypedList) (all : Option Arguments) (a : Arguments) → arguments_behind all ts ≡ Some a → Behind ts all a
  all_said no_items all a h = record { before = a; is = h; within = itself a; items = tt }
  all_said (item t ts) all a h =
      let R = all_said ts (joined_both all (tree_arguments t)) a h in
      let B = are_both all (tree_arguments t) R.before R.is in
      let L = joined_left B.left B.right R.before B.joint in
      record {
        before = B.left;
        is = B.is_left;
        within = record { test = λ e p. R.within.test e (L.test e p); trial = λ e p. R.within.trial e (L.trial e p) };
        items = (within_each R.before a R.within t (within_each B.right R.before (joined_right B.left B.right R.before B.joint) t (said t B.right B.is_right)), R.items);
      }

-- the position has its element
abbrev IsPlaced : Role → Option Space → Cell → Type 0
IsPlaced Position s c = s ≡ Some (position_space c)
IsPlaced _ s c = Unit {0}

abbrev MayHave : Role → Option Space → Type 0
MayHave r s = (t : Space) × (space_for r s ≡ Some t)

position_choice : (b : Bool) (s t : Space) (c : Cell) → same_space s (position_space (cell_of s)) ≡ b → (if b then Some s else None) ≡ Some t → cell_of s ≡ c
    → Some s ≡ Some (position_space c)
position_choice true s t c e h on = ap Some ((spaces_equal s (position_space (cell_of s))).0 e ∙ ap position_space on)
position_choice false s t c e h on = cc

is_placed : (r : Role) (s : Option Space) (c : Cell) → MayHave r s → IsSpaceOn (Some c) s → IsPlaced r s c
is_placed Test s c h on = tt
is_placed Trial s c h on = tt
is_placed (Coefficient n) s c h on = tt
is_placed Position None c h on = absurd on
is_placed Position (Some s) c h on = position_choice (same_space s (position_space (cell_of s))) s h.0 c refl h.1 on

whole_may : (s : Option Space) (k : Kind) → function_kind s ≡ Ok k → (t : Space) × (s ≡ Some t)
whole_may None k h = cc
whole_may (Some s) k h = (s, refl)

part_may : (s : Option Space) (p : Option Piece) (k : Kind) → piece_kind s p ≡ Ok k → (t : Space) × (s ≡ Some t)
part_may None p k h = cc
part_may (Some s) p k h = (s, refl)

may_have_all : (table : Table) (e : Typed) → FitsTable table e → Each (λ x. MayHave x.role (slice_get table x.element)) e
unfolding FitsTable
may_have_all table e h =
    each_weaker (λ k f. function_in table f ≡ Ok k) (λ k f. MayHave f.role (slice_get table f.element)) (λ k f n. piece_in table f n ≡ Ok k)
    (λ k f n. MayHave f.role (slice_get table f.element)) (λ k f x. whole_may (space_in table f) k x)
    (λ k f n x. part_may (space_in table f) (sub_element (space_in table f) n) k x) e h

-- ---- the integrand of a form
placed_in : (table : Table) (numbers : List ℕ) (f : FormTerm) (k : FormKind) (r : Role) (e : ℕ) → occurs r f ≡ true → IsSaidBy k.arguments r e → IsElementOf numbers r e
    → IsPlaced r (slice_get table e) k.cell → IsPlaceFor table numbers f k r e
placed_in table numbers f k Test e there s n p = s
placed_in table numbers f k Trial e there s n p = s
placed_in table numbers f k Position e there s n p = (there, p)
placed_in table numbers f k (Coefficient m) e there s n p = (there, n)

numbered : (numbers : List ℕ) (e : Typed) → IsNumbered numbers e → Each (HasItsElement numbers) e
unfolding IsNumbered
numbered numbers e h = h

record IsIntegral (c : Option Cell) (a : Option Arguments) (k : FormKind) : Type 0 where
  arguments : a ≡ Some k.arguments

plain_kind : (s f : Bool) (j k : FormKind) → if_plain s f j ≡ Ok k → j ≡ k
plain_kind true true j k h = cc
plain_kind true false j k h = cc
plain_kind false f j k h = cc

is_integral : (c : Option Cell) (a : Option Arguments) (s f : Bool) (k : FormKind) → integral_from c a s f ≡ Ok k → IsIntegral c a k
is_integral None a s f k h = cc
is_integral (Some c) None s f k h = cc
is_integral (Some c) (Some a) s f k h = record { arguments = ap (λ (x : FormKind). Some x.arguments) (plain_kind s f (record { cell = c; arguments = a }) k h) }

-- ---- what a row of the table of forms keeps
record IsWith (c : Cell) (a : Option Arguments) (k : FormKind) : Type 0 where
  cell : c ≡ k.cell
  arguments : a ≡ Some k.arguments

is_with : (c : Cell) (a : Option Arguments) (k : FormKind) → with_arguments c a ≡ Ok k → IsWith c a k
is_with c None k h = cc
is_with c (Some a) k h =
    let e : record { cell = c; arguments = a } ≡ k = cc in
    record { cell = ap (λ (x : FormKind). x.cell) e; arguments = ap (λ (x : FormKind). Some x.arguments) e }

record IsSum (a b k : FormKind) : Type 0 where
  first : a.cell ≡ k.cell
  second : b.cell ≡ k.cell
  arguments : joined a.arguments b.arguments ≡ Some k.arguments

sum_choice : (b : Bool) (x y k : FormKind) → same_cell x.cell y.cell ≡ b → (if b then with_arguments x.cell (joined x.arguments y.arguments) else Err OfKind) ≡ Ok k → IsSum x y k
sum_choice true x y k e h =
    let W = is_with x.cell (joined x.arguments y.arguments) k h in
    record { first = W.cell; second = sym (cell_true x.cell y.cell e) ∙ W.cell; arguments = W.arguments }
sum_choice false x y k e h = cc

-- the functions of f with the kind k have their places in g with the kind j, but for those of the role w
abbrev IsOther : Option Role → Role → Type 0
IsOther None r = Unit {0}
IsOther (Some w) r = same_role r w ≡ false

-- the functions of f with the kind k have their places in g with the kind j, but for those of the role w
record Step (f g : FormTerm) (k j : FormKind) (w : Option Role) : Type 0 where
  cell : k.cell ≡ j.cell
  test : IsOther w Test → (e : ℕ) → k.arguments.test ≡ Some e → j.arguments.test ≡ Some e
  trial : IsOther w Trial → (e : ℕ) → k.arguments.trial ≡ Some e → j.arguments.trial ≡ Some e
  there : (r : Role) → occurs r f ≡ true → occurs r g ≡ true

module _ (table : Table) (numbers : List ℕ) where
  abbrev Placed : FormTerm → FormKind → Function → Type 0
  Placed f k = HasItsPlace table numbers f k

  stepped : (f g : FormTerm) (k j : FormKind) (w : Option Role) → Step f g k j w → (r : Role) (e : ℕ) → IsPlaceFor table numbers f k r e → IsOther w r
      → IsPlaceFor table numbers g j r e
  stepped f g k j w s Test e h other = s.test other e h
  stepped f g k j w s Trial e h other = s.trial other e h
  stepped f g k j w s Position e h other = (s.there Position h.0, h.1 ∙ ap (λ c. Some (position_space c)) s.cell)
  stepped f g k j w s (Coefficient n) e h other = (s.there (Coefficient n) h.0, h.1)

  all_kept_by : (f g : FormTerm) (k j : FormKind) → Step f g k j None → (x : Function) → Placed f k x → Placed g j x
  all_kept_by f g k j s x h = stepped f g k j None s x.role x.element h tt

  kept_but : (f g : FormTerm) (k j : FormKind) (w : Role) → Step f g k j (Some w) → (x : Function) → Placed f k x → same_role x.role w ≡ false → Placed g j x
  kept_but f g k j w s x h other = stepped f g k j (Some w) s x.role x.element h other

  exchanged_place : (f : FormTerm) (k : FormKind) (r : Role) (e : ℕ) → IsPlaceFor table numbers f k r e → IsPlaceFor table numbers (adjoint f) (adjoint_kind k) (other_argument r) e
  exchanged_place f k Test e h = h
  exchanged_place f k Trial e h = h
  exchanged_place f k Position e h = h
  exchanged_place f k (Coefficient n) e h = h

  -- ---- a coefficient in the place of an argument
  record IsAction (a : FormKind) (last : Role) (g : Function) (k : FormKind) : Type 0 where
    plain : is_coefficient g.role ≡ true
    element : has_element (element_of last a.arguments) g.element ≡ true
    kind : record { cell = a.cell; arguments = dropped last a.arguments } ≡ k

  action_choice : (t b c : Bool) (a : FormKind) (last : Role) (g : Function) (k : FormKind) → is_coefficient g.role ≡ b → has_element (element_of last a.arguments) g.element ≡ c
      → last_kind t (if b then (if c then Ok (record { cell = a.cell; arguments = dropped last a.arguments }) else Err OfKind) else Err OfKind) ≡ Ok k → IsAction a last g k
  action_choice true true true a last g k p e h = record { plain = p; element = e; kind = cc }
  action_choice true true false a last g k p e h = cc
  action_choice true false c a last g k p e h = cc
  action_choice false b c a last g k p e h = cc

  has_this : (x : Option ℕ) (e : ℕ) → has_element x e ≡ true → x ≡ Some e
  has_this None e h = cc
  has_this (Some a) e h = ap Some (same_number a e h)

  -- the element of the replaced argument
  replaced_element : (f : FormTerm) (a : FormKind) (last r : Role) (e d : ℕ) → element_of last a.arguments ≡ Some d → same_role r last ≡ true → IsPlaceFor table numbers f a r e → e ≡ d
  replaced_element f a Test Test e d is s h = same_element a.arguments.test e d h is
  replaced_element f a Trial Trial e d is s h = same_element a.arguments.trial e d h is
  replaced_element f a Position r e d is s h = cc
  replaced_element f a (Coefficient n) r e d is s h = cc
  replaced_element f a Test Trial e d is s h = cc
  replaced_element f a Test Position e d is s h = cc
  replaced_element f a Test (Coefficient n) e d is s h = cc
  replaced_element f a Trial Test e d is s h = cc
  replaced_element f a Trial Position e d is s h = cc
  replaced_element f a Trial (Coefficient n) e d is s h = cc

  placed_coefficient : (f : FormTerm) (k : FormKind) (r : Role) (e d : ℕ) → is_coefficient r ≡ true → occurs r f ≡ true → IsElementOf numbers r d → e ≡ d → IsPlaceFor table numbers f k r e
  placed_coefficient f k Test e d plain there n same = cc
  placed_coefficient f k Trial e d plain there n same = cc
  placed_coefficient f k Position e d plain there n same = cc
  placed_coefficient f k (Coefficient m) e d plain there n same = (there, n ∙ ap Some (sym same))

  dropped_step : (f g : FormTerm) (a k : FormKind) (last : Role) → record { cell = a.cell; arguments = dropped last a.arguments } ≡ k → ((r : Role) → occurs r f ≡ true → occurs r g ≡ true)
      → Step f g a k (Some last)
  dropped_step f g a k Test is t = record { cell = ap (λ (x : FormKind). x.cell) is; test = λ other. cc; trial = λ other e h. ap (λ (x : FormKind). x.arguments.trial) (sym is) ∙ h; there = t }
  dropped_step f g a k Trial is t = record { cell = ap (λ (x : FormKind). x.cell) is; test = λ other e h. ap (λ (x : FormKind). x.arguments.test) (sym is) ∙ h; trial = λ other. cc; there = t }
  dropped_step f g a k Position is t =
      record { cell = ap (λ (x : FormKind). x.cell) is; test = λ other e h. ap (λ (x : FormKind). x.arguments.test) (sym is) ∙ h; trial = λ other e h. ap (λ (x : FormKind). x.arguments.trial) (sym is) ∙ h; there = t }
  dropped_step f g a k (Coefficient n) is t =
      record { cell = ap (λ (x : FormKind). x.cell) is; test = λ other e h. ap (λ (x : FormKind). x.arguments.test) (sym is) ∙ h; trial = λ other e h. ap (λ (x : FormKind). x.arguments.trial) (sym is) ∙ h; there = t }

  -- ---- the direction of a derivative
  record IsDerivative (a : FormKind) (w du : Function) (k : FormKind) : Type 0 where
    plain : is_coefficient w.role ≡ true
    direction : is_direction du.role ≡ true
    element : w.element ≡ du.element
    with_it : IsWith a.cell (joined a.arguments (argument du)) k

  and_first : (a b : Bool) → (a && b) ≡ true → a ≡ true
  and_first true b h = refl
  and_first false b h = cc

  and_second : (a b : Bool) → (a && b) ≡ true → b ≡ true
  and_second true b h = h
  and_second false b h = cc

  derivative_choice : (b c : Bool) (a : FormKind) (w du : Function) (k : FormKind) → (is_coefficient w.role && is_direction du.role) ≡ b → (w.element == du.element) ≡ c
      → (if b then (if c then with_arguments a.cell (joined a.arguments (argument du)) else Err OfKind) else Err OfKind) ≡ Ok k → IsDerivative a w du k
  derivative_choice true true a w du k p e h =
      record {
        plain = and_first (is_coefficient w.role) (is_direction du.role) p;
        direction = and_second (is_coefficient w.role) (is_direction du.role) p;
        element = same_number w.element du.element e;
        with_it = is_with a.cell (joined a.arguments (argument du)) k h;
      }
  derivative_choice true false a w du k p e h = cc
  derivative_choice false c a w du k p e h = cc

  is_derivative : (a : FormKind) (w du : Function) (k : FormKind) → derivative_kind a w du ≡ Ok k → IsDerivative a w du k
  is_derivative a w du k h = derivative_choice (is_coefficient w.role && is_direction du.role) (w.element == du.element) a w du k refl refl h

  -- the function that is turned has the element of its number
  turned_element : (f : FormTerm) (a : FormKind) (w r : Role) (e d : ℕ) → is_coefficient w ≡ true → IsElementOf numbers w d → same_role r w ≡ true → IsPlaceFor table numbers f a r e → e ≡ d
  turned_element f a Test r e d plain n s h = cc
  turned_element f a Trial r e d plain n s h = cc
  turned_element f a Position r e d plain n s h = cc
  turned_element f a (Coefficient m) Test e d plain n s h = cc
  turned_element f a (Coefficient m) Trial e d plain n s h = cc
  turned_element f a (Coefficient m) Position e d plain n s h = cc
  turned_element f a (Coefficient m) (Coefficient i) e d plain n s h =
      same_element (slice_get numbers i) e d h.1 (ap (slice_get numbers) (same_number i m s) ∙ n)

  placed_direction : (f : FormTerm) (k : FormKind) (r : Role) (e d : ℕ) → is_direction r ≡ true → occurs r f ≡ true → IsSaidBy k.arguments r d → IsElementOf numbers r d → e ≡ d
      → IsPlaceFor table numbers f k r e
  placed_direction f k Test e d plain there s n same = s ∙ ap Some (sym same)
  placed_direction f k Trial e d plain there s n same = s ∙ ap Some (sym same)
  placed_direction f k Position e d plain there s n same = cc
  placed_direction f k (Coefficient m) e d plain there s n same = (there, n ∙ ap Some (sym same))

  -- ---- forms
  abbrev AllPlaced : FormTerm → FormKind → Type 0
  AllPlaced f k = HaveTheirPlaces table numbers f k (flattened table f)

  integral_placed : (on : _) (e : Typed) (k : FormKind) → FitsTable table e → IsNumbered numbers e → tree_arguments e ≡ Some k.arguments → Each (IsOn table (Some k.cell)) e
      → Each (HasItsPlace table numbers (integral on e) k) e
  integral_placed on e k fits n is cell =
      let P : Function → Type 0 = λ x. occurs_in x.role e ≡ true in
      let Q : Function → Type 0 = λ x. IsPlaced x.role (slice_get table x.element) k.cell in
      let R : Function → Type 0 = λ x. (occurs_in x.role e ≡ true) × IsSaid k.arguments x in
      let S : Function → Type 0 = λ x. HasItsElement numbers x × IsPlaced x.role (slice_get table x.element) k.cell in
      both R S (HasItsPlace table numbers (integral on e) k) (λ x h i. placed_in table numbers (integral on e) k x.role x.element h.0 h.1 i.0 i.1) e
      (both P (IsSaid k.arguments) R (λ x h i. (h, i)) e (occur e) (said e k.arguments is))
      (both (HasItsElement numbers) Q S (λ x h i. (h, i)) e (numbered numbers e n)
      (both (λ x. MayHave x.role (slice_get table x.element)) (IsOn table (Some k.cell)) Q (λ x h i. is_placed x.role (slice_get table x.element) k.cell h i) e (may_have_all table e fits) cell))

  pub all_placed : (f : FormTerm) (k : FormKind) → AreTyped f → FormFits table f → FormIsNumbered numbers f → form_kind f ≡ Ok k → AllPlaced f k
  unfolding AreTyped FormFits FormIsNumbered form_kind
  all_placed (integral on e) k t h n is =
      let I = is_integral (own_kind e).cell (tree_arguments e) (is_scalar (shape_of e)) (no_free (free_of e)) k is in
      (integrand_each table (HasItsPlace table numbers (integral on e) k) e (integral_placed on e k h n I.arguments (functions_on table (integral on e) k t h is)), tt)
  all_placed (sum f g) k t h n is =
      let F = is_further (form_kind f) (λ a. further (form_kind g) (λ b. sum_kind a b)) k is in
      let G = is_further (form_kind g) (λ b. sum_kind F.kind b) k F.rest in
      let S = sum_choice (same_cell F.kind.cell G.kind.cell) F.kind G.kind k refl G.rest in
      let L = joined_left F.kind.arguments G.kind.arguments k.arguments S.arguments in
      let R = joined_right F.kind.arguments G.kind.arguments k.arguments S.arguments in
      all_append _ (flattened table f) (flattened table g)
      (all_kept (Placed f F.kind) (Placed (sum f g) k)
      (all_kept_by f (sum f g) F.kind k (record { cell = S.first; test = λ other. L.test; trial = λ other. L.trial; there = λ r x. either_left (occurs r f) (occurs r g) x }))
      (flattened table f) (all_placed f F.kind t.0 h.0 n.0 F.first))
      (all_kept (Placed g G.kind) (Placed (sum f g) k)
      (all_kept_by g (sum f g) G.kind k (record { cell = S.second; test = λ other. R.test; trial = λ other. R.trial; there = λ r x. either_right (occurs r f) (occurs r g) x }))
      (flattened table g) (all_placed g G.kind t.1 h.1 n.1 G.first))
  all_placed (scale c f) k t h n is =
      all_under (Placed f k) (Placed (scale c f) k) (o.Scale c) (all_kept_by f (scale c f) k k (record { cell = refl; test = λ other e x. x; trial = λ other e x. x; there = λ r x. x }))
      (flattened table f) (all_placed f k t h n is)
  all_placed (left f) k t h n is =
      all_under (Placed f k) (Placed (left f) k) o.Left (all_kept_by f (left f) k k (record { cell = refl; test = λ other e x. x; trial = λ other e x. x; there = λ r x. x }))
      (flattened table f) (all_placed f k t h n is)
  all_placed (right f) k t h n is =
      let F = is_further (form_kind f) (λ a. Ok (right_kind a)) k is in
      let e : right_kind F.kind ≡ k = cc in
      all_under (Placed f F.kind) (Placed (right f) k) o.Right
      (kept_but f (right f) F.kind k Trial (record { cell = ap (λ (x : FormKind). x.cell) e; test = λ other d x. ap (λ (y : FormKind). y.arguments.test) (sym e) ∙ x; trial = λ other. cc; there = λ r x. x }))
      (flattened table f) (all_placed f F.kind t h n F.first)
  all_placed (action f last g) k t h n is =
      let F = is_further (form_kind f) (λ a. last_kind (is_last last (last_of (form_patterns f))) (action_kind a last g)) k is in
      let A = action_choice (is_last last (last_of (form_patterns f))) (is_coefficient g.role) (has_element (element_of last F.kind.arguments) g.element) F.kind last g k refl refl F.rest in
      all_under (Placed f F.kind) (Placed (action f last g) k) (o.Action last g.role) (
        kept_but f (action f last g) F.kind k last (dropped_step f (action f last g) F.kind k last A.kind (λ r x. either_left (occurs r f) (same_role g.role r) x)),
        (λ x p s. placed_coefficient (action f last g) k g.role x.element g.element A.plain (either_right (occurs g.role f) (same_role g.role g.role) (own_role g.role)) n.1
            (replaced_element f F.kind last x.role x.element g.element (has_this (element_of last F.kind.arguments) g.element A.element) s p)),
      )
      (flattened table f) (all_placed f F.kind t h.0 n.0 F.first)
  all_placed (adjoint f) k t h n is =
      let F = is_further (form_kind f) (λ a. Ok (adjoint_kind a)) k is in
      let e : adjoint_kind F.kind ≡ k = cc in
      subst (λ j. HaveTheirPlaces table numbers (adjoint f) j (flattened table (adjoint f))) e
      (all_under (Placed f F.kind) (Placed (adjoint f) (adjoint_kind F.kind)) o.Adjoint (λ x p. exchanged_place f F.kind x.role x.element p) (flattened table f) (all_placed f F.kind t h n F.first))
  all_placed (derivative f w du) k t h n is =
      let F = is_further (form_kind f) (λ a. derivative_kind a w du) k is in
      let D = is_derivative F.kind w du k F.rest in
      let L = joined_left F.kind.arguments (argument du) k.arguments D.with_it.arguments in
      let R = joined_right F.kind.arguments (argument du) k.arguments D.with_it.arguments in
      all_under (Placed f F.kind) (Placed (derivative f w du) k) (o.Derivative w.role du.role) (
        all_kept_by f (derivative f w du) F.kind k (record { cell = D.with_it.cell; test = λ other. L.test; trial = λ other. L.trial; there = λ r x. either_left (occurs r f) (same_role du.role r) x }),
        (λ x p s. placed_direction (derivative f w du) k du.role x.element du.element D.direction (either_right (occurs du.role f) (same_role du.role du.role) (own_role du.role))
            (said_within (argument du) k.arguments R du.role du.element (said_alone du.role du.element)) n.2
            (turned_element f F.kind w.role x.role x.element w.element D.plain n.1 s p ∙ D.element)),
      )
      (flattened table f) (all_placed f F.kind t h.0 n.0 F.first)
