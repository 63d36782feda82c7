-- The element of each function of an expression that fits a table is on the expression's cell
use Rattle.std.proofs.Common.{◌≡◌, Bool, true, false, if◌then◌else◌, [], Option, None, Some, slice_get, Ok, Err, refl, sym, ap, ◌∙◌, subst}
use Rattle.spaces.specs.declared.cell.Cell.{Cell}
use Rattle.spaces.specs.Space.{Space, cell_of}
use Rattle.ufl_tree.specs.declared.function.Role.{Role}
use Rattle.ufl_tree.specs.Places.{Table, element_shape, Piece, sub_element}
use Rattle.ufl_tree.specs.Typed.{Kind, Typed, number, identity, function, piece, one, two, power, index, partial, tensor, list, variable, diff, TypedList, no_items, item, own_kind}
use Rattle.ufl_tree.specs.Functions.{EachFunctionOfAll, Each}
use Rattle.ufl_tree.proofs.FunctionLaws.{weaker}
use Rattle.ufl_expr.specs.declared.refusal.TypeRefusal.TheVariants.{Kind as OfKind}
use Rattle.ufl_expr.specs.Shapes.{ShapeVerdict}
use Rattle.ufl_expr.specs.Frees.{FreeVerdict, none_free}
use Rattle.spaces.specs.Cell.{same_cell}
use Rattle.ufl_expr.specs.Table.{CellVerdict, kind_from, joined_cell, cell_further, cell_behind, has_argument, variable_cell, kinds_of, IsTyped, AreTyped}
use Rattle.ufl_expr.specs.Elements.{may_have, space_for, space_in, function_kind, function_in, piece_kind, piece_in, IsSpaceOn, IsOn}
use Rattle.ufl_expr.specs.Fits.{FitsTable}
use Rattle.spaces.proofs.EqualityLaws.{cell_true}

-- ---- cells
-- what is on the cell of an operand is on that of the whole
abbrev Leads : Option Cell → Option Cell → Type 0
Leads c d = (s : Option Space) → IsSpaceOn c s → IsSpaceOn d s

leads_same : (c d : Option Cell) → c ≡ d → Leads c d
leads_same c d e s h = subst (λ x. IsSpaceOn x s) e h

abbrev fine : Option Cell → CellVerdict
fine c = Ok c

ok_same : (c d : Option Cell) → fine c ≡ fine d → c ≡ d
ok_same c d h = cc

joined_ends : (b : Bool) (c e : Cell) (k : Option Cell) → same_cell c e ≡ b → (if b then Ok (Some c) else Err OfKind) ≡ Ok k → (Some c ≡ k) × (Some e ≡ k)
joined_ends true c e k same h =
    let first : Some c ≡ k = cc in
    (first, ap Some (sym (cell_true c e same)) ∙ first)
joined_ends false c e k same h = cc

leads_left : (a b k : Option Cell) → joined_cell a b ≡ Ok k → Leads a k
leads_left None b k h s on = absurd on
leads_left (Some c) None k h s on = leads_same (Some c) k (ok_same (Some c) k h) s on
leads_left (Some c) (Some e) k h s on = leads_same (Some c) k (joined_ends (same_cell c e) c e k refl h).0 s on

leads_right : (a b k : Option Cell) → joined_cell a b ≡ Ok k → Leads b k
leads_right None b k h s on = leads_same b k (ok_same b k h) s on
leads_right (Some c) None k h s on = absurd on
leads_right (Some c) (Some e) k h s on = leads_same (Some e) k (joined_ends (same_cell c e) c e k refl h).1 s on

kind_cell : (c : CellVerdict) (s : ShapeVerdict) (f : FreeVerdict) (k : Kind) → kind_from c s f ≡ Ok k → c ≡ Ok k.cell
kind_cell (Err r) s f k h = cc
kind_cell (Ok c) (Err r) f k h = cc
kind_cell (Ok c) (Ok s) (Err r) k h = cc
kind_cell (Ok c) (Ok s) (Ok f) k h = let e : record { shape = s; free = f; cell = c } ≡ k = cc in ap (λ (x : Kind). Ok x.cell) e

-- of one operand
same_leads : (c : Option Cell) (s : ShapeVerdict) (f : FreeVerdict) (k : Kind) → kind_from (Ok c) s f ≡ Ok k → Leads c k.cell
same_leads c s f k h = leads_same c k.cell (ok_same c k.cell (kind_cell (Ok c) s f k h))

variable_leads : (has : Bool) (c : Option Cell) (s : ShapeVerdict) (f : FreeVerdict) (k : Kind) → kind_from (variable_cell has c) s f ≡ Ok k → Leads c k.cell
variable_leads true c s f k h x on = cc
variable_leads false c s f k h x on = same_leads c s f k h x on

-- ---- functions
function_on : (s : Option Space) (k : Kind) → function_kind s ≡ Ok k → IsSpaceOn k.cell s
function_on None k h = cc
function_on (Some s) k h =
    let e : record { shape = element_shape s; free = []; cell = Some (cell_of s) } ≡ k = cc in
    subst (λ (x : Kind). IsSpaceOn x.cell (Some s)) e refl

piece_on : (s : Option Space) (p : Option Piece) (k : Kind) → piece_kind s p ≡ Ok k → IsSpaceOn k.cell s
piece_on None p k h = cc
piece_on (Some s) None k h = cc
piece_on (Some s) (Some p) k h =
    let e : record { shape = element_shape p.space; free = []; cell = Some (cell_of s) } ≡ k = cc in
    subst (λ (x : Kind). IsSpaceOn x.cell (Some s)) e refl

-- of the elements that a function may have
for_choice : (b : Bool) (s : Space) (c : Option Cell) → IsSpaceOn c (if b then Some s else None) → IsSpaceOn c (Some s)
for_choice true s c h = h
for_choice false s (Some c) h = absurd h
for_choice false s None h = absurd h

for_on : (r : Role) (s : Option Space) (c : Option Cell) → IsSpaceOn c (space_for r s) → IsSpaceOn c s
for_on r None c h = h
for_on r (Some s) c h = for_choice (may_have r s) s c h

-- ---- trees
led : (table : Table) (c d : Option Cell) (e : Typed) → Leads c d → Each (IsOn table c) e → Each (IsOn table d) e
led table c d e l h = weaker (IsOn table c) (IsOn table d) (λ f. l (slice_get table f.element)) e h

abbrev AllOn : Table → Option Cell → TypedList → Type 0
AllOn table c = EachFunctionOfAll (λ k f. IsOn table c f) (λ k f n. IsOn table c f)

record IsFurther (r : CellVerdict) (f : Option Cell → CellVerdict) (d : Option Cell) : Type 0 where
  cell : Option Cell
  first : r ≡ Ok cell
  rest : f cell ≡ Ok d

is_further : (r : CellVerdict) (f : Option Cell → CellVerdict) (d : Option Cell) → cell_further r f ≡ Ok d → IsFurther r f d
is_further (Err r) f d h = cc
is_further (Ok c) f d h = record { cell = c; first = refl; rest = h }

-- the items of a list behind others, whose cell is c
record AreOn (table : Table) (c d : Option Cell) (ts : TypedList) : Type 0 where
  leads : Leads c d
  items : AllOn table d ts

mutual
  unfolding IsTyped FitsTable

  pub tree_on : (table : Table) (e : Typed) → IsTyped e → FitsTable table e → Each (IsOn table (own_kind e).cell) e
  tree_on table (number k c) t h = tt
  tree_on table (identity k n) t h = tt
  tree_on table (function k f) t h = for_on f.role (slice_get table f.element) k.cell (function_on (space_in table f) k h)
  tree_on table (piece k f n) t h = for_on f.role (slice_get table f.element) k.cell (piece_on (space_in table f) (sub_element (space_in table f) n) k h)
  tree_on table (one k op a) t h = led table (own_kind a).cell k.cell a (same_leads _ _ _ k t.0) (tree_on table a t.1 h)
  tree_on table (two k op a b) t h =
      let joined = kind_cell (joined_cell (own_kind a).cell (own_kind b).cell) _ _ k t.0 in (
        led table (own_kind a).cell k.cell a (leads_left (own_kind a).cell (own_kind b).cell k.cell joined) (tree_on table a t.1 h.0),
        led table (own_kind b).cell k.cell b (leads_right (own_kind a).cell (own_kind b).cell k.cell joined) (tree_on table b t.2 h.1),
      )
  tree_on table (power k a n) t h = led table (own_kind a).cell k.cell a (same_leads _ _ _ k t.0) (tree_on table a t.2 h)
  tree_on table (index k a at) t h = led table (own_kind a).cell k.cell a (same_leads _ _ _ k t.0) (tree_on table a t.1 h)
  tree_on table (partial k a i) t h = led table (own_kind a).cell k.cell a (same_leads _ _ _ k t.0) (tree_on table a t.1 h)
  tree_on table (tensor k a by) t h = led table (own_kind a).cell k.cell a (same_leads _ _ _ k t.0) (tree_on table a t.1 h)
  tree_on table (list k ts) t h = (items_on table None k.cell ts (kind_cell _ _ _ k t.0) t.1 h).items
  tree_on table (variable k l a) t h = led table (own_kind a).cell k.cell a (variable_leads (has_argument a) (own_kind a).cell (Ok (own_kind a).shape) (none_free (own_kind a).free) k t.0) (tree_on table a t.1 h)
  tree_on table (diff k l by a) t h = led table (own_kind a).cell k.cell a (leads_same _ k.cell (sym (ap (λ (x : Kind). x.cell) t.0))) (tree_on table a t.1 h)

  items_on : (table : Table) (c d : Option Cell) (ts : TypedList) → cell_behind c (kinds_of ts) ≡ Ok d → AreTyped ts
      → EachFunctionOfAll (λ k f. function_in table f ≡ Ok k) (λ k f n. piece_in table f n ≡ Ok k) ts → AreOn table c d ts
  items_on table c d no_items same t h = record { leads = leads_same c d (ok_same c d same); items = tt }
  items_on table c d (item e ts) same t h =
      let F = is_further (joined_cell c (own_kind e).cell) (λ x. cell_behind x (kinds_of ts)) d same in
      let R = items_on table F.cell d ts F.rest t.1 h.1 in
      record {
        leads = λ s on. R.leads s (leads_left c (own_kind e).cell F.cell F.first s on);
        items = (
          led table (own_kind e).cell d e (λ s on. R.leads s (leads_right c (own_kind e).cell F.cell F.first s on)) (tree_on table e t.0 h.0),
          R.items,
        );
      }
