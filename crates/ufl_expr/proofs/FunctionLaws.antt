-- Functions: what their elements say of them
use Rattle.std.proofs.Common.{◌≡◌, ℕ, zero, suc, List, [], ◌∷◌, Option, None, Some, Ok, Err, slice_get, refl, sym, ap, ◌∙◌, subst}
use Rattle.std.specs.Prelude.{IsSome}
use Rattle.spaces.specs.declared.cell.Cell.{Cell}
use Rattle.spaces.specs.declared.element_tree.ElementTree.{ElementTree}
use Rattle.spaces.specs.Space.{Space, cell_of}
use Rattle.spaces.specs.Reading.{space_of}
use Rattle.ufl_tree.specs.declared.function.Free.{Free}
use Rattle.ufl_tree.specs.declared.function.Function.{Function}
use Rattle.ufl_tree.specs.declared.tree.Node.TheVariants as v
use Rattle.ufl_tree.specs.Typed.{Kind, function, piece}
use Rattle.ufl_tree.specs.Reading.{typed_of, tree_with}
use Rattle.ufl_tree.specs.Places.{Table, element_shape, Piece, piece_of, sub_element, table_of}
use Rattle.ufl_tree.proofs.ReadingLaws.{typed_of-Fun, typed_of-Piece}
use Rattle.ufl_expr.specs.declared.refusal.TypeRefusal.TheVariants.{Kind as OfKind}
use Rattle.ufl_expr.specs.Sizes.{nodes_of, height_of}
use Rattle.ufl_expr.specs.Answer.{Gives}
use Rattle.ufl_expr.specs.Table.{IsTyped, Verdict}
use Rattle.ufl_expr.specs.Elements.{space_in, function_kind, function_in, piece_kind, piece_in}
use Rattle.ufl_expr.proofs.BuildingLaws.{Counted, counted_same}

none_at : (es : List ElementTree) (k : ℕ) → slice_get es k ≡ None → slice_get (table_of es) k ≡ None
none_at [] k h = refl
none_at (x ∷ es) zero h = cc
none_at (x ∷ es) (suc k) h = none_at es k h

pub no_element : (es : List ElementTree) (k : ℕ) → None ≡ slice_get es k → function_kind (slice_get (table_of es) k) ≡ Err OfKind
no_element es k h = ap function_kind (none_at es k (sym h))

function_typed : (o : Option Space) (k : Kind) → function_kind o ≡ Ok k → (k.free ≡ []) × IsSome k.cell
function_typed None k h = cc
function_typed (Some s) k h =
    let e : record { shape = element_shape s; free = []; cell = Some (cell_of s) } ≡ k = cc in
    subst (λ (x : Kind). (x.free ≡ []) × IsSome x.cell) e (refl, refl)

pub counted_function : (f : Function) (table : Table) (k : Kind) → function_in table f ≡ Ok k → Counted (typed_of (tree_with (v.Fun f) k)) 1 1
unfolding IsTyped nodes_of height_of
counted_function f table k is =
    counted_same _ (function k f) 1 1 (typed_of-Fun f k) (record { typed = function_typed (space_in table f) k is; count = refl; depth = refl })

piece_typed : (o : Option Space) (p : Option Piece) (k : Kind) → piece_kind o p ≡ Ok k → (k.free ≡ []) × IsSome k.cell
piece_typed None p k h = cc
piece_typed (Some s) None k h = cc
piece_typed (Some s) (Some p) k h =
    let e : record { shape = element_shape p.space; free = []; cell = Some (cell_of s) } ≡ k = cc in
    subst (λ (x : Kind). (x.free ≡ []) × IsSome x.cell) e (refl, refl)

pub counted_piece : (f : Function) (n : ℕ) (table : Table) (k : Kind) → piece_in table f n ≡ Ok k → Counted (typed_of (tree_with (v.Piece f n) k)) 1 1
unfolding IsTyped nodes_of height_of
counted_piece f n table k is =
    counted_same _ (piece k f n) 1 1 (typed_of-Piece f n k)
    (record { typed = piece_typed (space_in table f) (sub_element (space_in table f) n) k is; count = refl; depth = refl })
