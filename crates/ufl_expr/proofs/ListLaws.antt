-- Lists of expressions: what is counted so far, and the tree of all
use Rattle.std.proofs.Common.{◌≡◌, ℕ, ◌+◌, ◌*◌, ◌<◌, ◌≤◌, max, Bool, true, false, nat_le, ◌&&◌, List, [], ◌∷◌, length, map, drop, get_or, drop-cons, add-one, refl, sym, ap, ap₂, ◌∙◌, subst, Ok, Err, None, arith}
use Rattle.std.proofs.lemmas.Bool.{leb-true}
use Rattle.std.proofs.lemmas.List.{length-map}
use Rattle.ufl_tree.specs.declared.tree.Tree.{Tree}
use Rattle.ufl_tree.specs.declared.tree.Node.TheVariants as v
use Rattle.ufl_tree.specs.Typed.{Kind, Typed, list, TypedList, no_items, item}
use Rattle.ufl_tree.specs.Reading.{typed_of, typed_list, kind_of, tree_with}
use Rattle.ufl_tree.proofs.ReadingLaws.{typed_of-List}
use Rattle.ufl_expr.specs.Sizes.{nodes_of, nodes_of_all, height_of, height_of_all}
use Rattle.ufl_expr.specs.Shapes.{shape_if}
use Rattle.ufl_expr.specs.Frees.{FreeVerdict}
use Rattle.ufl_expr.specs.Table.{IsTyped, AreTyped, CellVerdict, kind_from, kinds_of, cell_behind, have_shape, list_free, list_kind}
use Rattle.ufl_expr.specs.Extent.{IsExtent}
use Rattle.ufl_tree.proofs.KindLaws.{own_kind-typed_of}
use Rattle.ufl_expr.proofs.BuildingLaws.{Counted, counted_same}

abbrev pub listed : List Tree → TypedList
listed ts = typed_list (map typed_of ts)

-- ---- the extent of a list
-- n nodes and the height h so far, where these items are left
pub record Extended (n h : ℕ) (left all : TypedList) : Type 0 where
  pub typed : AreTyped left → AreTyped all
  pub count : n + nodes_of_all left ≡ nodes_of_all all
  pub depth : max h (height_of_all left) ≡ height_of_all all

pub extended_start : (all : TypedList) → Extended 0 0 all all
extended_start all = record { typed = λ t. t; count = omega arith; depth = omega arith }

extended_item : (n h m i : ℕ) (t : Typed) (left rest all : TypedList) → left ≡ item t rest → IsTyped t → m ≡ nodes_of t → i ≡ height_of t
    → Extended n h left all → Extended (n + m) (max h i) rest all
unfolding IsTyped nodes_of height_of
extended_item n h m i t left rest all is typed count depth E =
    let first : nodes_of_all left ≡ nodes_of t + nodes_of_all rest = ap nodes_of_all is in
    let second : height_of_all left ≡ max (height_of t) (height_of_all rest) = ap height_of_all is in
    record {
      typed = λ r. E.typed (subst AreTyped (sym is) (typed, r));
      count = omega (arith, first, count, E.count);
      depth = omega (arith, second, depth, E.depth);
    }

pub extended_step : (n h m i j : ℕ) (ts : List Tree) (k : ℕ) (t u : Tree) (all : TypedList) → k < length ts → t ≡ get_or ts k t → u ≡ t → IsTyped (typed_of u)
    → m ≡ nodes_of (typed_of u) → i ≡ height_of (typed_of u) → Extended n h (listed (drop k ts)) all → j ≡ max h i → Extended (n + m) j (listed (drop (k + 1) ts)) all
extended_step n h m i j ts k t u all within here same typed count depth E top =
    subst (λ x. Extended (n + m) x (listed (drop (k + 1) ts)) all) (sym top)
    (extended_item n h m i (typed_of u) (listed (drop k ts)) (listed (drop (k + 1) ts)) all
    (ap listed (drop-cons ts k t within) ∙ ap₂ (λ x j. item (typed_of x) (listed (drop j ts))) (sym here ∙ sym same) (sym (add-one k)))
    typed count depth E)

-- so far, with bounds on both numbers
pub record Counting (n h k : ℕ) (left all : TypedList) : Type 0 where
  pub extended : Extended n h left all
  pub few : n ≤ 10000 * k
  pub flat : h ≤ 128

pub extent_of : (n h : ℕ) (ts : List Tree) (all : TypedList) → ts ≡ [] → Extended n h (listed ts) all → IsExtent all n h
unfolding IsTyped nodes_of height_of
extent_of n h ts all e E =
    let E' : Extended n h no_items all = subst (λ x. Extended n h (listed x) all) e E in
    let zero_height : max h 0 ≡ height_of_all all = E'.depth in
    let zero_nodes : n + 0 ≡ nodes_of_all all = E'.count in
    record { typed = E'.typed tt; count = omega (arith, zero_nodes); depth = omega (arith, zero_height) }

-- ---- the tree of a list
kinds_listed : (ts : List Tree) → kinds_of (listed ts) ≡ map kind_of ts
kinds_listed [] = refl
kinds_listed (t ∷ ts) = ap₂ (λ k ks. k ∷ ks) (own_kind-typed_of t) (kinds_listed ts)

pub counted_list : (ts : List Tree) (k : Kind) (n h : ℕ) → list_kind (map kind_of ts) ≡ Ok k → IsExtent (listed ts) n h
    → Counted (typed_of (tree_with (v.List ts) k)) (n + 1) (h + 1)
unfolding IsTyped nodes_of height_of
counted_list ts k n h is E =
    counted_same _ (list k (listed ts)) (n + 1) (h + 1) (typed_of-List ts k)
    (record { typed = (ap list_kind (kinds_listed ts) ∙ is, E.typed); count = ap (λ x. x + 1) E.count; depth = ap (λ x. x + 1) E.depth })

-- ---- a list that has a kind is not too long
shape_holds : (c : CellVerdict) (b : Bool) (s : List ℕ) (f : FreeVerdict) (k : Kind) → kind_from c (shape_if b s) f ≡ Ok k → b ≡ true
shape_holds (Err r) b s f k h = cc
shape_holds (Ok c) true s f k h = refl
shape_holds (Ok c) false s f k h = cc

first_holds : (a b : Bool) → a && b ≡ true → a ≡ true
first_holds true b h = refl
first_holds false b h = h

kinds_length : (ks : List Kind) (k : Kind) → list_kind ks ≡ Ok k → length ks ≤ 255
kinds_length [] k h = omega arith
kinds_length (x ∷ ks) k h =
    let holds : nat_le (length (x ∷ ks)) 255 ≡ true =
    first_holds (nat_le (length (x ∷ ks)) 255) (have_shape x.shape ks) (shape_holds (cell_behind None (x ∷ ks)) _ (length (x ∷ ks) ∷ x.shape) (list_free (x ∷ ks)) k h) in
    leb-true (length (x ∷ ks)) 255 holds

pub list_length : (ts us : List Tree) (k : Kind) → ts ≡ us → list_kind (map kind_of ts) ≡ Ok k → length us ≤ 255
list_length ts us k same h =
    let short : length (map kind_of ts) ≤ 255 = kinds_length (map kind_of ts) k h in
    let e : length (map kind_of us) ≡ length us = length-map us kind_of in
    omega (arith, ap (λ x. length (map kind_of x)) same)
