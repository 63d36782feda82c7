-- Typed trees that fit a table of elements are fit for lowering: their ranks, the sizes of matrices, and the cells
use Rattle.std.proofs.Common.{◌≡◌, ◌≤◌, ◌<◌, ◌+◌, ◌*◌, ◌&&◌, ℕ, zero, suc, Bool, true, false, if◌then◌else◌, nat_le, List, [], ◌∷◌, ◌++◌, length, Option, None, Some, Ok, Err, slice_get, refl, sym, ap, ◌∙◌, subst, arith, leb-true}
use Rattle.std.proofs.Math.Nat.{mul_comm}
use Rattle.spaces.specs.declared.cell.Cell.{Cell}
use Rattle.spaces.specs.declared.cell.Cell.TheVariants.{Interval, Triangle, Tetrahedron}
use Rattle.spaces.specs.Cell.{dimension, same_cell}
use Rattle.spaces.specs.Space.{Space, scalar, vector, tensor, mixed, Spaces, no_spaces, space, scalars, cell_of, IsLawful, AreLawful}
use Rattle.spaces.proofs.EqualityLaws.{cell_true}
use Rattle.ufl_tree.specs.declared.function.Function.{Function}
use Rattle.ufl_tree.specs.declared.function.Ix.{Ix}
use Rattle.ufl_tree.specs.declared.function.Role.{Role}
use Rattle.ufl_tree.specs.Indices.{named, direction}
use Rattle.ufl_tree.specs.Places.{Table, IsLawfulTable, element_shape, Piece, piece_from, piece_of, sub_element}
use Rattle.ufl_tree.specs.Typed.{Kind, Typed, number, identity, function, piece, one, two, power, index, partial, tensor, list, variable, diff, TypedList, no_items, item, own_kind, shape_of, free_of}
use Rattle.ufl_tree.specs.Functions.{EachFunctionOfAll}
use Rattle.ufl_expr.specs.declared.refusal.TypeRefusal.TheVariants.{Kind as OfKind}
use Rattle.ufl_expr.specs.Shapes.{ShapeVerdict, shape_if, same_shape, one_shape, two_shape, rest_shape, in_dimension, dimension_of, along_shape, is_scalar, is_within}
use Rattle.ufl_expr.specs.Frees.{FreeVerdict, two_free, joined_free, bound, sizes_of, none_free}
use Rattle.ufl_expr.specs.Table.{CellVerdict, kind_from, joined_cell, cell_further, cell_behind, have_shape, have_free, list_shape, list_free, list_kind, kinds_of, has_argument, variable_cell, IsTyped, AreTyped}
use Rattle.ufl_expr.specs.Elements.{may_have, space_for, space_in, function_kind, function_in, piece_kind, piece_in}
use Rattle.ufl_expr.specs.Fits.{FitsTable}
use Rattle.ufl_tree.specs.FormTerm.{FormTerm, integral, sum, scale, left, right, action, adjoint, derivative}
use Rattle.ufl_form.specs.Fits.{FormFits}
use Rattle.ufl_form.specs.Table.{AreTyped as FormTyped}
use Rattle.weigh.specs.Terms.{function_directions, space_directions}
use Rattle.weigh.specs.Weighing.{directions}
use Rattle.lower.specs.Fitting.{IsFitting, AreFitting}
use Rattle.typing.specs.Parts.{HaveByteParts, ArePartsFitting}
use Rattle.typing.specs.Sizes.{AreBytes, HasByteLabels, HaveByteLabels}
use Rattle.typing.proofs.ShapeLaws.{if_shape, ok_shape, both_true, bytes_append, same_length, one_rank, one_bytes, two_rank, two_bytes, rest_rank, rest_bytes}
use Rattle.typing.proofs.FreeLaws.{HaveByteSizes, ok_free, equal_choice, two_sizes, index_sizes, partial_sizes, bound_sizes, sizes_bytes, none_sizes}

-- ---- what a row says, taken apart
record IsKind (c : CellVerdict) (s : ShapeVerdict) (f : FreeVerdict) (k : Kind) : Type 0 where
  cell : c ≡ Ok k.cell
  shape : s ≡ Ok k.shape
  free : f ≡ Ok k.free

is_kind : (c : CellVerdict) (s : ShapeVerdict) (f : FreeVerdict) (k : Kind) → kind_from c s f ≡ Ok k → IsKind c s f k
is_kind (Err r) s f k h = cc
is_kind (Ok c) (Err r) f k h = cc
is_kind (Ok c) (Ok s) (Err r) k h = cc
is_kind (Ok c) (Ok s) (Ok f) k h =
    let e : record { shape = s; free = f; cell = c } ≡ k = cc in
    record { cell = ap (λ (x : Kind). Ok x.cell) e; shape = ap (λ (x : Kind). Ok x.shape) e; free = ap (λ (x : Kind). Ok x.free) e }

-- ---- directions
abbrev Along : Option Cell → Option Cell → Type 0
Along c d = directions c ≤ directions d

abbrev fine : Option Cell → CellVerdict
fine c = Ok c

ok_cell : (c d : Option Cell) → fine c ≡ fine d → c ≡ d
ok_cell c d h = cc

along_same : (c d : Option Cell) → c ≡ d → Along c d
along_same c d e = omega (arith, ap directions e)

some_direction : (c : Option Cell) → 1 ≤ directions c
some_direction None = omega arith
some_direction (Some Interval) = omega arith
some_direction (Some Triangle) = omega arith
some_direction (Some Tetrahedron) = omega arith

joined_choice : (b : Bool) (c e : Cell) (k : Option Cell) → same_cell c e ≡ b → (if b then Ok (Some c) else Err OfKind) ≡ Ok k → (Some c ≡ k) × (Some e ≡ k)
joined_choice true c e k same h =
    let first : Some c ≡ k = cc in
    (first, ap Some (sym (cell_true c e same)) ∙ first)
joined_choice false c e k same h = cc

joined_along : (a b k : Option Cell) → joined_cell a b ≡ Ok k → Along a k × Along b k
joined_along None b k h = (some_direction k, along_same b k (ok_cell b k h))
joined_along (Some c) None k h = (along_same (Some c) k (ok_cell (Some c) k h), some_direction k)
joined_along (Some c) (Some e) k h =
    let same = joined_choice (same_cell c e) c e k refl h in
    (along_same (Some c) k same.0, along_same (Some e) k same.1)

variable_along : (has : Bool) (c d : Option Cell) → variable_cell has c ≡ Ok d → Along c d
variable_along true c d h = cc
variable_along false c d h = along_same c d (ok_cell c d h)

record IsFurther (r : CellVerdict) (f : Option Cell → CellVerdict) (d : Option Cell) : Type 0 where
  cell : Option Cell
  first : r ≡ Ok cell
  rest : f cell ≡ Ok d

is_further : (r : CellVerdict) (f : Option Cell → CellVerdict) (d : Option Cell) → cell_further r f ≡ Ok d → IsFurther r f d
is_further (Err r) f d h = cc
is_further (Ok c) f d h = record { cell = c; first = refl; rest = h }

-- ---- functions
-- a lawful element's shape has sizes of a byte
part_small : (m n : ℕ) → 0 < m * n → m * n ≤ 64 → m ≤ 255
part_small m zero p q = absurd (omega (arith, p, mul_comm m 0))
part_small m (suc n) p q = omega (arith, q, mul_comm m (suc n))

lawful_bytes : (s : Space) → IsLawful s → AreBytes (element_shape s)
lawful_bytes (scalar f c q) h = tt
lawful_bytes (vector s n) h = (omega (arith, h.3), tt)
lawful_bytes (tensor s m n) h = (part_small m n h.2 h.3, (part_small n m (subst (λ k. 0 < k) (mul_comm m n) h.2) (omega (arith, mul_comm m n, h.3)), tt))
lawful_bytes (mixed ss) h = (omega (arith, h.3), tt)

allowed : (b : Bool) (s u : Space) → (if b then Some s else None) ≡ Some u → s ≡ u
allowed true s u h = cc
allowed false s u h = cc

for_role : (r : Role) (s : Option Space) (u : Space) → space_for r s ≡ Some u → s ≡ Some u
for_role r None u h = cc
for_role r (Some s) u h = ap Some (allowed (may_have r s) s u h)

-- what a table says of a function that it has
record IsSizedFunction (elements : Table) (f : Function) (k : Kind) : Type 0 where
  bytes : AreBytes k.shape
  sizes : HaveByteSizes k.free
  along : function_directions elements f ≤ directions k.cell

lawful_at : (elements : Table) (n : ℕ) (s : Space) → IsLawfulTable elements → slice_get elements n ≡ Some s → IsLawful s
lawful_at [] n s h e = cc
lawful_at (t ∷ ts) zero s h e = let same : t ≡ s = cc in subst IsLawful same h.0
lawful_at (t ∷ ts) (suc n) s h e = lawful_at ts n s h.1 e

abbrev made : Space → List ℕ → Kind
made s t = record { shape = t; free = []; cell = Some (cell_of s) }

is_function : (elements : Table) (f : Function) (s : Space) (t : List ℕ) (k : Kind) → slice_get elements f.element ≡ Some s → AreBytes t → made s t ≡ k → IsSizedFunction elements f k
is_function elements f s t k e p is = record {
  bytes = subst (λ (x : Kind). AreBytes x.shape) is p;
  sizes = subst (λ (x : Kind). HaveByteSizes x.free) is tt;
  along = omega (arith, ap space_directions e, ap (λ (x : Kind). directions x.cell) is);
}

whole_function : (elements : Table) (f : Function) (k : Kind) → IsLawfulTable elements → (o : Option Space) → o ≡ space_in elements f → function_kind o ≡ Ok k
    → IsSizedFunction elements f k
whole_function elements f k lawful None e h = cc
whole_function elements f k lawful (Some s) e h =
    let there = for_role f.role (slice_get elements f.element) s (sym e) in
    is_function elements f s (element_shape s) k there (lawful_bytes s (lawful_at elements f.element s lawful there)) cc

-- a part of a lawful element is lawful
part_lawful : (n : ℕ) (ss : Spaces) (k : ℕ) (p : Piece) → AreLawful ss → piece_from n ss k ≡ Some p → IsLawful p.space
part_lawful n no_spaces k p h e = cc
part_lawful n (space s ss) zero p h e =
    let same : record { before = n; space = s } ≡ p = cc in
    subst (λ (x : Piece). IsLawful x.space) same h.0
part_lawful n (space s ss) (suc k) p h e = part_lawful (n + length (scalars s)) ss k p h.1 e

piece_lawful : (s : Space) (k : ℕ) (p : Piece) → IsLawful s → piece_of s k ≡ Some p → IsLawful p.space
piece_lawful (scalar f c q) k p h e = cc
piece_lawful (vector s n) k p h e = cc
piece_lawful (tensor s m n) k p h e = cc
piece_lawful (mixed ss) k p h e = part_lawful 0 ss k p h.0 e

sub_function : (elements : Table) (f : Function) (s : Space) (k : Kind) → slice_get elements f.element ≡ Some s → IsLawful s → (n : ℕ) (o : Option Piece) → piece_of s n ≡ o
    → piece_kind (Some s) o ≡ Ok k → IsSizedFunction elements f k
sub_function elements f s k there lawful n None e h = cc
sub_function elements f s k there lawful n (Some p) e h =
    is_function elements f s (element_shape p.space) k there (lawful_bytes p.space (piece_lawful s n p lawful e)) cc

part_function : (elements : Table) (f : Function) (n : ℕ) (k : Kind) → IsLawfulTable elements → (o : Option Space) → o ≡ space_in elements f
    → piece_kind o (sub_element o n) ≡ Ok k → IsSizedFunction elements f k
part_function elements f n k lawful None e h = cc
part_function elements f n k lawful (Some s) e h =
    let there = for_role f.role (slice_get elements f.element) s (sym e) in
    sub_function elements f s k there (lawful_at elements f.element s lawful there) n (piece_of s n) refl h

-- ---- numbers
identity_bytes : (b : Bool) (n : ℕ) (k : Kind) → nat_le 1 n && nat_le n 64 ≡ b → (if b then Ok (record { shape = n ∷ n ∷ []; free = []; cell = None }) else Err OfKind) ≡ Ok k
    → AreBytes k.shape × HaveByteSizes k.free
identity_bytes true n k e h =
    let is : record { shape = n ∷ n ∷ []; free = []; cell = None } ≡ k = cc in
    let small = leb-true n 64 (both_true (nat_le 1 n) (nat_le n 64) e).1 in
    let byte : n ≤ 255 = omega (arith, small) in
    (subst (λ (x : Kind). AreBytes x.shape) is (byte, (byte, tt)), subst (λ (x : Kind). HaveByteSizes x.free) is tt)
identity_bytes false n k e h = cc

-- ---- the direction of a derivative
along_choice : (b : Bool) (s t : List ℕ) → shape_if b s ≡ Ok t → s ≡ t
along_choice b s t h = (if_shape b s t h).shape

along_shape_is : (c : Option Cell) (i : Ix) (s t : List ℕ) → in_dimension (dimension_of c) (along_shape i s) ≡ Ok t → s ≡ t
along_shape_is None i s t h = cc
along_shape_is (Some c) i s t h = along_choice (is_within i (dimension c)) s t h

-- ---- lists
abbrev AreSized : List Kind → Type 0
AreSized [] = Unit {0}
AreSized (k ∷ ks) = AreBytes k.shape × HaveByteSizes k.free × AreSized ks

abbrev HaveRanks : ℕ → List Kind → Type 0
HaveRanks n [] = Unit {0}
HaveRanks n (k ∷ ks) = (n ≤ length k.shape) × HaveRanks n ks

item_choice : (b : Bool) (s : List ℕ) (k : Kind) (ks : List Kind) → same_shape k.shape s ≡ b → (if b then have_shape s ks else false) ≡ true
    → (length s ≤ length k.shape) × (have_shape s ks ≡ true)
item_choice true s k ks e h = (omega (arith, same_length k.shape s e), h)
item_choice false s k ks e h = cc

all_ranks : (s : List ℕ) (ks : List Kind) → have_shape s ks ≡ true → HaveRanks (length s) ks
all_ranks s [] h = tt
all_ranks s (k ∷ ks) h =
    let c = item_choice (same_shape k.shape s) s k ks refl h in
    (c.0, all_ranks s ks c.1)

-- what a list is known to be by its row
record IsList (ks : List Kind) (k : Kind) : Type 0 where
  rank : ℕ
  length : length k.shape ≡ suc rank
  ranks : HaveRanks rank ks
  bytes : AreSized ks → AreBytes k.shape
  sizes : AreSized ks → HaveByteSizes k.free
  cell : cell_behind None ks ≡ Ok k.cell

is_list : (ks : List Kind) (k : Kind) → list_kind ks ≡ Ok k → IsList ks k
is_list [] k h = let K = is_kind (cell_behind None []) (list_shape []) (list_free []) k h in let e = K.shape in cc
is_list (x ∷ ks) k h =
    let K = is_kind (cell_behind None (x ∷ ks)) (list_shape (x ∷ ks)) (list_free (x ∷ ks)) k h in
    let S = if_shape (nat_le (length (x ∷ ks)) 255 && have_shape x.shape ks) (length (x ∷ ks) ∷ x.shape) k.shape K.shape in
    let T = both_true (nat_le (length (x ∷ ks)) 255) (have_shape x.shape ks) S.test in
    record {
      rank = length x.shape;
      length = sym (ap length S.shape);
      ranks = (omega arith, all_ranks x.shape ks T.1);
      bytes = λ p. subst AreBytes S.shape (leb-true (length (x ∷ ks)) 255 T.0, p.0);
      sizes = λ p. subst HaveByteSizes (equal_choice (have_free x.free ks) x.free k.free K.free) p.1;
      cell = K.cell;
    }

-- ---- trees
record Fits (elements : Table) (e : Typed) : Type 0 where
  fits : IsFitting elements e
  bytes : AreBytes (shape_of e)
  sizes : HaveByteSizes (free_of e)

-- the items of a list of kind k behind others, whose cell is c
record Fit (elements : Table) (c : Option Cell) (k : Kind) (ts : TypedList) : Type 0 where
  fits : AreFitting elements k ts
  along : Along c k.cell
  sized : AreSized (kinds_of ts)

mutual
  unfolding IsTyped FitsTable

  fits : (elements : Table) → IsLawfulTable elements → (e : Typed) → IsTyped e → FitsTable elements e → HasByteLabels e → Fits elements e
  fits elements lawful (number k c) t f l =
      record { fits = tt; bytes = subst (λ (x : Kind). AreBytes x.shape) (sym t) tt; sizes = subst (λ (x : Kind). HaveByteSizes x.free) (sym t) tt }
  fits elements lawful (identity k n) t f l = let b = identity_bytes (nat_le 1 n && nat_le n 64) n k refl t in record { fits = tt; bytes = b.0; sizes = b.1 }
  fits elements lawful (function k g) t f l =
      let F = whole_function elements g k lawful (space_in elements g) refl f in record { fits = F.along; bytes = F.bytes; sizes = F.sizes }
  fits elements lawful (piece k g n) t f l =
      let F = part_function elements g n k lawful (space_in elements g) refl f in record { fits = F.along; bytes = F.bytes; sizes = F.sizes }
  fits elements lawful (one k op a) t f l =
      let A = fits elements lawful a t.1 f l in
      let K = is_kind _ (one_shape op (shape_of a) (own_kind a).cell) _ k t.0 in
      record {
        fits = (one_rank op (shape_of a) (own_kind a).cell k.shape K.shape A.bytes, along_same (own_kind a).cell k.cell (ok_cell _ _ K.cell), A.fits);
        bytes = one_bytes op (shape_of a) (own_kind a).cell k.shape K.shape A.bytes;
        sizes = subst HaveByteSizes (ok_free _ _ K.free) A.sizes;
      }
  fits elements lawful (two k op a b) t f l =
      let A = fits elements lawful a t.1 f.0 l.0 in
      let B = fits elements lawful b t.2 f.1 l.1 in
      let K = is_kind (joined_cell (own_kind a).cell (own_kind b).cell) (two_shape op (shape_of a) (shape_of b)) (two_free op (free_of a) (free_of b)) k t.0 in
      let along = joined_along (own_kind a).cell (own_kind b).cell k.cell K.cell in
      record {
        fits = (two_rank op (shape_of a) (shape_of b) k.shape K.shape, along.0, along.1, A.fits, B.fits);
        bytes = two_bytes op (shape_of a) (shape_of b) k.shape K.shape A.bytes B.bytes;
        sizes = two_sizes op (free_of a) (free_of b) k.free K.free A.sizes B.sizes;
      }
  fits elements lawful (power k a n) t f l =
      let A = fits elements lawful a t.2 f l in
      let K = is_kind _ (shape_if (is_scalar (shape_of a)) []) (none_free (free_of a)) k t.0 in
      record {
        fits = (along_same (own_kind a).cell k.cell (ok_cell _ _ K.cell), A.fits);
        bytes = subst AreBytes (if_shape (is_scalar (shape_of a)) [] k.shape K.shape).shape tt;
        sizes = none_sizes (free_of a) k.free K.free;
      }
  fits elements lawful (index k a at) t f l =
      let A = fits elements lawful a t.1 f l in
      let K = is_kind _ (rest_shape at (shape_of a)) (joined_free (free_of a ++ named at (shape_of a))) k t.0 in
      record {
        fits = (rest_rank at (shape_of a) k.shape K.shape, along_same (own_kind a).cell k.cell (ok_cell _ _ K.cell), A.fits);
        bytes = rest_bytes at (shape_of a) k.shape K.shape A.bytes;
        sizes = index_sizes (free_of a) k.free at (shape_of a) K.free A.sizes A.bytes;
      }
  fits elements lawful (partial k a i) t f l =
      let A = fits elements lawful a t.1 f l in
      let K = is_kind _ (in_dimension (dimension_of (own_kind a).cell) (along_shape i (shape_of a))) (joined_free (free_of a ++ direction i (own_kind a).cell)) k t.0 in
      let same = along_shape_is (own_kind a).cell i (shape_of a) k.shape K.shape in
      record {
        fits = (omega (arith, ap length same), along_same (own_kind a).cell k.cell (ok_cell _ _ K.cell), A.fits);
        bytes = subst AreBytes same A.bytes;
        sizes = partial_sizes (free_of a) k.free i (own_kind a).cell K.free A.sizes;
      }
  fits elements lawful (tensor k a by) t f l =
      let A = fits elements lawful a t.1 f l in
      let K = is_kind _ (shape_if (is_scalar (shape_of a)) (sizes_of by (free_of a))) (bound by (free_of a)) k t.0 in
      record {
        fits = (along_same (own_kind a).cell k.cell (ok_cell _ _ K.cell), A.fits);
        bytes = subst AreBytes (if_shape (is_scalar (shape_of a)) (sizes_of by (free_of a)) k.shape K.shape).shape (sizes_bytes by (free_of a) A.sizes);
        sizes = bound_sizes by (free_of a) k.free K.free A.sizes;
      }
  fits elements lawful (list k ts) t f l =
      let L = is_list (kinds_of ts) k t.0 in
      let I = all_fit elements lawful None k ts L.rank (omega (arith, L.length)) L.ranks L.cell t.1 f l in
      record { fits = I.fits; bytes = L.bytes I.sized; sizes = L.sizes I.sized }
  fits elements lawful (variable k n a) t f l =
      let A = fits elements lawful a t.1 f l in
      let K = is_kind (variable_cell (has_argument a) (own_kind a).cell) _ (none_free (free_of a)) k t.0 in
      let same = ok_shape (shape_of a) k.shape K.shape in
      record {
        fits = (omega (arith, ap length same), variable_along (has_argument a) (own_kind a).cell k.cell K.cell, A.fits);
        bytes = subst AreBytes same A.bytes;
        sizes = none_sizes (free_of a) k.free K.free;
      }
  fits elements lawful (diff k n by a) t f l =
      let A = fits elements lawful a t.1 f l.1 in
      record {
        fits = (along_same (own_kind a).cell k.cell (sym (ap (λ (x : Kind). x.cell) t.0)), A.fits);
        bytes = subst (λ (x : Kind). AreBytes x.shape) (sym t.0) (bytes_append (shape_of a) by A.bytes l.0);
        sizes = subst (λ (x : Kind). HaveByteSizes x.free) (sym t.0) A.sizes;
      }

  all_fit : (elements : Table) → IsLawfulTable elements → (c : Option Cell) (k : Kind) (ts : TypedList) (n : ℕ) → length k.shape ≤ suc n → HaveRanks n (kinds_of ts)
      → cell_behind c (kinds_of ts) ≡ Ok k.cell → AreTyped ts
      → EachFunctionOfAll (λ k f. function_in elements f ≡ Ok k) (λ k f n. piece_in elements f n ≡ Ok k) ts → HaveByteLabels ts → Fit elements c k ts
  all_fit elements lawful c k no_items n m r same t f l = record { fits = tt; along = along_same c k.cell (ok_cell c k.cell same); sized = tt }
  all_fit elements lawful c k (item e ts) n m r same t f l =
      let E = fits elements lawful e t.0 f.0 l.0 in
      let F = is_further (joined_cell c (own_kind e).cell) (λ x. cell_behind x (kinds_of ts)) k.cell same in
      let R = all_fit elements lawful F.cell k ts n m r.1 F.rest t.1 f.1 l.1 in
      let along = joined_along c (own_kind e).cell F.cell F.first in
      record {
        fits = (omega (arith, m, r.0), omega (arith, along.1, R.along), E.fits, R.fits);
        along = omega (arith, along.0, R.along);
        sized = (E.bytes, E.sizes, R.sized);
      }

pub fitting : (elements : Table) → IsLawfulTable elements → (e : Typed) → IsTyped e → FitsTable elements e → HasByteLabels e → IsFitting elements e
fitting elements lawful e t f l = (fits elements lawful e t f l).fits

-- ---- forms
pub parts_fitting : (elements : Table) → IsLawfulTable elements → (f : FormTerm) → FormTyped f → FormFits elements f → HaveByteParts f → ArePartsFitting elements f
unfolding FormTyped FormFits
parts_fitting elements lawful (integral m e) t f l = fitting elements lawful e t f l
parts_fitting elements lawful (sum a b) t f l = (parts_fitting elements lawful a t.0 f.0 l.0, parts_fitting elements lawful b t.1 f.1 l.1)
parts_fitting elements lawful (scale c a) t f l = parts_fitting elements lawful a t f l
parts_fitting elements lawful (left a) t f l = parts_fitting elements lawful a t f l
parts_fitting elements lawful (right a) t f l = parts_fitting elements lawful a t f l
parts_fitting elements lawful (action a last g) t f l = (parts_fitting elements lawful a t f.0 l.0, tt)
parts_fitting elements lawful (adjoint a) t f l = parts_fitting elements lawful a t f l
parts_fitting elements lawful (derivative a w du) t f l = (parts_fitting elements lawful a t f.0 l.0, tt, tt)
