-- How many scalar parts the trees of elements have
use Rattle.std.proofs.Common.{◌≡◌, ℕ, zero, suc, ◌+◌, ◌-◌, ◌*◌, ◌^◌, ◌<◌, ◌≤◌, min, true, true≢false, None, Some, Ok, Err, slice_get, List, [], ◌∷◌, length, drop, get_or, refl, sym, ap, ◌∙◌, subst, length-append, arith}
use Rattle.spaces.specs.declared.cell.Cell.{Cell}
use Rattle.spaces.specs.declared.family.Family.{Family}
use Rattle.spaces.specs.declared.element_tree.ElementTree.{ElementTree}
use Rattle.spaces.specs.declared.element_tree.ElementTree.TheVariants as v
use Rattle.spaces.specs.Scalar.{repeated}
use Rattle.spaces.specs.Space.{Space, scalar, vector, tensor, mixed, Spaces, no_spaces, space, is_scalar, scalars, scalars_of, cell_of, IsLawful, AreLawful}
use Rattle.spaces.specs.Reading.{space_of, spaces_in}
use Rattle.spaces.proofs.ReadingLaws.{space_of-Scalar, space_of-Vector, space_of-Tensor, space_of-Mixed}
use Rattle.spaces.proofs.SpaceLaws.{length-repeated, drop_spaces}
use Rattle.std.proofs.lemmas.List.{drop_all}
use Rattle.ufl_expr.specs.Few.{AreFew}
use Rattle.ufl_tree.specs.declared.function.Free.{Free}
use Rattle.ufl_tree.specs.Places.{element_shape, piece_from, piece_of}
use Rattle.ufl_expr.specs.declared.refusal.TypeRefusal.TheVariants.{Kind as OfKind}
use Rattle.ufl_expr.specs.Elements.{piece_kind}

-- what a count says of a space
pub record Counts (n : ℕ) (s : Space) : Type 0 where
  pub count : n ≡ length (scalars s)
  pub few : n ≤ 64

counts_same : (n : ℕ) (s t : Space) → s ≡ t → Counts n t → Counts n s
counts_same n s t e c = subst (λ x. Counts n x) (sym e) c

block_count : (s : Space) (n : ℕ) → is_scalar s ≡ true → n ≡ length (repeated n (scalars s))
block_count (scalar f c q) n h = omega (arith, length-repeated n (scalars (scalar f c q)))
block_count (vector s m) n h = absurd (true≢false (sym h))
block_count (tensor s k l) n h = absurd (true≢false (sym h))
block_count (mixed ss) n h = absurd (true≢false (sym h))

pub counts_Scalar : (t : ElementTree) (f : Family) (c : Cell) (q : ℕ) → t ≡ v.Scalar f c q → Counts 1 (space_of t)
counts_Scalar t f c q e = counts_same 1 (space_of t) (scalar f c q) (ap space_of e ∙ space_of-Scalar f c q) (record { count = refl; few = omega arith })

pub counts_Vector : (t p : ElementTree) (n : ℕ) → t ≡ v.Vector p n → IsLawful (space_of t) → Counts n (space_of t)
counts_Vector t p n e h =
    let is : space_of t ≡ vector (space_of p) n = ap space_of e ∙ space_of-Vector p n in
    let k : IsLawful (vector (space_of p) n) = subst IsLawful is h in
    counts_same n (space_of t) (vector (space_of p) n) is (record { count = block_count (space_of p) n k.1; few = k.3 })

pub counts_Tensor : (t p : ElementTree) (m n : ℕ) → t ≡ v.Tensor p m n → IsLawful (space_of t) → Counts (m * n) (space_of t)
counts_Tensor t p m n e h =
    let is : space_of t ≡ tensor (space_of p) m n = ap space_of e ∙ space_of-Tensor p m n in
    let k : IsLawful (tensor (space_of p) m n) = subst IsLawful is h in
    counts_same (m * n) (space_of t) (tensor (space_of p) m n) is (record { count = block_count (space_of p) (m * n) k.1; few = k.3 })

pub parts_Mixed : (t : ElementTree) (ts us : List ElementTree) → t ≡ v.Mixed ts → us ≡ ts → IsLawful (space_of t) → AreFew (spaces_in us)
parts_Mixed t ts us e same h =
    let k : IsLawful (mixed (spaces_in ts)) = subst IsLawful (ap space_of e ∙ space_of-Mixed ts) h in
    subst (λ x. AreFew (spaces_in x)) (sym same) (record { lawful = k.0; few = k.3 })

pub counts_Mixed : (t : ElementTree) (ts us : List ElementTree) (n : ℕ) → t ≡ v.Mixed ts → us ≡ ts
    → (AreFew (spaces_in us) → n ≡ length (scalars_of (spaces_in us))) → IsLawful (space_of t) → Counts n (space_of t)
counts_Mixed t ts us n e same count h =
    let p : AreFew (spaces_in us) = parts_Mixed t ts us e same h in
    let is : n ≡ length (scalars_of (spaces_in us)) = count p in
    counts_same n (space_of t) (mixed (spaces_in us)) (ap space_of e ∙ space_of-Mixed ts ∙ ap (λ x. mixed (spaces_in x)) (sym same))
    (record { count = is; few = subst (λ x. x ≤ 64) (sym is) p.few })

-- a lawful space has at most 64 scalar parts
pub lawful_few : (s : Space) → IsLawful s → length (scalars s) ≤ 64
lawful_few (scalar f c q) h = omega arith
lawful_few (vector s n) h = let e = block_count s n h.1 in omega (arith, e, h.3)
lawful_few (tensor s m n) h = let e = block_count s (m * n) h.1 in omega (arith, e, h.3)
lawful_few (mixed ss) h = h.3

-- ---- a list, tree by tree
pub record Left (n : ℕ) (left all : Spaces) : Type 0 where
  pub lawful : AreLawful left
  pub count : n + length (scalars_of left) ≡ length (scalars_of all)

-- where all of the list is lawful
abbrev pub Counting : ℕ → Spaces → Spaces → Type 0
Counting n left all = AreFew all → Left n left all

pub counting_start : (all : Spaces) → Counting 0 all all
counting_start all few = record { lawful = few.lawful; count = omega arith }

left_item : (n m : ℕ) (s : Space) (left rest all : Spaces) → left ≡ space s rest → (IsLawful s → m ≡ length (scalars s)) → Left n left all → Left (n + m) rest all
left_item n m s left rest all is count l =
    let k : AreLawful (space s rest) = subst AreLawful is l.lawful in
    record { lawful = k.1; count = omega (arith, count k.0, ap (λ x. length (scalars_of x)) is, length-append (scalars s) (scalars_of rest), l.count) }

left_same : (n m : ℕ) (left all : Spaces) → n ≡ m → Left n left all → Left m left all
left_same n m left all e l = subst (λ x. Left x left all) e l

pub counting_step : (n m r : ℕ) (ts : List ElementTree) (i : ℕ) (t : ElementTree) (all : Spaces) → i < length ts → t ≡ get_or ts i t
    → (IsLawful (space_of t) → m ≡ length (scalars (space_of t))) → r ≡ min (n + m) (2 ^ 32 - 1)
    → Counting n (spaces_in (drop i ts)) all → Counting r (spaces_in (drop (i + 1) ts)) all
counting_step n m r ts i t all h e count sum c few =
    let l : Left (n + m) (spaces_in (drop (i + 1) ts)) all =
    left_item n m (space_of t) (spaces_in (drop i ts)) (spaces_in (drop (i + 1) ts)) all (drop_spaces ts i t h e) count (c few) in
    let small : length (scalars_of all) ≤ 64 = few.few in
    let same : n + m ≡ r = omega (arith, sum, l.count, small) in
    left_same (n + m) r (spaces_in (drop (i + 1) ts)) all same l

pub counting_end : (n i : ℕ) (ts : List ElementTree) (all : Spaces) → length ts ≤ i → Counting n (spaces_in (drop i ts)) all → AreFew all → n ≡ length (scalars_of all)
counting_end n i ts all h c few =
    let l : Left n no_spaces all = subst (λ x. Left n (spaces_in x) all) (drop_all i ts h) (c few) in
    let e : n + 0 ≡ length (scalars_of all) = l.count in
    omega (arith, e)

-- ---- parts of mixed elements
part_there : (s : Space) (ts : List ElementTree) (n k : ℕ) (t : ElementTree) → slice_get ts k ≡ Some t
    → piece_kind (Some s) (piece_from n (spaces_in ts) k) ≡ Ok (record { shape = element_shape (space_of t); free = []; cell = Some (cell_of s) })
part_there s [] n k t h = cc
part_there s (x ∷ ts) n zero t h =
    let same : x ≡ t = cc in
    ap (λ y. Ok (record { shape = element_shape (space_of y); free = []; cell = Some (cell_of s) })) same
part_there s (x ∷ ts) n (suc k) t h = part_there s ts (n + length (scalars (space_of x))) k t h

part_missing : (s : Space) (ts : List ElementTree) (n k : ℕ) → slice_get ts k ≡ None → piece_kind (Some s) (piece_from n (spaces_in ts) k) ≡ Err OfKind
part_missing s [] n k h = refl
part_missing s (x ∷ ts) n zero h = cc
part_missing s (x ∷ ts) n (suc k) h = part_missing s ts (n + length (scalars (space_of x))) k h

mixed_of : (e : ElementTree) (ts us : List ElementTree) → e ≡ v.Mixed ts → us ≡ ts → space_of e ≡ mixed (spaces_in us)
mixed_of e ts us is same = ap space_of is ∙ space_of-Mixed ts ∙ ap (λ x. mixed (spaces_in x)) (sym same)

pub mixed_part : (e : ElementTree) (ts us : List ElementTree) (k : ℕ) (t : ElementTree) (shape : List ℕ) (free : List Free) (cell : Cell) → e ≡ v.Mixed ts → us ≡ ts
    → slice_get us k ≡ Some t → shape ≡ element_shape (space_of t) → free ≡ [] → cell ≡ cell_of (space_of e)
    → piece_kind (Some (space_of e)) (piece_of (space_of e) k) ≡ Ok (record { shape = shape; free = free; cell = Some cell })
mixed_part e ts us k t shape free cell is same there a b c =
    ap (λ x. piece_kind (Some (space_of e)) (piece_of x k)) (mixed_of e ts us is same)
    ∙ part_there (space_of e) us 0 k t there
    ∙ ap (λ x. Ok (record { shape = x; free = []; cell = Some (cell_of (space_of e)) })) (sym a)
    ∙ ap (λ y. Ok (record { shape = shape; free = y; cell = Some (cell_of (space_of e)) })) (sym b)
    ∙ ap (λ z. Ok (record { shape = shape; free = free; cell = Some z })) (sym c)

pub mixed_none : (e : ElementTree) (ts us : List ElementTree) (k : ℕ) → e ≡ v.Mixed ts → us ≡ ts → slice_get us k ≡ None
    → piece_kind (Some (space_of e)) (piece_of (space_of e) k) ≡ Err OfKind
mixed_none e ts us k is same h = ap (λ x. piece_kind (Some (space_of e)) (piece_of x k)) (mixed_of e ts us is same) ∙ part_missing (space_of e) us 0 k h

-- a part of a lawful list is lawful
pub part_lawful : (ts : List ElementTree) (k : ℕ) (t : ElementTree) → slice_get ts k ≡ Some t → AreLawful (spaces_in ts) → IsLawful (space_of t)
part_lawful [] k t h l = cc
part_lawful (x ∷ ts) zero t h l = let same : x ≡ t = cc in subst (λ y. IsLawful (space_of y)) same l.0
part_lawful (x ∷ ts) (suc k) t h l = part_lawful ts k t h l.1
