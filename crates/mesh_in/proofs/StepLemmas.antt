-- What one line of a point or a cell adds
use Rattle.std.proofs.Common.{◌≡◌, ℕ, zero, suc, ◌+◌, ◌*◌, ◌<◌, true, eqb, List, [], ◌∷◌, ◌++◌, length, drop, Option, Some, None, Result, Ok, Err, refl, sym, ap, subst, ◌∙◌, arith}
use Rattle.std.specs.Prelude.{map}
use Rattle.std.specs.List.{AllByRecursion}
use Rattle.std.proofs.lemmas.Bool.{lt-ltb, le-ltb, ne_eqb, eq-eqb}
use Rattle.std.proofs.lemmas.List.{length-append, length-map}
use Rattle.std.proofs.Math.Bool.{and-false}
use Rattle.std.proofs.Math.Seq.{drop-append_seam}
use Rattle.algebra.specs.Fraction.{Fraction}
use Rattle.ratio.specs.declared.reduced.Ratio.{Ratio}
use Rattle.ratio.specs.Value.{fraction_of}
use Rattle.spaces.specs.Cell.{dimension}
use Rattle.mesh_in.specs.declared.header.Header.{Header}
use Rattle.mesh_in.specs.declared.refusal.MeshKind.{MeshKind}
use Rattle.mesh_in.specs.declared.refusal.MeshRefusal.{MeshRefusal}
use Rattle.mesh_in.specs.declared.refusal.MeshKind.TheVariants.{Syntax}
use Rattle.mesh_in.specs.CellLine.{cell_size, vertices_in, IsCellLine}
use Rattle.mesh_in.specs.Number.{number_of}
use Rattle.mesh_in.specs.NumberReading.{coordinate_of}
use Rattle.mesh_in.specs.MeshData.{MeshData, are_below, is_distinct, fractions, rows}
use Rattle.mesh_in.specs.MeshText.{row, Said, nothing, begun, after_header, header_of, after_cell, after_row, at_line, mesh_of, complete, IsOpen}
use Rattle.mesh_in.specs.Options.{◌>>=◌}
use Rattle.mesh_in.specs.Reader.{appended, points_of, IsRefusedBy}
use Rattle.mesh_in.specs.Storage.{stored}
use Rattle.mesh_in.proofs.CellLineLemmas.{line_of_cell}
use Rattle.mesh_in.proofs.RowLemmas.{length-rows, rows_push, map-rows}

-- what was appended
added : {A : Type 0} (old new : List A) (more : Option (List A)) → appended old more ≡ Some new → (xs : List A) × (more ≡ Some xs) × (new ≡ old ++ xs)
added old new None e = absurd cc
added old new (Some xs) e = (xs, refl, cc)

bind_some : {A B : Type 0} (o : Option A) (f : A → Option B) (y : B) → (o >>= f) ≡ Some y → (x : A) × (o ≡ Some x) × (f x ≡ Some y)
bind_some None f y e = absurd cc
bind_some (Some x) f y e = (x, refl, e)

some_is : {A : Type 0} (x y : A) → Some x ≡ Some y → x ≡ y
some_is x y e = cc

pub length-row : {A : Type 0} (of : List ℕ → Option A) (n : ℕ) (ws : List (List ℕ)) (xs : List A) → row of n ws ≡ Some xs → length xs ≡ n
unfolding row
length-row of zero [] xs e = ap length (sym (some_is [] xs e))
length-row of zero (w ∷ ws) xs e = absurd cc
length-row of (suc n) [] xs e = absurd cc
length-row of (suc n) (w ∷ ws) xs e =
    let p = bind_some (of w) (λ x. row of n ws >>= λ ys. Some (x ∷ ys)) xs e in
    let q = bind_some (row of n ws) (λ ys. Some (p.0 ∷ ys)) xs p.2 in
    ap length (sym (some_is (p.0 ∷ q.0) xs q.2)) ∙ ap suc (length-row of n ws q.0 q.1)

pub cell_pushed : (h : Header) (old new vertices : List ℕ) (ws : List (List ℕ)) → appended old (row number_of (cell_size h) ws) ≡ Some new → vertices ≡ vertices_in h.kind (drop (length old) new)
    → are_below h.vertices vertices ≡ true → is_distinct vertices ≡ true → (cell : List ℕ) × (new ≡ old ++ cell) × IsCellLine h cell × (row number_of (cell_size h) ws ≡ Some cell)
cell_pushed h old new vertices ws appends are below distinct =
    let p = added old new (row number_of (cell_size h) ws) appends in
    let e : vertices ≡ vertices_in h.kind p.0 = are ∙ ap (vertices_in h.kind) (ap (drop (length old)) p.2 ∙ drop-append_seam old p.0) in
    (p.0, p.2, line_of_cell h p.0 (length-row number_of (cell_size h) ws p.0 p.1) (subst (λ c. are_below h.vertices c ≡ true) e below) (subst (λ c. is_distinct c ≡ true) e distinct), p.1)

pub length-read : (h : Header) (old new : List ℕ) (ws : List (List ℕ)) → appended old (row number_of (cell_size h) ws) ≡ Some new → length (drop (length old) new) ≡ cell_size h
length-read h old new ws appends =
    let p = added old new (row number_of (cell_size h) ws) appends in
    ap length (ap (drop (length old)) p.2 ∙ drop-append_seam old p.0) ∙ length-row number_of (cell_size h) ws p.0 p.1

-- ---- points

-- after so many points, of which more must come
pub open_points : (h : Header) (points : List (List Fraction)) → length points < h.vertices → IsOpen (begun h points [])
open_points h points lt number = rw (ne_eqb (length points) h.vertices (λ e. omega arith)) refl

pub open_at : (h : Header) (count : ℕ) (coordinates : List Ratio) → count < h.vertices → IsOpen (begun h (points_of h count coordinates) [])
open_at h count coordinates lt = open_points h (points_of h count coordinates) (omega (arith, length-rows (dimension h.kind) count (map fraction_of coordinates)))

no_point_after : (h : Header) (points : List (List Fraction)) (ws : List (List ℕ)) → length points < h.vertices → row coordinate_of (dimension h.kind) ws ≡ None → after_row (begun h points []) ws ≡ Err Syntax
unfolding after_row
no_point_after h points ws lt none = rw (lt-ltb (length points) h.vertices lt, none) refl

pub no_point : (h : Header) (count : ℕ) (coordinates : List Ratio) (ws : List (List ℕ)) → count < h.vertices → row coordinate_of (dimension h.kind) ws ≡ None → after_row (begun h (points_of h count coordinates) []) ws ≡ Err Syntax
no_point h count coordinates ws lt none = no_point_after h (points_of h count coordinates) ws (omega (arith, length-rows (dimension h.kind) count (map fraction_of coordinates))) none

one_point : (h : Header) (points : List (List Fraction)) (ws : List (List ℕ)) (point : List Fraction) → length points < h.vertices → row coordinate_of (dimension h.kind) ws ≡ Some point → after_row (begun h points []) ws ≡ Ok (begun h (points ++ point ∷ []) [])
unfolding after_row
one_point h points ws point lt some = rw (lt-ltb (length points) h.vertices lt, some) refl

more_rows : (width count : ℕ) → width + count * width ≡ (count + 1) * width
more_rows width count = grind arith

pub record NextPoint (h : Header) (count : ℕ) (old new : List Ratio) (ws : List (List ℕ)) : Type 0 where
  pub fit : length new ≡ (count + 1) * dimension h.kind
  pub says : after_row (begun h (points_of h count old) []) ws ≡ Ok (begun h (points_of h (count + 1) new) [])

pub next_point : (h : Header) (count : ℕ) (old new : List Ratio) (ws : List (List ℕ)) → count < h.vertices → length old ≡ count * dimension h.kind
    → appended (map fraction_of old) (row coordinate_of (dimension h.kind) ws) ≡ Some (map fraction_of new) → NextPoint h count old new ws
next_point h count old new ws lt fit appends =
    let p = added (map fraction_of old) (map fraction_of new) (row coordinate_of (dimension h.kind) ws) appends in
    let wide : length p.0 ≡ dimension h.kind = length-row coordinate_of (dimension h.kind) ws p.0 p.1 in
    let before : length (map fraction_of old) ≡ count * dimension h.kind = length-map old fraction_of ∙ fit in
    let room : length (points_of h count old) < h.vertices = omega (arith, length-rows (dimension h.kind) count (map fraction_of old)) in
    let sum : length (map fraction_of new) ≡ length (map fraction_of old) + length p.0 = ap length p.2 ∙ length-append (map fraction_of old) p.0 in
    record {
      fit = omega (arith, length-map new fraction_of, more_rows (dimension h.kind) count);
      says = one_point h (points_of h count old) ws p.0 room p.1
          ∙ ap (λ points. Ok (begun h points [])) (sym (ap (rows (dimension h.kind) (count + 1)) p.2 ∙ rows_push (dimension h.kind) count (map fraction_of old) p.0 before wide));
    }

-- ---- cells

-- after all points and so many cells, of which more must come
pub open_cells : (h : Header) (points : List (List Fraction)) (count : ℕ) (numbers : List ℕ) → length points ≡ h.vertices → count < h.cells → IsOpen (begun h points (rows (cell_size h) count numbers))
open_cells h points count numbers all lt number =
    rw (ne_eqb (length (rows (cell_size h) count numbers)) h.cells (λ e. omega (arith, length-rows (cell_size h) count numbers)), and-false (eqb (length points) h.vertices)) refl

pub at_cell : (h : Header) (points : List (List Fraction)) (count : ℕ) (numbers : List ℕ) (ws : List (List ℕ)) → length points ≡ h.vertices → count < h.cells
    → after_row (begun h points (rows (cell_size h) count numbers)) ws ≡ after_cell h points (rows (cell_size h) count numbers) (row number_of (cell_size h) ws)
unfolding after_row
at_cell h points count numbers ws all lt =
    rw (le-ltb (length points) h.vertices (omega arith), lt-ltb (length (rows (cell_size h) count numbers)) h.cells (omega (arith, length-rows (cell_size h) count numbers))) refl

all_push : {A : Type 0} (P : A → Type 0) (xs : List A) (x : A) → AllByRecursion P xs → P x → AllByRecursion P (xs ++ x ∷ [])
all_push P [] x all here = (here, tt)
all_push P (y ∷ ys) x all here = (all.0, all_push P ys x all.1 here)

pub record NextCell (h : Header) (count : ℕ) (old new : List ℕ) (ws : List (List ℕ)) : Type 0 where
  pub fit : length new ≡ (count + 1) * cell_size h
  pub cells : AllByRecursion (IsCellLine h) (rows (cell_size h) (count + 1) new)
  pub says : (points : List (List Fraction)) → length points ≡ h.vertices → after_row (begun h points (rows (cell_size h) count old)) ws ≡ Ok (begun h points (rows (cell_size h) (count + 1) new))

good_cell : (h : Header) (points : List (List Fraction)) (cells : List (List ℕ)) (cell : List ℕ) → IsCellLine h cell → after_cell h points cells (Some cell) ≡ Ok (begun h points (cells ++ cell ∷ []))
good_cell h points cells cell good = rw (good.cell.in_range, good.cell.distinct) refl

pub next_cell : (h : Header) (count : ℕ) (old new cell : List ℕ) (ws : List (List ℕ)) → count < h.cells → length old ≡ count * cell_size h → AllByRecursion (IsCellLine h) (rows (cell_size h) count old)
    → new ≡ old ++ cell → IsCellLine h cell → row number_of (cell_size h) ws ≡ Some cell → NextCell h count old new ws
next_cell h count old new cell ws lt fit cells is_new good is_row =
    let more : rows (cell_size h) (count + 1) new ≡ rows (cell_size h) count old ++ cell ∷ [] = ap (rows (cell_size h) (count + 1)) is_new ∙ rows_push (cell_size h) count old cell fit good.size in
    let sum : length new ≡ length old + length cell = ap length is_new ∙ length-append old cell in
    record {
      fit = sum ∙ omega (arith, more_rows (cell_size h) count, good.size);
      cells = rw more (all_push (IsCellLine h) (rows (cell_size h) count old) cell cells good);
      says = λ points all.
          at_cell h points count old ws all lt ∙ ap (after_cell h points (rows (cell_size h) count old)) is_row ∙ good_cell h points (rows (cell_size h) count old) cell good
          ∙ ap (λ cs. Ok (begun h points cs)) (sym more);
    }

-- ---- the end

pub nothing_more : (h : Header) (coordinates : List Ratio) (numbers : List ℕ) (ws : List (List ℕ)) → after_row (begun h (points_of h h.vertices coordinates) (rows (cell_size h) h.cells numbers)) ws ≡ Err Syntax
unfolding after_row
nothing_more h coordinates numbers ws =
    rw (
      le-ltb (length (points_of h h.vertices coordinates)) h.vertices (omega (arith, length-rows (dimension h.kind) h.vertices (map fraction_of coordinates))),
      le-ltb (length (rows (cell_size h) h.cells numbers)) h.cells (omega (arith, length-rows (cell_size h) h.cells numbers)),
    ) refl

pub finished : (h : Header) (coordinates : List Ratio) (numbers : List ℕ) (number : ℕ) → complete number (begun h (points_of h h.vertices coordinates) (rows (cell_size h) h.cells numbers)) ≡ Ok (fractions (stored h coordinates numbers))
finished h coordinates numbers number =
    rw (
      eq-eqb (length (points_of h h.vertices coordinates)) h.vertices (length-rows (dimension h.kind) h.vertices (map fraction_of coordinates)),
      eq-eqb (length (rows (cell_size h) h.cells numbers)) h.cells (length-rows (cell_size h) h.cells numbers),
    )
    (ap (λ (points : List (List Fraction)). Ok (mesh_of h.kind points (rows (cell_size h) h.cells numbers))) (sym (map-rows fraction_of (dimension h.kind) h.vertices coordinates)))

-- ---- one line

pub goes : (number : ℕ) (next : Result Said MeshKind) (said : Said) (rest : Said → Result (MeshData Fraction) MeshRefusal) → next ≡ Ok said → at_line number next rest ≡ rest said
goes number next said rest e = ap (λ r. at_line number r rest) e

pub stops : (number : ℕ) (next : Result Said MeshKind) (e : MeshRefusal) (rest : Said → Result (MeshData Fraction) MeshRefusal) → IsRefusedBy e number next → at_line number next rest ≡ Err e
stops number next e rest p = ap (λ r. at_line number r rest) p.1 ∙ sym (ap Err p.2)

pub header_row : (ws : List (List ℕ)) → after_row nothing ws ≡ after_header (header_of ws)
unfolding after_row
header_row ws = refl
