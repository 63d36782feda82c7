-- What the lines say, one after the other, is what the grammar relates them to
use Rattle.std.proofs.Common.{◌≡◌, ℕ, zero, suc, ◌+◌, ◌<◌, ◌≤◌, Bool, true, false, cond, ltb, List, [], ◌∷◌, ◌++◌, length, Option, Some, None, Result, Ok, Err, refl, sym, ap, subst, ◌∙◌, inl, inr, append_assoc, arith}
use Rattle.std.specs.Prelude.{◌⊎◌}
use Rattle.std.specs.List.{AllByRecursion, AllZip}
use Rattle.std.proofs.lemmas.Bool.{ltb-true, ltb-false, lt-ltb, le-ltb}
use Rattle.std.proofs.lemmas.List.{length-append, append-nil}
use Rattle.algebra.specs.Fraction.{Fraction}
use Rattle.spaces.specs.Cell.{dimension}
use Rattle.mesh_in.specs.declared.header.Header.{Header}
use Rattle.mesh_in.specs.declared.refusal.MeshKind.{MeshKind}
use Rattle.mesh_in.specs.declared.refusal.MeshKind.TheVariants.{Lex, Syntax, VertexRange, RepeatedVertex}
use Rattle.mesh_in.specs.CellLine.{cell_size, vertices_in, IsCellLine}
use Rattle.mesh_in.specs.Line.{content, has_plain_bytes, words}
use Rattle.mesh_in.specs.Number.{number_of}
use Rattle.mesh_in.specs.NumberReading.{coordinate_of}
use Rattle.mesh_in.specs.MeshData.{are_below, is_distinct}
use Rattle.mesh_in.specs.MeshText.{Said, begun, row, after_point, after_cell, after_row, after_words, after_line}
use Rattle.mesh_in.specs.Options.{◌>>=◌}
use Rattle.mesh_in.specs.MeshGrammar.{word_lines, StandsFor, IsNatural, IsRow}
use Rattle.mesh_in.proofs.CellLineLemmas.{line_of_cell}
use Rattle.mesh_in.proofs.NumberTextLemmas.{number_again, number_is}

-- ---- one row

pub bind_some : {A B : Type 0} (o : Option A) (f : A → Option B) (y : B) → (o >>= f) ≡ Some y → (x : A) × (o ≡ Some x) × (f x ≡ Some y)
bind_some None f y e = absurd cc
bind_some (Some x) f y e = (x, refl, e)

pub some_is : {A : Type 0} (x y : A) → Some x ≡ Some y → x ≡ y
some_is x y e = cc

-- a function gives what a relation relates
pub record Gives {A : Type 0} (of : List ℕ → Option A) (R : List ℕ → A → Type 0) : Type 0 where
  pub related : (w : List ℕ) (x : A) → of w ≡ Some x → R w x
  pub again : (w : List ℕ) (x : A) → R w x → of w ≡ Some x

naturals : Gives number_of IsNatural
naturals = record { related = λ w n e. e; again = λ w n e. e }

fractions_of : Gives coordinate_of StandsFor
fractions_of = record {
  related = λ w x e. let n = number_is w x e in record { below_zero = n.0; magnitude = n.1; is_number = n.2; value = sym (number_again w n.0 n.1 n.2) ∙ e };
  again = λ w x s. number_again w s.below_zero s.magnitude s.is_number ∙ s.value;
}

row_related : {A : Type 0} (of : List ℕ → Option A) (R : List ℕ → A → Type 0) → Gives of R → (n : ℕ) (ws : List (List ℕ)) (xs : List A) → row of n ws ≡ Some xs → IsRow R n ws xs
unfolding row
row_related of R g zero [] xs e = subst (λ ys. IsRow R 0 [] ys) (some_is [] xs e) (record { all = refl; each = tt })
row_related of R g zero (w ∷ ws) xs e = absurd cc
row_related of R g (suc n) [] xs e = absurd cc
row_related of R g (suc n) (w ∷ ws) xs e =
    let p = bind_some (of w) (λ x. row of n ws >>= λ ys. Some (x ∷ ys)) xs e in
    let q = bind_some (row of n ws) (λ ys. Some (p.0 ∷ ys)) xs p.2 in
    let rest = row_related of R g n ws q.0 q.1 in
    subst (λ ys. IsRow R (suc n) (w ∷ ws) ys) (some_is (p.0 ∷ q.0) xs q.2) (record { all = ap suc rest.all; each = (g.related w p.0 p.1, rest.each) })

row_again : {A : Type 0} (of : List ℕ → Option A) (R : List ℕ → A → Type 0) → Gives of R → (n : ℕ) (ws : List (List ℕ)) (xs : List A) → length ws ≡ n → AllZip R ws xs → row of n ws ≡ Some xs
unfolding row
row_again of R g zero [] [] all each = refl
row_again of R g zero [] (x ∷ xs) all each = absurd each
row_again of R g zero (w ∷ ws) xs all each = absurd (omega arith)
row_again of R g (suc n) [] xs all each = absurd (omega arith)
row_again of R g (suc n) (w ∷ ws) [] all each = absurd each
row_again of R g (suc n) (w ∷ ws) (x ∷ xs) all each = rw (g.again w x each.0, row_again of R g n ws xs (omega arith) each.1) refl

-- ---- the fold of the lines

-- after these lines
abbrev pub next : Result Said MeshKind → (Said → Result Said MeshKind) → Result Said MeshKind
next (Ok said) f = f said
next (Err kind) f = Err kind

unfoldable pub said_by : Said → List (List ℕ) → Result Said MeshKind
said_by said [] = Ok said
said_by said (line ∷ more) = next (after_line said line) (λ t. said_by t more)

abbrev pub done : Said → Result Said MeshKind
done said = Ok said

pub said_is : (s t : Said) → done s ≡ done t → s ≡ t
said_is s t e = cc

went : (r : Result Said MeshKind) (f : Said → Result Said MeshKind) (t : Said) → next r f ≡ Ok t → (s : Said) × (r ≡ Ok s) × (f s ≡ Ok t)
went (Ok s) f t e = (s, refl, e)
went (Err kind) f t e = absurd cc

-- a good line
pub one_line : (said : Said) (line : List ℕ) (more : List (List ℕ)) (t : Said) → said_by said (line ∷ more) ≡ Ok t → (s : Said) × (after_line said line ≡ Ok s) × (said_by s more ≡ Ok t)
unfolding said_by
one_line said line more t e = went (after_line said line) (λ s. said_by s more) t e

-- a line's words, and that its bytes are plain
pub record IsGood (said : Said) (line : List ℕ) (s : Said) : Type 0 where
  pub plain : has_plain_bytes line ≡ true
  pub says : after_words said (words (content line)) ≡ Ok s

good_from : (said : Said) (line : List ℕ) (s : Said) (plain : Bool) → has_plain_bytes line ≡ plain → cond plain (after_words said (words (content line))) (Err Lex) ≡ Ok s → IsGood said line s
good_from said line s true is_plain e = record { plain = is_plain; says = e }
good_from said line s false is_plain e = absurd cc

pub good_line : (said : Said) (line : List ℕ) (s : Said) → after_line said line ≡ Ok s → IsGood said line s
good_line said line s e = good_from said line s (has_plain_bytes line) refl e

-- ---- points and cells

-- what these lines add to the points and cells
pub record Adds (h : Header) (points : List (List Fraction)) (cells : List (List ℕ)) (ls : List (List ℕ)) (more_points : List (List Fraction)) (more_cells : List (List ℕ)) : Type 0 where
  pub plain : AllByRecursion (λ line. has_plain_bytes line ≡ true) ls
  pub point_lines : List (List (List ℕ))
  pub cell_lines : List (List (List ℕ))
  pub lines_are : word_lines ls ≡ point_lines ++ cell_lines
  pub are_points : AllZip (IsRow StandsFor (dimension h.kind)) point_lines more_points
  pub are_cells : AllZip (IsRow IsNatural (cell_size h)) cell_lines more_cells
  pub lawful : AllByRecursion (IsCellLine h) more_cells
  pub few_points : length (points ++ more_points) ≤ h.vertices
  pub few_cells : length (cells ++ more_cells) ≤ h.cells
  pub in_order : (cell_lines ≡ []) ⊎ (length (points ++ more_points) ≡ h.vertices)

pub record Added (h : Header) (points : List (List Fraction)) (cells : List (List ℕ)) (ls : List (List ℕ)) (t : Said) : Type 0 where
  pub more_points : List (List Fraction)
  pub more_cells : List (List ℕ)
  pub adds : Adds h points cells ls more_points more_cells
  pub is : t ≡ begun h (points ++ more_points) (cells ++ more_cells)

nothing_added : (h : Header) (points : List (List Fraction)) (cells : List (List ℕ)) (t : Said) → length points ≤ h.vertices → length cells ≤ h.cells → done (begun h points cells) ≡ Ok t → Added h points cells [] t
nothing_added h points cells t few_points few_cells e = record {
  more_points = [];
  more_cells = [];
  adds = record {
    plain = tt;
    point_lines = [];
    cell_lines = [];
    lines_are = refl;
    are_points = tt;
    are_cells = tt;
    lawful = tt;
    few_points = rw (append-nil points) few_points;
    few_cells = rw (append-nil cells) few_cells;
    in_order = inl refl;
  };
  is = sym (said_is (begun h points cells) t e) ∙ rw (append-nil points, append-nil cells) refl;
}

pub lines_of_blank : (line : List ℕ) (more : List (List ℕ)) → words (content line) ≡ [] → word_lines (line ∷ more) ≡ word_lines more
lines_of_blank line more e = rw e refl

pub lines_of_row : (line : List ℕ) (more : List (List ℕ)) (w : List ℕ) (ws : List (List ℕ)) → words (content line) ≡ w ∷ ws → word_lines (line ∷ more) ≡ (w ∷ ws) ∷ word_lines more
lines_of_row line more w ws e = rw e refl

after_blank : (h : Header) (points : List (List Fraction)) (cells : List (List ℕ)) (line : List ℕ) (more : List (List ℕ)) (t : Said) → has_plain_bytes line ≡ true → words (content line) ≡ [] → Added h points cells more t → Added h points cells (line ∷ more) t
after_blank h points cells line more t plain none a = record {
  more_points = a.more_points;
  more_cells = a.more_cells;
  adds = let b = a.adds in record {
    plain = (plain, b.plain);
    point_lines = b.point_lines;
    cell_lines = b.cell_lines;
    lines_are = lines_of_blank line more none ∙ b.lines_are;
    are_points = b.are_points;
    are_cells = b.are_cells;
    lawful = b.lawful;
    few_points = b.few_points;
    few_cells = b.few_cells;
    in_order = b.in_order;
  };
  is = a.is;
}

regroup : {A : Type 0} (xs : List A) (x : A) (ys : List A) → (xs ++ x ∷ []) ++ ys ≡ xs ++ x ∷ ys
regroup xs x ys = append_assoc xs (x ∷ []) ys

after_a_point : (h : Header) (points : List (List Fraction)) (cells : List (List ℕ)) (line : List ℕ) (more : List (List ℕ)) (w : List ℕ) (ws : List (List ℕ)) (point : List Fraction) (t : Said)
    → has_plain_bytes line ≡ true → words (content line) ≡ w ∷ ws → IsRow StandsFor (dimension h.kind) (w ∷ ws) point → Added h (points ++ point ∷ []) cells more t → Added h points cells (line ∷ more) t
after_a_point h points cells line more w ws point t plain some is_point a = record {
  more_points = point ∷ a.more_points;
  more_cells = a.more_cells;
  adds = let b = a.adds in record {
    plain = (plain, b.plain);
    point_lines = (w ∷ ws) ∷ b.point_lines;
    cell_lines = b.cell_lines;
    lines_are = lines_of_row line more w ws some ∙ ap (λ ls. (w ∷ ws) ∷ ls) b.lines_are;
    are_points = (is_point, b.are_points);
    are_cells = b.are_cells;
    lawful = b.lawful;
    few_points = subst (λ ps. length ps ≤ h.vertices) (regroup points point a.more_points) b.few_points;
    few_cells = b.few_cells;
    in_order = elim b.in_order [ inl none ↦ inl none | inr full ↦ inr (subst (λ ps. length ps ≡ h.vertices) (regroup points point a.more_points) full) ];
  };
  is = a.is ∙ ap (λ ps. begun h ps (cells ++ a.more_cells)) (regroup points point a.more_points);
}

no_lines_of : {A : Type 0} (R : List (List ℕ) → A → Type 0) (ls : List (List (List ℕ))) (xs : List A) → AllZip R ls xs → length xs ≡ 0 → (ls ≡ []) × (xs ≡ [])
no_lines_of R [] [] each none = (refl, refl)
no_lines_of R [] (x ∷ xs) each none = absurd each
no_lines_of R (l ∷ ls) [] each none = absurd each
no_lines_of R (l ∷ ls) (x ∷ xs) each none = absurd (omega arith)

after_a_cell : (h : Header) (points : List (List Fraction)) (cells : List (List ℕ)) (line : List ℕ) (more : List (List ℕ)) (w : List ℕ) (ws : List (List ℕ)) (cell : List ℕ) (t : Said)
    → length points ≡ h.vertices → has_plain_bytes line ≡ true → words (content line) ≡ w ∷ ws → IsRow IsNatural (cell_size h) (w ∷ ws) cell → IsCellLine h cell
    → Added h points (cells ++ cell ∷ []) more t → Added h points cells (line ∷ more) t
after_a_cell h points cells line more w ws cell t full plain some is_row is_cell a =
    let b = a.adds in
    let no_points = no_lines_of (IsRow StandsFor (dimension h.kind)) b.point_lines a.more_points b.are_points (omega (arith, b.few_points, length-append points a.more_points)) in
    let whole : points ++ a.more_points ≡ points = rw no_points.1 (append-nil points) in
    record {
      more_points = a.more_points;
      more_cells = cell ∷ a.more_cells;
      adds = record {
        plain = (plain, b.plain);
        point_lines = b.point_lines;
        cell_lines = (w ∷ ws) ∷ b.cell_lines;
        lines_are = lines_of_row line more w ws some ∙ ap (λ ls. (w ∷ ws) ∷ ls) (b.lines_are ∙ ap (λ ls. ls ++ b.cell_lines) no_points.0) ∙ ap (λ ls. ls ++ ((w ∷ ws) ∷ b.cell_lines)) (sym no_points.0);
        are_points = b.are_points;
        are_cells = (is_row, b.are_cells);
        lawful = (is_cell, b.lawful);
        few_points = b.few_points;
        few_cells = subst (λ cs. length cs ≤ h.cells) (regroup cells cell a.more_cells) b.few_cells;
        in_order = inr (ap length whole ∙ full);
      };
      is = a.is ∙ ap (λ cs. begun h (points ++ a.more_points) cs) (regroup cells cell a.more_cells);
    }

-- ---- any line after the header

point_said : (h : Header) (points : List (List Fraction)) (cells : List (List ℕ)) (ws : List (List ℕ)) (o : Option (List Fraction)) (s : Said) → row coordinate_of (dimension h.kind) ws ≡ o → after_point h points cells o ≡ Ok s
    → (point : List Fraction) × IsRow StandsFor (dimension h.kind) ws point × (s ≡ begun h (points ++ point ∷ []) cells)
point_said h points cells ws None s is e = absurd cc
point_said h points cells ws (Some point) s is e = (point, row_related coordinate_of StandsFor fractions_of (dimension h.kind) ws point is, sym (said_is (begun h (points ++ point ∷ []) cells) s e))

cell_is : (h : Header) (points : List (List Fraction)) (cells : List (List ℕ)) (cell : List ℕ) (s : Said) (below distinct : Bool) → length cell ≡ cell_size h → are_below h.vertices (vertices_in h.kind cell) ≡ below → is_distinct (vertices_in h.kind cell) ≡ distinct
    → cond below (cond distinct (Ok (begun h points (cells ++ cell ∷ []))) (Err RepeatedVertex)) (Err VertexRange) ≡ Ok s → IsCellLine h cell × (s ≡ begun h points (cells ++ cell ∷ []))
cell_is h points cells cell s true true size is_below is_distinct e = (line_of_cell h cell size is_below is_distinct, sym (said_is (begun h points (cells ++ cell ∷ [])) s e))
cell_is h points cells cell s true false size is_below is_distinct e = absurd cc
cell_is h points cells cell s false distinct size is_below is_distinct e = absurd cc

pub size_of_row : {A : Type 0} (R : List ℕ → A → Type 0) (ws : List (List ℕ)) (xs : List A) → AllZip R ws xs → length xs ≡ length ws
size_of_row R [] [] each = refl
size_of_row R [] (x ∷ xs) each = absurd each
size_of_row R (w ∷ ws) [] each = absurd each
size_of_row R (w ∷ ws) (x ∷ xs) each = ap suc (size_of_row R ws xs each.1)

cell_said : (h : Header) (points : List (List Fraction)) (cells : List (List ℕ)) (ws : List (List ℕ)) (o : Option (List ℕ)) (s : Said) → row number_of (cell_size h) ws ≡ o → after_cell h points cells o ≡ Ok s
    → (cell : List ℕ) × IsRow IsNatural (cell_size h) ws cell × IsCellLine h cell × (s ≡ begun h points (cells ++ cell ∷ []))
cell_said h points cells ws None s is e = absurd cc
cell_said h points cells ws (Some cell) s is e =
    let r = row_related number_of IsNatural naturals (cell_size h) ws cell is in
    let p = cell_is h points cells cell s (are_below h.vertices (vertices_in h.kind cell)) (is_distinct (vertices_in h.kind cell)) (size_of_row IsNatural ws cell r.each ∙ r.all) refl refl e in
    (cell, r, p.0, p.1)

-- which of the two it is
pub data Said_row (h : Header) (points : List (List Fraction)) (cells : List (List ℕ)) (ws : List (List ℕ)) (s : Said) : Type 0 where
  a_point : (point : List Fraction) → length points < h.vertices → IsRow StandsFor (dimension h.kind) ws point → s ≡ begun h (points ++ point ∷ []) cells → Said_row h points cells ws s
  a_cell : (cell : List ℕ) → h.vertices ≤ length points → length cells < h.cells → IsRow IsNatural (cell_size h) ws cell → IsCellLine h cell → s ≡ begun h points (cells ++ cell ∷ []) → Said_row h points cells ws s

row_is : (h : Header) (points : List (List Fraction)) (cells : List (List ℕ)) (ws : List (List ℕ)) (s : Said) (wants_point wants_cell : Bool) → ltb (length points) h.vertices ≡ wants_point → ltb (length cells) h.cells ≡ wants_cell
    → cond wants_point (after_point h points cells (row coordinate_of (dimension h.kind) ws)) (cond wants_cell (after_cell h points cells (row number_of (cell_size h) ws)) (Err Syntax)) ≡ Ok s → Said_row h points cells ws s
row_is h points cells ws s true wants_cell is_point is_cell e =
    let p = point_said h points cells ws (row coordinate_of (dimension h.kind) ws) s refl e in
    a_point p.0 (ltb-true (length points) h.vertices is_point) p.1 p.2
row_is h points cells ws s false true is_point is_cell e =
    let p = cell_said h points cells ws (row number_of (cell_size h) ws) s refl e in
    a_cell p.0 (ltb-false (length points) h.vertices is_point) (ltb-true (length cells) h.cells is_cell) p.1 p.2 p.3
row_is h points cells ws s false false is_point is_cell e = absurd cc

row_said : (h : Header) (points : List (List Fraction)) (cells : List (List ℕ)) (ws : List (List ℕ)) (s : Said) → after_row (begun h points cells) ws ≡ Ok s → Said_row h points cells ws s
unfolding after_row
row_said h points cells ws s e = row_is h points cells ws s (ltb (length points) h.vertices) (ltb (length cells) h.cells) refl refl e

length-push : {A : Type 0} (xs : List A) (x : A) → length (xs ++ x ∷ []) ≡ length xs + 1
length-push xs x = length-append xs (x ∷ [])

-- what the rest of the lines adds, whatever the line before it
abbrev pub Later : Header → List (List ℕ) → Said → Type 0
Later h more t = (points : List (List Fraction)) (cells : List (List ℕ)) → length points ≤ h.vertices → length cells ≤ h.cells → said_by (begun h points cells) more ≡ Ok t → Added h points cells more t

added_line : (line : List ℕ) (more : List (List ℕ)) (h : Header) (points : List (List Fraction)) (cells : List (List ℕ)) (t : Said) → Later h more t → length points ≤ h.vertices → length cells ≤ h.cells → (s : Said) (ws : List (List ℕ)) → words (content line) ≡ ws
    → has_plain_bytes line ≡ true → after_words (begun h points cells) ws ≡ Ok s → said_by s more ≡ Ok t → Added h points cells (line ∷ more) t
added_line line more h points cells t later few_points few_cells s [] are plain says rest =
    after_blank h points cells line more t plain are (later points cells few_points few_cells (subst (λ s. said_by s more ≡ Ok t) (sym (said_is (begun h points cells) s says)) rest))
added_line line more h points cells t later few_points few_cells s (w ∷ ws) are plain says rest = elim (row_said h points cells (w ∷ ws) s says) [
  | a_point point lt is_row is ↦
      after_a_point h points cells line more w ws point t plain are is_row
      (later (points ++ point ∷ []) cells (omega (arith, length-push points point)) few_cells (subst (λ s. said_by s more ≡ Ok t) is rest))
  | a_cell cell full lt is_row is_cell is ↦
      after_a_cell h points cells line more w ws cell t (omega arith) plain are is_row is_cell
      (later points (cells ++ cell ∷ []) few_points (omega (arith, length-push cells cell)) (subst (λ s. said_by s more ≡ Ok t) is rest))
]

-- what lines say after the header is what they add
pub added : (ls : List (List ℕ)) (h : Header) (t : Said) → Later h ls t
unfolding said_by
added [] h t points cells few_points few_cells e = nothing_added h points cells t few_points few_cells e
added (line ∷ more) h t points cells few_points few_cells e =
    let p = one_line (begun h points cells) line more t e in
    let g = good_line (begun h points cells) line p.0 p.1 in
    added_line line more h points cells t (λ ps cs a b c. added more h t ps cs a b c) few_points few_cells p.0 (words (content line)) refl g.plain g.says p.2

-- ---- and back: what lines add is what they say

pub goes_on : (said s t : Said) (line : List ℕ) (more : List (List ℕ)) → after_line said line ≡ Ok s → said_by s more ≡ Ok t → said_by said (line ∷ more) ≡ Ok t
unfolding said_by
goes_on said s t line more e rest = rw e rest

pub blank_again : (said : Said) (line : List ℕ) → has_plain_bytes line ≡ true → words (content line) ≡ [] → after_line said line ≡ Ok said
blank_again said line plain none = rw (plain, none) refl

pub line_again : (said s : Said) (line w : List ℕ) (ws : List (List ℕ)) → has_plain_bytes line ≡ true → words (content line) ≡ w ∷ ws → after_row said (w ∷ ws) ≡ Ok s → after_line said line ≡ Ok s
line_again said s line w ws plain some e = rw (plain, some) e

point_again : (h : Header) (points : List (List Fraction)) (cells : List (List ℕ)) (ws : List (List ℕ)) (point : List Fraction) → length points < h.vertices → IsRow StandsFor (dimension h.kind) ws point → after_row (begun h points cells) ws ≡ Ok (begun h (points ++ point ∷ []) cells)
unfolding after_row
point_again h points cells ws point lt r = rw (lt-ltb (length points) h.vertices lt, row_again coordinate_of StandsFor fractions_of (dimension h.kind) ws point r.all r.each) refl

cell_again : (h : Header) (points : List (List Fraction)) (cells : List (List ℕ)) (ws : List (List ℕ)) (cell : List ℕ) → length points ≡ h.vertices → length cells < h.cells → IsRow IsNatural (cell_size h) ws cell → IsCellLine h cell
    → after_row (begun h points cells) ws ≡ Ok (begun h points (cells ++ cell ∷ []))
unfolding after_row
cell_again h points cells ws cell full lt r good =
    rw (le-ltb (length points) h.vertices (omega arith), lt-ltb (length cells) h.cells lt, row_again number_of IsNatural naturals (cell_size h) ws cell r.all r.each, good.cell.in_range, good.cell.distinct) refl

pub first_is : {A : Type 0} (x y : A) (xs ys : List A) → x ∷ xs ≡ y ∷ ys → (x ≡ y) × (xs ≡ ys)
first_is x y xs ys e = (cc, cc)

-- the rest of the lines says what it adds
abbrev pub Says_added : Header → List (List ℕ) → Type 0
Says_added h more = (points : List (List Fraction)) (cells : List (List ℕ)) (more_points : List (List Fraction)) (more_cells : List (List ℕ)) → Adds h points cells more more_points more_cells → said_by (begun h points cells) more ≡ Ok (begun h (points ++ more_points) (cells ++ more_cells))

row_says : (line : List ℕ) (more : List (List ℕ)) (w : List ℕ) (ws : List (List ℕ)) (h : Header) (points : List (List Fraction)) (cells : List (List ℕ)) (point_lines cell_lines : List (List (List ℕ))) (more_points : List (List Fraction)) (more_cells : List (List ℕ))
    → Says_added h more → has_plain_bytes line ≡ true → AllByRecursion (λ line. has_plain_bytes line ≡ true) more → words (content line) ≡ w ∷ ws → (w ∷ ws) ∷ word_lines more ≡ point_lines ++ cell_lines
    → AllZip (IsRow StandsFor (dimension h.kind)) point_lines more_points → AllZip (IsRow IsNatural (cell_size h)) cell_lines more_cells → AllByRecursion (IsCellLine h) more_cells
    → length (points ++ more_points) ≤ h.vertices → length (cells ++ more_cells) ≤ h.cells → (cell_lines ≡ []) ⊎ (length (points ++ more_points) ≡ h.vertices)
    → said_by (begun h points cells) (line ∷ more) ≡ Ok (begun h (points ++ more_points) (cells ++ more_cells))
row_says line more w ws h points cells [] [] more_points more_cells later plain rest some are zip_points zip_cells lawful few_points few_cells order = absurd cc
row_says line more w ws h points cells [] (l ∷ ls) (q ∷ qs) more_cells later plain rest some are zip_points zip_cells lawful few_points few_cells order = absurd zip_points
row_says line more w ws h points cells [] (l ∷ ls) [] [] later plain rest some are zip_points zip_cells lawful few_points few_cells order = absurd zip_cells
row_says line more w ws h points cells [] (l ∷ ls) [] (d ∷ ds) later plain rest some are zip_points zip_cells lawful few_points few_cells order =
    let p = first_is (w ∷ ws) l (word_lines more) ls are in
    let full : length points ≡ h.vertices = elim order [ inl none ↦ absurd cc | inr e ↦ ap length (sym (append-nil points)) ∙ e ] in
    let room : length cells < h.cells = omega (arith, few_cells, length-append cells (d ∷ ds)) in
    goes_on (begun h points cells) (begun h points (cells ++ d ∷ [])) (begun h (points ++ []) (cells ++ d ∷ ds)) line more
    (line_again (begun h points cells) (begun h points (cells ++ d ∷ [])) line w ws plain some
    (cell_again h points cells (w ∷ ws) d full room (subst (λ l. IsRow IsNatural (cell_size h) l d) (sym p.0) zip_cells.0) lawful.0))
    (later points (cells ++ d ∷ []) [] ds (record {
      plain = rest;
      point_lines = [];
      cell_lines = ls;
      lines_are = p.1;
      are_points = tt;
      are_cells = zip_cells.1;
      lawful = lawful.1;
      few_points = few_points;
      few_cells = subst (λ cs. length cs ≤ h.cells) (sym (regroup cells d ds)) few_cells;
      in_order = inr (ap length (append-nil points) ∙ full);
    }) ∙ ap (λ cs. Ok (begun h (points ++ []) cs)) (regroup cells d ds))
row_says line more w ws h points cells (l ∷ ls) cell_lines [] more_cells later plain rest some are zip_points zip_cells lawful few_points few_cells order = absurd zip_points
row_says line more w ws h points cells (l ∷ ls) cell_lines (q ∷ qs) more_cells later plain rest some are zip_points zip_cells lawful few_points few_cells order =
    let p = first_is (w ∷ ws) l (word_lines more) (ls ++ cell_lines) are in
    let room : length points < h.vertices = omega (arith, few_points, length-append points (q ∷ qs)) in
    goes_on (begun h points cells) (begun h (points ++ q ∷ []) cells) (begun h (points ++ q ∷ qs) (cells ++ more_cells)) line more
    (line_again (begun h points cells) (begun h (points ++ q ∷ []) cells) line w ws plain some
    (point_again h points cells (w ∷ ws) q room (subst (λ l. IsRow StandsFor (dimension h.kind) l q) (sym p.0) zip_points.0)))
    (later (points ++ q ∷ []) cells qs more_cells (record {
      plain = rest;
      point_lines = ls;
      cell_lines = cell_lines;
      lines_are = p.1;
      are_points = zip_points.1;
      are_cells = zip_cells;
      lawful = lawful;
      few_points = subst (λ ps. length ps ≤ h.vertices) (sym (regroup points q qs)) few_points;
      few_cells = few_cells;
      in_order = elim order [ inl none ↦ inl none | inr e ↦ inr (ap length (regroup points q qs) ∙ e) ];
    }) ∙ ap (λ ps. Ok (begun h ps (cells ++ more_cells))) (regroup points q qs))

line_says : (line : List ℕ) (more : List (List ℕ)) (ws : List (List ℕ)) (h : Header) (points : List (List Fraction)) (cells : List (List ℕ)) (more_points : List (List Fraction)) (more_cells : List (List ℕ)) → Says_added h more → words (content line) ≡ ws
    → Adds h points cells (line ∷ more) more_points more_cells → said_by (begun h points cells) (line ∷ more) ≡ Ok (begun h (points ++ more_points) (cells ++ more_cells))
line_says line more [] h points cells more_points more_cells later are a =
    goes_on (begun h points cells) (begun h points cells) (begun h (points ++ more_points) (cells ++ more_cells)) line more (blank_again (begun h points cells) line a.plain.0 are)
    (later points cells more_points more_cells (record {
      plain = a.plain.1;
      point_lines = a.point_lines;
      cell_lines = a.cell_lines;
      lines_are = sym (lines_of_blank line more are) ∙ a.lines_are;
      are_points = a.are_points;
      are_cells = a.are_cells;
      lawful = a.lawful;
      few_points = a.few_points;
      few_cells = a.few_cells;
      in_order = a.in_order;
    }))
line_says line more (w ∷ ws) h points cells more_points more_cells later are a =
    row_says line more w ws h points cells a.point_lines a.cell_lines more_points more_cells later a.plain.0 a.plain.1 are (sym (lines_of_row line more w ws are) ∙ a.lines_are) a.are_points a.are_cells a.lawful a.few_points a.few_cells a.in_order

no_lines_say : (h : Header) (points : List (List Fraction)) (cells : List (List ℕ)) (point_lines cell_lines : List (List (List ℕ))) (more_points : List (List Fraction)) (more_cells : List (List ℕ)) → [] ≡ point_lines ++ cell_lines
    → AllZip (IsRow StandsFor (dimension h.kind)) point_lines more_points → AllZip (IsRow IsNatural (cell_size h)) cell_lines more_cells → done (begun h points cells) ≡ Ok (begun h (points ++ more_points) (cells ++ more_cells))
no_lines_say h points cells [] [] [] [] are zip_points zip_cells = rw (append-nil points, append-nil cells) refl
no_lines_say h points cells [] [] (q ∷ qs) more_cells are zip_points zip_cells = absurd zip_points
no_lines_say h points cells [] [] [] (d ∷ ds) are zip_points zip_cells = absurd zip_cells
no_lines_say h points cells [] (l ∷ ls) more_points more_cells are zip_points zip_cells = absurd cc
no_lines_say h points cells (l ∷ ls) cell_lines more_points more_cells are zip_points zip_cells = absurd cc

pub says_added : (ls : List (List ℕ)) (h : Header) → Says_added h ls
unfolding said_by
says_added [] h points cells more_points more_cells a = no_lines_say h points cells a.point_lines a.cell_lines more_points more_cells a.lines_are a.are_points a.are_cells
says_added (line ∷ more) h points cells more_points more_cells a = line_says line more (words (content line)) h points cells more_points more_cells (says_added more h) refl a
