-- A text has one meaning: the mesh, or the first bad line
use Rattle.std.proofs.Common.{◌≡◌, ℕ, ◌+◌, ◌<◌, ◌≤◌, Bool, true, false, cond, leb, eqb, List, [], ◌∷◌, ◌++◌, length, Option, Some, None, Result, Ok, Err, refl, sym, ap, subst, ◌∙◌, inl, inr, arith}
use Rattle.std.specs.Prelude.{◌&&◌, ◌⊎◌, IfOk, IfErr, map}
use Rattle.std.specs.Str.Lines.{lines}
use Rattle.std.proofs.lemmas.Bool.{leb-true, leb-false, le-leb, lt-leb, eqb-true, eq-eqb, and_parts}
use Rattle.std.proofs.lemmas.List.{append-nil, length-map}
use Rattle.algebra.specs.Fraction.{Fraction}
use Rattle.ratio.specs.declared.reduced.Ratio.{Ratio}
use Rattle.mesh_in.specs.declared.header.Header.{Header}
use Rattle.mesh_in.specs.declared.refusal.MeshKind.{MeshKind}
use Rattle.mesh_in.specs.declared.refusal.MeshKind.TheVariants.{TooLong, Syntax, Count}
use Rattle.mesh_in.specs.declared.refusal.MeshRefusal.{MeshRefusal}
use Rattle.mesh_in.specs.declared.header.Version.{Version}
use Rattle.mesh_in.specs.CellLine.{vertices_in, marker_in}
use Rattle.mesh_in.specs.Line.{content, has_plain_bytes, words}
use Rattle.mesh_in.specs.MeshData.{MeshData, fractions, most}
use Rattle.mesh_in.specs.MeshText.{Said, nothing, begun, header_of, after_header, after_row, after_words, after_line, at_line, mesh_of, complete, reading, meaning, longest, IsOpen}
use Rattle.mesh_in.specs.MeshGrammar.{word_lines, IsHeader, Opens, Says, header_for, IsMeshText, HasBadLine, LacksLines, IsRefused}
use Rattle.mesh_in.specs.Refusal.{refusal, out_of_memory}
use Rattle.mesh_in.specs.Reader.{Gives}
use Rattle.mesh_in.proofs.GrammarLaws.{said_by, one_line, good_line, goes_on, blank_again, line_again, lines_of_blank, lines_of_row, first_is, done, said_is, Added, added, says_added}
use Rattle.mesh_in.proofs.HeaderLaws.{header_is, header_again}

-- ---- the lines up to the header

few_from : (h : Header) (s : Said) (few : Bool) → (leb h.vertices most && leb h.cells most) ≡ few → cond few (Ok (begun h [] [])) (Err Count) ≡ Ok s → (h.vertices ≤ most) × (h.cells ≤ most) × (s ≡ begun h [] [])
few_from h s true is_few e = let p = and_parts (leb h.vertices most) (leb h.cells most) is_few in (leb-true h.vertices most p.0, leb-true h.cells most p.1, sym (said_is (begun h [] []) s e))
few_from h s false is_few e = absurd cc

header_from : (ws : List (List ℕ)) (s : Said) (o : Option Header) → header_of ws ≡ o → after_header o ≡ Ok s → (h : Header) × IsHeader ws h × (s ≡ begun h [] [])
header_from ws s None is e = absurd cc
header_from ws s (Some h) is e =
    let p = few_from h s (leb h.vertices most && leb h.cells most) refl e in
    let w = header_is ws h is in
    (h, record { vertices = w.vertices; cells = w.cells; words_are = w.words_are; all_vertices = w.all_vertices; all_cells = w.all_cells; few = (p.0, p.1) }, p.2)

first_row : (ws : List (List ℕ)) (s : Said) → after_row nothing ws ≡ Ok s → (h : Header) × IsHeader ws h × (s ≡ begun h [] [])
unfolding after_row
first_row ws s e = header_from ws s (header_of ws) refl e

-- a line without words changes nothing of what is said
after_blank : (line : List ℕ) (more : List (List ℕ)) (t : Said) → has_plain_bytes line ≡ true → words (content line) ≡ [] → Says more t → Says (line ∷ more) t
after_blank line more nothing plain none s = ((plain, s.0), lines_of_blank line more none ∙ s.1)
after_blank line more (begun h points cells) plain none s = record {
  plain = (plain, s.plain);
  header = s.header;
  point_lines = s.point_lines;
  cell_lines = s.cell_lines;
  lines_are = lines_of_blank line more none ∙ s.lines_are;
  is_header = s.is_header;
  are_points = s.are_points;
  are_cells = s.are_cells;
  lawful = s.lawful;
  at_most = s.at_most;
  in_order = s.in_order;
}

after_first_row : (line : List ℕ) (more : List (List ℕ)) (w : List ℕ) (ws : List (List ℕ)) (h : Header) (t : Said) → has_plain_bytes line ≡ true → words (content line) ≡ w ∷ ws → IsHeader (w ∷ ws) h → Added h [] [] more t → Says (line ∷ more) t
after_first_row line more w ws h t plain some is_header a = subst (Says (line ∷ more)) (sym a.is) (let b = a.adds in record {
  plain = (plain, b.plain);
  header = w ∷ ws;
  point_lines = b.point_lines;
  cell_lines = b.cell_lines;
  lines_are = lines_of_row line more w ws some ∙ ap (λ ls. (w ∷ ws) ∷ ls) b.lines_are;
  is_header = is_header;
  are_points = b.are_points;
  are_cells = b.are_cells;
  lawful = b.lawful;
  at_most = (b.few_points, b.few_cells);
  in_order = b.in_order;
})

line_said : (line : List ℕ) (more : List (List ℕ)) (s t : Said) (ws : List (List ℕ)) → ((t : Said) → said_by nothing more ≡ Ok t → Says more t) → words (content line) ≡ ws → has_plain_bytes line ≡ true → after_words nothing ws ≡ Ok s → said_by s more ≡ Ok t → Says (line ∷ more) t
line_said line more s t [] later are plain says rest = after_blank line more t plain are (later t (subst (λ s. said_by s more ≡ Ok t) (sym (said_is nothing s says)) rest))
line_said line more s t (w ∷ ws) later are plain says rest =
    let p = first_row (w ∷ ws) s says in
    after_first_row line more w ws p.0 t plain are p.1 (added more p.0 t [] [] (omega arith) (omega arith) (subst (λ s. said_by s more ≡ Ok t) p.2 rest))

-- what the fold says is what the grammar says
pub says_from : (ls : List (List ℕ)) (t : Said) → said_by nothing ls ≡ Ok t → Says ls t
unfolding said_by
says_from [] t e = subst (Says []) (said_is nothing t e) (tt, refl)
says_from (line ∷ more) t e =
    let p = one_line nothing line more t e in
    let g = good_line nothing line p.0 p.1 in
    line_said line more p.0 t (words (content line)) (λ t e. says_from more t e) refl g.plain g.says p.2

-- ---- and back

few_again : (h : Header) → (h.vertices ≤ most) × (h.cells ≤ most) → after_header (Some h) ≡ Ok (begun h [] [])
few_again h few = rw (le-leb h.vertices most few.0, le-leb h.cells most few.1) refl

first_row_again : (ws : List (List ℕ)) (h : Header) → IsHeader ws h → after_row nothing ws ≡ Ok (begun h [] [])
unfolding after_row
first_row_again ws h p =
    ap after_header (header_again ws h (record { vertices = p.vertices; cells = p.cells; words_are = p.words_are; all_vertices = p.all_vertices; all_cells = p.all_cells })) ∙ few_again h p.few

without_blank : (line : List ℕ) (more : List (List ℕ)) (t : Said) → words (content line) ≡ [] → Says (line ∷ more) t → has_plain_bytes line ≡ true × Says more t
without_blank line more nothing none s = (s.0.0, (s.0.1, sym (lines_of_blank line more none) ∙ s.1))
without_blank line more (begun h points cells) none s = (
  s.plain.0,
  record {
    plain = s.plain.1;
    header = s.header;
    point_lines = s.point_lines;
    cell_lines = s.cell_lines;
    lines_are = sym (lines_of_blank line more none) ∙ s.lines_are;
    is_header = s.is_header;
    are_points = s.are_points;
    are_cells = s.are_cells;
    lawful = s.lawful;
    at_most = s.at_most;
    in_order = s.in_order;
  },
)

row_again : (line : List ℕ) (more : List (List ℕ)) (w : List ℕ) (ws : List (List ℕ)) (t : Said) → words (content line) ≡ w ∷ ws → Says (line ∷ more) t → said_by nothing (line ∷ more) ≡ Ok t
row_again line more w ws nothing some s = let clash : (w ∷ ws) ∷ word_lines more ≡ [] = sym (lines_of_row line more w ws some) ∙ s.1 in absurd cc
row_again line more w ws (begun h points cells) some s =
    let p = first_is (w ∷ ws) s.header (word_lines more) (s.point_lines ++ s.cell_lines) (sym (lines_of_row line more w ws some) ∙ s.lines_are) in
    goes_on nothing (begun h [] []) (begun h points cells) line more
    (line_again nothing (begun h [] []) line w ws s.plain.0 some (first_row_again (w ∷ ws) h (subst (λ ws. IsHeader ws h) (sym p.0) s.is_header)))
    (says_added more h [] [] points cells (record {
      plain = s.plain.1;
      point_lines = s.point_lines;
      cell_lines = s.cell_lines;
      lines_are = p.1;
      are_points = s.are_points;
      are_cells = s.are_cells;
      lawful = s.lawful;
      few_points = s.at_most.0;
      few_cells = s.at_most.1;
      in_order = s.in_order;
    }))

line_again_said : (line : List ℕ) (more : List (List ℕ)) (t : Said) (ws : List (List ℕ)) → ((t : Said) → Says more t → said_by nothing more ≡ Ok t) → words (content line) ≡ ws → Says (line ∷ more) t → said_by nothing (line ∷ more) ≡ Ok t
line_again_said line more t [] later are s = let p = without_blank line more t are s in goes_on nothing nothing t line more (blank_again nothing line p.0 are) (later t p.1)
line_again_said line more t (w ∷ ws) later are s = row_again line more w ws t are s

no_lines_begun : (h : Header) (points : List (List Fraction)) (cells : List (List ℕ)) → Opens [] h points cells → done nothing ≡ Ok (begun h points cells)
no_lines_begun h points cells s = let clash : [] ≡ s.header ∷ (s.point_lines ++ s.cell_lines) = s.lines_are in absurd cc

no_lines_said : (t : Said) → Says [] t → done nothing ≡ Ok t
no_lines_said nothing s = refl
no_lines_said (begun h points cells) s = no_lines_begun h points cells s

pub says_again : (ls : List (List ℕ)) (t : Said) → Says ls t → said_by nothing ls ≡ Ok t
unfolding said_by
says_again [] t s = no_lines_said t s
says_again (line ∷ more) t s = line_again_said line more t (words (content line)) (λ t s. says_again more t s) refl s

-- ---- the numbers of the lines

same_number : (n k : ℕ) → (n + 1) + k ≡ n + (k + 1)
same_number n k = omega arith

length-line : (line : List ℕ) (more : List (List ℕ)) → length (line ∷ more) ≡ length more + 1
length-line line more = omega arith

reads_front : (front : List (List ℕ)) (n : ℕ) (s t : Said) (rest : List (List ℕ)) → said_by s front ≡ Ok t → reading n s (front ++ rest) ≡ reading (n + length front) t rest
unfolding said_by reading
reads_front [] n s t rest e = let z : n + 0 ≡ n = omega arith in rw (z, said_is s t e) refl
reads_front (line ∷ more) n s t rest e =
    let p = one_line s line more t e in
    ap (λ r. at_line (n + 1) r (λ next. reading (n + 1) next (more ++ rest))) p.1
    ∙ reads_front more (n + 1) p.0 t rest p.2
    ∙ ap (λ k. reading k t rest) (same_number n (length more) ∙ ap (λ k. n + k) (sym (length-line line more)))

bad_line : (n : ℕ) (t : Said) (bad : List ℕ) (after : List (List ℕ)) (kind : MeshKind) → after_line t bad ≡ Err kind → reading n t (bad ∷ after) ≡ Err (refusal kind (n + 1))
unfolding reading
bad_line n t bad after kind e = rw e refl

last_line : (n : ℕ) (t : Said) → reading n t [] ≡ complete n t
unfolding reading
last_line n t = refl

-- either all lines are good, or there is a first bad one
pub data Outcome (n : ℕ) (s : Said) (ls : List (List ℕ)) : Type 0 where
  all_good : (t : Said) → said_by s ls ≡ Ok t → reading n s ls ≡ complete (n + length ls) t → Outcome n s ls
  one_bad : (front : List (List ℕ)) (bad : List ℕ) (after : List (List ℕ)) (t : Said) (kind : MeshKind) → ls ≡ front ++ bad ∷ after → said_by s front ≡ Ok t → after_line t bad ≡ Err kind
      → reading n s ls ≡ Err (refusal kind (n + length front + 1)) → Outcome n s ls

none_said : (s : Said) → said_by s [] ≡ Ok s
unfolding said_by
none_said s = refl

outcome_of_line : (n : ℕ) (s : Said) (line : List ℕ) (more : List (List ℕ)) (r : Result Said MeshKind) → ((u : Said) → Outcome (n + 1) u more) → after_line s line ≡ r → Outcome n s (line ∷ more)
unfolding reading
outcome_of_line n s line more (Err kind) later e = one_bad [] line more s kind refl (none_said s) e (let z : n + 0 ≡ n = omega arith in rw z (bad_line n s line more kind e))
outcome_of_line n s line more (Ok u) later e = elim (later u) [
  | all_good t said is ↦
      all_good t (goes_on s u t line more e said)
      (ap (λ r. at_line (n + 1) r (λ next. reading (n + 1) next more)) e ∙ is ∙ ap (λ k. complete k t) (same_number n (length more) ∙ ap (λ k. n + k) (sym (length-line line more))))
  | one_bad front bad after t kind are said is_bad is ↦
      one_bad (line ∷ front) bad after t kind (ap (λ ls. line ∷ ls) are) (goes_on s u t line front e said) is_bad
      (ap (λ r. at_line (n + 1) r (λ next. reading (n + 1) next more)) e ∙ is
      ∙ ap (λ k. Err (refusal kind (k + 1))) (same_number n (length front) ∙ ap (λ k. n + k) (sym (length-line line front))))
]

pub outcome : (ls : List (List ℕ)) (n : ℕ) (s : Said) → Outcome n s ls
outcome [] n s = all_good s (none_said s) (let z : n + 0 ≡ n = omega arith in rw z (last_line n s))
outcome (line ∷ more) n s = outcome_of_line n s line more (after_line s line) (λ u. outcome more (n + 1) u) refl

-- ---- the text

abbrev given : MeshData Fraction → Result (MeshData Fraction) MeshRefusal
given m = Ok m

abbrev refused : MeshRefusal → Result (MeshData Fraction) MeshRefusal
refused e = Err e

mesh_is : (m n : MeshData Fraction) → given m ≡ Ok n → m ≡ n
mesh_is m n e = cc

refusal_is : (d e : MeshRefusal) → refused d ≡ Err e → d ≡ e
refusal_is d e h = cc

-- the lines are those of the mesh
record Spells (ls : List (List ℕ)) (m : MeshData Fraction) : Type 0 where
  version : Version
  numbers : List (List ℕ)
  opens : Opens ls (header_for version m) m.points numbers
  cells_are : m.cells ≡ map (vertices_in m.kind) numbers
  markers_are : m.markers ≡ map (marker_in m.kind) numbers

of_header : (ls : List (List ℕ)) (h : Header) (points : List (List Fraction)) (cells : List (List ℕ)) (m : MeshData Fraction) (number : ℕ) (all : Bool) → (eqb (length points) h.vertices && eqb (length cells) h.cells) ≡ all
    → cond all (given (mesh_of h.kind points cells)) (Err (refusal Syntax number)) ≡ Ok m → Opens ls h points cells → Spells ls m
of_header ls h points cells m number false is_all e o = absurd cc
of_header ls h points cells m number true is_all e o =
    let p = and_parts (eqb (length points) h.vertices) (eqb (length cells) h.cells) is_all in
    let mesh : MeshData Fraction = mesh_of h.kind points cells in
    let all_points : h.vertices ≡ length points = sym (eqb-true (length points) h.vertices p.0) in
    let all_cells : h.cells ≡ length mesh.cells = sym (length-map cells (vertices_in h.kind) ∙ eqb-true (length cells) h.cells p.1) in
    let same : h ≡ header_for h.version mesh = ap (λ (k : ℕ × ℕ). let r : Header = record { kind = h.kind; version = h.version; vertices = k.0; cells = k.1 } in r) (let q : (h.vertices, h.cells) ≡ (length points, length mesh.cells) = rw (all_points, all_cells) refl in q) in
    subst (λ m. Spells ls m) (mesh_is mesh m e) (record { version = h.version; numbers = cells; opens = subst (λ h. Opens ls h points cells) same o; cells_are = refl; markers_are = refl })

opens_from : (ls : List (List ℕ)) (t : Said) (m : MeshData Fraction) (number : ℕ) → complete number t ≡ Ok m → Says ls t → Spells ls m
opens_from ls nothing m number e s = absurd cc
opens_from ls (begun h points cells) m number e s = of_header ls h points cells m number (eqb (length points) h.vertices && eqb (length cells) h.cells) refl e s

opens_of : (ls : List (List ℕ)) (m : MeshData Fraction) → Outcome 0 nothing ls → reading 0 nothing ls ≡ Ok m → Spells ls m
opens_of ls m (all_good t said is) e = opens_from ls t m (0 + length ls) (sym is ∙ e) (says_from ls t said)
opens_of ls m (one_bad front bad after t kind are said is_bad is) e = let clash : refused (refusal kind (0 + length front + 1)) ≡ Ok m = sym is ∙ e in absurd cc

text_from : (text : List ℕ) (m : MeshData Fraction) (short : Bool) → leb (length text) longest ≡ short → cond short (reading 0 nothing (lines text)) (Err (refusal TooLong 0)) ≡ Ok m → IsMeshText text m
text_from text m true is_short e =
    let s = opens_of (lines text) m (outcome (lines text) 0 nothing) e in
    record { short = leb-true (length text) longest is_short; version = s.version; numbers = s.numbers; opens = s.opens; cells_are = s.cells_are; markers_are = s.markers_are }
text_from text m false is_short e = absurd cc

-- the mesh that the lines say is one to which the grammar relates the text
pub mesh_text : (text : List ℕ) (m : MeshData Fraction) → meaning text ≡ Ok m → IsMeshText text m
unfolding meaning
mesh_text text m e = text_from text m (leb (length text) longest) refl e

short_meaning : (text : List ℕ) → length text ≤ longest → meaning text ≡ reading 0 nothing (lines text)
unfolding meaning
short_meaning text short = rw (le-leb (length text) longest short) refl

all_lines : (ls : List (List ℕ)) (n : ℕ) (s t : Said) → said_by s ls ≡ Ok t → reading n s ls ≡ complete (n + length ls) t
all_lines ls n s t e = ap (reading n s) (sym (append-nil ls)) ∙ reads_front ls n s t [] e ∙ last_line (n + length ls) t

same_mesh : (m : MeshData Fraction) (cells : List (List ℕ)) (markers : List ℕ) → m.cells ≡ cells → m.markers ≡ markers → given (record { kind = m.kind; points = m.points; cells = cells; markers = markers }) ≡ Ok m
same_mesh m cells markers c k = rw (sym c, sym k) refl

-- and the other way round
pub mesh_text_again : (text : List ℕ) (m : MeshData Fraction) → IsMeshText text m → meaning text ≡ Ok m
mesh_text_again text m is =
    let h = header_for is.version m in
    let all : length is.numbers ≡ length m.cells = sym (ap length is.cells_are ∙ length-map is.numbers (vertices_in m.kind)) in
    short_meaning text is.short ∙ all_lines (lines text) 0 nothing (begun h m.points is.numbers) (says_again (lines text) (begun h m.points is.numbers) is.opens)
    ∙ rw (eq-eqb (length m.points) (length m.points) refl, eq-eqb (length is.numbers) (length m.cells) all) (same_mesh m (map (vertices_in m.kind) is.numbers) (map (marker_in m.kind) is.numbers) is.cells_are is.markers_are)

open_from : (h : Header) (points : List (List Fraction)) (cells : List (List ℕ)) (number : ℕ) (e : MeshRefusal) (all : Bool) → (eqb (length points) h.vertices && eqb (length cells) h.cells) ≡ all
    → cond all (given (mesh_of h.kind points cells)) (Err (refusal Syntax number)) ≡ Err e → IsOpen (begun h points cells) × (e ≡ refusal Syntax number)
open_from h points cells number e true is_all r = absurd cc
open_from h points cells number e false is_all r = (λ k. rw is_all refl, sym (refusal_is (refusal Syntax number) e r))

open_of : (t : Said) (number : ℕ) (e : MeshRefusal) → complete number t ≡ Err e → IsOpen t × (e ≡ refusal Syntax number)
open_of nothing number e r = (λ k. refl, sym (refusal_is (refusal Syntax number) e r))
open_of (begun h points cells) number e r = open_from h points cells number e (eqb (length points) h.vertices && eqb (length cells) h.cells) refl r

refused_lines : (text : List ℕ) (e : MeshRefusal) → Outcome 0 nothing (lines text) → reading 0 nothing (lines text) ≡ Err e → HasBadLine text e ⊎ LacksLines text e
refused_lines text e (all_good t said is) r =
    let p = open_of t (0 + length (lines text)) e (sym is ∙ r) in
    let z : 0 + length (lines text) ≡ length (lines text) = omega arith in
    inr (record { said = t; says = says_from (lines text) t said; is_open = p.0; refusal_is = p.1 ∙ ap (refusal Syntax) z })
refused_lines text e (one_bad front bad after t kind are said is_bad is) r =
    let z : 0 + length front + 1 ≡ length front + 1 = omega arith in
    inl (record { front = front; bad = bad; after = after; said = t; kind = kind; lines_are = are; says = says_from front t said; is_bad = is_bad; refusal_is = sym (refusal_is (refusal kind (0 + length front + 1)) e (sym is ∙ r)) ∙ ap (refusal kind) z })

refused_from : (text : List ℕ) (e : MeshRefusal) (short : Bool) → leb (length text) longest ≡ short → cond short (reading 0 nothing (lines text)) (Err (refusal TooLong 0)) ≡ Err e → IsRefused text e
refused_from text e true is_short r = inr (leb-true (length text) longest is_short, refused_lines text e (outcome (lines text) 0 nothing) r)
refused_from text e false is_short r = inl (leb-false (length text) longest is_short, sym (refusal_is (refusal TooLong 0) e r))

pub refused_text : (text : List ℕ) (e : MeshRefusal) → meaning text ≡ Err e → IsRefused text e
unfolding meaning
refused_text text e r = refused_from text e (leb (length text) longest) refl r

long_meaning : (text : List ℕ) → longest < length text → meaning text ≡ Err (refusal TooLong 0)
unfolding meaning
long_meaning text long = rw (lt-leb (length text) longest long) refl

lines_refused : (text : List ℕ) (e : MeshRefusal) → HasBadLine text e ⊎ LacksLines text e → reading 0 nothing (lines text) ≡ Err e
lines_refused text e (inl b) =
    let z : 0 + length b.front + 1 ≡ length b.front + 1 = omega arith in
    ap (reading 0 nothing) b.lines_are ∙ reads_front b.front 0 nothing b.said (b.bad ∷ b.after) (says_again b.front b.said b.says)
    ∙ bad_line (0 + length b.front) b.said b.bad b.after b.kind b.is_bad ∙ ap (λ n. Err (refusal b.kind n)) z ∙ sym (ap (λ e. Err e) b.refusal_is)
lines_refused text e (inr l) =
    let z : 0 + length (lines text) ≡ length (lines text) = omega arith in
    all_lines (lines text) 0 nothing l.said (says_again (lines text) l.said l.says) ∙ l.is_open (0 + length (lines text)) ∙ ap (λ n. Err (refusal Syntax n)) z ∙ sym (ap (λ e. Err e) l.refusal_is)

pub refused_text_again : (text : List ℕ) (e : MeshRefusal) → IsRefused text e → meaning text ≡ Err e
refused_text_again text e (inl long) = long_meaning text long.0 ∙ sym (ap (λ e. Err e) long.1)
refused_text_again text e (inr lines) = short_meaning text lines.0 ∙ lines_refused text e lines.1

-- ---- what is read

pub mesh_read : (text : List ℕ) (r : Result (MeshData Ratio) MeshRefusal) → Gives r (meaning text) → IfOk r (λ m. IsMeshText text (fractions m))
mesh_read text (Ok m) g = mesh_text text (fractions m) g
mesh_read text (Err e) g = tt

pub refusal_read : (text : List ℕ) (r : Result (MeshData Ratio) MeshRefusal) → Gives r (meaning text) → IfErr r (λ e. (e ≡ out_of_memory) ⊎ IsRefused text e)
refusal_read text (Ok m) g = tt
refusal_read text (Err e) (inl memory) = inl memory
refusal_read text (Err e) (inr is) = inr (refused_text text e is)
