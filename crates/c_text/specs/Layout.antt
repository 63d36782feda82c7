-- The canonical text of a unit, as pieces
use Rattle.std.specs.Prelude.{◌≡◌, refl, ℕ, ◌+◌, ◌*◌, ◌/◌, ◌%◌, ◌^◌, ◌==◌, if◌then◌else◌, List, [], ◌∷◌, ◌++◌, length, codes, decimal, replicate, slice_index, ℤ, unsigned_abs}
use Rattle.std.proofs.Common.{ap, ◌∙◌}
use Rattle.algebra.specs.LowestTerms.{top, bottom}
use Rattle.algebra.specs.Sign.{is_negative}
use Rattle.ratio.specs.declared.reduced.Ratio.{Ratio}
use Rattle.ratio.specs.Value.{fraction_of}
use Rattle.c_unit.specs.declared.unit.Array.{Array}
use Rattle.c_unit.specs.declared.unit.Array.TheVariants.{X, W, T, A}
use Rattle.c_unit.specs.declared.unit.Slot.{Slot}
use Rattle.c_unit.specs.declared.unit.Place.{Place}
use Rattle.c_unit.specs.declared.unit.CFun.{CFun}
use Rattle.c_unit.specs.declared.unit.CUnit.{CUnit}
use Rattle.c_unit.specs.declared.unit.CStmt.{CStmt, Set, Copy, Abs, Inv, Add, Sub, Mul, Load, For', Row_of-CStmt, end_of-CStmt, more_of-CStmt, items-the_row-CStmt, items_hidden-the_row-CStmt-0}
use Rattle.c_unit.specs.declared.unit.CStmt.TheViews as View
use Rattle.c_unit.specs.declared.unit.CStmt.TheBlock.{hidden-the_row-CStmt-0}
use Rattle.c_unit.specs.Meaning.{deeper}
use Rattle.c_text.specs.Pieces.{Piece, Gap, Solid, Sign, blank, feed, text_of}

-- ---- numbers, slots, places and fractions

-- a number below 2^32
abbrev pub number : ℕ → Piece
number n = Solid (decimal n)

-- half of a part of a fraction, a number below 2^64
abbrev pub half : ℕ → Piece
half n = Solid (decimal n ++ codes "u")

-- the counter of a loop: i and the number of loops around it
abbrev pub counter : ℕ → List ℕ
counter depth = codes "i" ++ decimal depth

-- a multiple of a counter, where there is one
unfoldable pub step_pieces : ℕ → ℕ → List Piece
step_pieces depth n = if n == 0 then [] else Sign (codes "+") ∷ number n ∷ Sign (codes "*") ∷ Solid (counter depth) ∷ []

unfoldable pub steps_pieces : List ℕ → List Piece
steps_pieces steps =
    step_pieces 0 (slice_index steps 0) ++ (step_pieces 1 (slice_index steps 1)
    ++ (step_pieces 2 (slice_index steps 2) ++ step_pieces 3 (slice_index steps 3)))

unfoldable pub slot_pieces : Slot → List Piece
slot_pieces s = number s.base ∷ steps_pieces s.steps

abbrev pub array_name : Array → List ℕ
array_name X = codes "X"
array_name W = codes "W"
array_name T = codes "T"
array_name A = codes "A"

unfoldable pub place_pieces : Place → List Piece
place_pieces p =
    Sign (codes "&") ∷ Solid (array_name p.array) ∷ Sign (codes "[") ∷ slot_pieces p.slot ++ Sign (codes "]") ∷ []

abbrev pub sign_pieces : ℤ → Piece
sign_pieces n = Solid (if is_negative n then codes "1" else codes "0")

-- the sign, the size of the numerator and the denominator, each of the two as its quotient and rest by 2^64
abbrev pub parts_pieces : ℤ → ℕ → List Piece
parts_pieces n d =
    sign_pieces n ∷ Sign (codes ",") ∷ blank ∷ half (unsigned_abs n / 2 ^ 64) ∷ Sign (codes ",") ∷ blank
    ∷ half (unsigned_abs n % 2 ^ 64)
    ∷ Sign (codes ",") ∷ blank ∷ half (d / 2 ^ 64) ∷ Sign (codes ",") ∷ blank ∷ half (d % 2 ^ 64) ∷ []

unfoldable pub value_pieces : Ratio → List Piece
value_pieces v = parts_pieces (top (fraction_of v)) (bottom (fraction_of v))

-- ---- statements

-- the blanks at the front of a line, inside this many loops
unfoldable pub indent : ℕ → Piece
indent depth = Gap (replicate (2 * depth + 2) 32)

-- a line that is a call of one argument behind the target
abbrev pub call_pieces : ℕ → List ℕ → Place → List Piece → List Piece
call_pieces depth name to more =
    indent depth ∷ Solid name ∷ Sign (codes "(") ∷ place_pieces to ++ (Sign (codes ",") ∷ blank ∷ more
    ++ (Sign (codes ")") ∷ Sign (codes ";") ∷ feed ∷ []))

-- a line whose call may end the run with this number
abbrev pub test_pieces : ℕ → List ℕ → Place → List Piece → List ℕ → List Piece
test_pieces depth name to more number =
    indent depth ∷ Solid (codes "if") ∷ blank ∷ Sign (codes "(") ∷ Solid name ∷ Sign (codes "(") ∷ place_pieces to
    ++ (Sign (codes ",") ∷ blank ∷ more
    ++ (Sign (codes ")") ∷ Sign (codes ")") ∷ blank ∷ Solid (codes "return") ∷ blank ∷ Solid number
    ∷ Sign (codes ";") ∷ feed ∷ []))

abbrev pub both_pieces : Place → Place → List Piece
both_pieces left right = place_pieces left ++ (Sign (codes ",") ∷ blank ∷ place_pieces right)

abbrev pub table_name : ℕ → List ℕ
table_name k = codes "K" ++ decimal k

abbrev pub item_pieces : ℕ → Slot → List Piece
item_pieces table at =
    Sign (codes "&") ∷ Solid (table_name table) ∷ Sign (codes "[") ∷ slot_pieces at ++ Sign (codes "]") ∷ []

abbrev pub header_pieces : ℕ → ℕ → List Piece
header_pieces depth turns =
    indent depth ∷ Solid (codes "for") ∷ blank ∷ Sign (codes "(") ∷ Solid (codes "int") ∷ blank
    ∷ Solid (counter depth) ∷ blank ∷ Sign (codes "=") ∷ blank ∷ Solid (codes "0") ∷ Sign (codes ";") ∷ blank
    ∷ Solid (counter depth) ∷ blank ∷ Sign (codes "<") ∷ blank ∷ number turns ∷ Sign (codes ";") ∷ blank
    ∷ Solid (counter depth) ∷ Sign (codes "++") ∷ Sign (codes ")") ∷ blank ∷ Sign (codes "{") ∷ feed ∷ []

abbrev pub close_pieces : ℕ → List Piece
close_pieces depth = indent depth ∷ Sign (codes "}") ∷ feed ∷ []

abbrev mutual
  -- the lines of a statement inside this many loops
  pub one_pieces : ℕ → CStmt → List Piece
  one_pieces depth (Set to v) = call_pieces depth (codes "fr_set") to (value_pieces v)
  one_pieces depth (Copy to p) = call_pieces depth (codes "fr_copy") to (place_pieces p)
  one_pieces depth (Abs to p) = call_pieces depth (codes "fr_abs") to (place_pieces p)
  one_pieces depth (Inv to p) = test_pieces depth (codes "fr_inv") to (place_pieces p) (codes "2")
  one_pieces depth (Add to p q) = test_pieces depth (codes "fr_add") to (both_pieces p q) (codes "1")
  one_pieces depth (Sub to p q) = test_pieces depth (codes "fr_sub") to (both_pieces p q) (codes "1")
  one_pieces depth (Mul to p q) = test_pieces depth (codes "fr_mul") to (both_pieces p q) (codes "1")
  one_pieces depth (Load to k at) = call_pieces depth (codes "fr_load") to (item_pieces k at)
  one_pieces depth (For' n m body) = header_pieces depth n ++ (row_pieces (deeper depth) body ++ close_pieces depth)

  pub row_pieces : ℕ → {m : _} → Row_of-CStmt m → List Piece
  row_pieces depth end_of-CStmt = []
  row_pieces depth (more_of-CStmt c rest) = one_pieces depth c ++ row_pieces depth rest

abbrev pub body_pieces : ℕ → List CStmt → List Piece
body_pieces depth [] = []
body_pieces depth (c ∷ cs) = one_pieces depth c ++ body_pieces depth cs

pub rows : (depth : ℕ) (m : _) (k : Row_of-CStmt m) → row_pieces depth k ≡ body_pieces depth (items-the_row-CStmt m k)
rows depth m end_of-CStmt = refl
rows depth m (more_of-CStmt c rest) = ap (λ ps. one_pieces depth c ++ ps) (rows depth _ rest)

pub one_pieces-For : (depth n : ℕ) (body : List CStmt)
    → one_pieces depth (View.For n body) ≡ header_pieces depth n ++ (body_pieces (deeper depth) body ++ close_pieces depth)
one_pieces-For depth n body =
    ap (λ ps. header_pieces depth n ++ (ps ++ close_pieces depth))
    (rows (deeper depth) _ (hidden-the_row-CStmt-0 body)
    ∙ ap (body_pieces (deeper depth)) (items_hidden-the_row-CStmt-0 body))

-- ---- tables, functions and units

abbrev pub fraction_pieces : Ratio → List Piece
fraction_pieces v = Sign (codes "{") ∷ blank ∷ value_pieces v ++ (blank ∷ Sign (codes "}") ∷ [])

-- each behind a comma
abbrev pub more_items : List Ratio → List Piece
more_items [] = []
more_items (v ∷ vs) = Sign (codes ",") ∷ blank ∷ fraction_pieces v ++ more_items vs

abbrev pub items_pieces : List Ratio → List Piece
items_pieces [] = []
items_pieces (v ∷ vs) = blank ∷ fraction_pieces v ++ more_items vs

abbrev pub table_pieces : ℕ → List Ratio → List Piece
table_pieces k vs =
    indent 0 ∷ Solid (codes "static") ∷ blank ∷ Solid (codes "const") ∷ blank ∷ Solid (codes "fr_lit") ∷ blank
    ∷ Solid (table_name k) ∷ Sign (codes "[") ∷ number (length vs) ∷ Sign (codes "]") ∷ blank
    ∷ Sign (codes "=") ∷ blank ∷ Sign (codes "{") ∷ items_pieces vs ++ (blank ∷ Sign (codes "}") ∷ Sign (codes ";")
    ∷ feed ∷ [])

-- tables, the first of them with this number
abbrev pub tables_pieces : ℕ → List (List Ratio) → List Piece
tables_pieces k [] = []
tables_pieces k (t ∷ ts) = table_pieces k t ++ tables_pieces (k + 1) ts

abbrev pub size_pieces : List ℕ → List ℕ → ℕ → List Piece
size_pieces name array n = Solid (name ++ (codes "_" ++ array)) ∷ blank ∷ Sign (codes "=") ∷ blank ∷ number n ∷ []

abbrev pub enum_pieces : CFun → List Piece
enum_pieces f =
    Solid (codes "enum") ∷ blank ∷ Sign (codes "{") ∷ blank ∷ size_pieces f.name (codes "X") f.x
    ++ (Sign (codes ",") ∷ blank ∷ size_pieces f.name (codes "W") f.w
    ++ (Sign (codes ",") ∷ blank ∷ size_pieces f.name (codes "T") f.t
    ++ (Sign (codes ",") ∷ blank ∷ size_pieces f.name (codes "A") f.a
    ++ (blank ∷ Sign (codes "}") ∷ Sign (codes ";") ∷ feed ∷ []))))

abbrev pub signature_pieces : List ℕ → List Piece
signature_pieces name =
    Solid (codes "int") ∷ blank ∷ Solid name ∷ Sign (codes "(") ∷ Solid (codes "const") ∷ blank ∷ Solid (codes "fr")
    ∷ blank ∷ Sign (codes "*") ∷ Solid (codes "X") ∷ Sign (codes ",") ∷ blank
    ∷ Solid (codes "const") ∷ blank ∷ Solid (codes "fr") ∷ blank ∷ Sign (codes "*") ∷ Solid (codes "W")
    ∷ Sign (codes ",") ∷ blank
    ∷ Solid (codes "fr") ∷ blank ∷ Sign (codes "*") ∷ Solid (codes "A") ∷ Sign (codes ")") ∷ feed ∷ Sign (codes "{")
    ∷ feed ∷ []

abbrev pub clear_pieces : List ℕ → ℕ → List Piece
clear_pieces array n =
    indent 0 ∷ Solid (codes "fr_clear") ∷ Sign (codes "(") ∷ Solid array ∷ Sign (codes ",") ∷ blank ∷ number n
    ∷ Sign (codes ")") ∷ Sign (codes ";") ∷ feed ∷ []

abbrev pub slots_pieces : CFun → List Piece
slots_pieces f =
    indent 0 ∷ Solid (codes "fr") ∷ blank ∷ Solid (codes "T") ∷ Sign (codes "[") ∷ number f.t ∷ Sign (codes "]")
    ∷ Sign (codes ";") ∷ feed
    ∷ clear_pieces (codes "T") f.t ++ clear_pieces (codes "A") f.a

abbrev pub end_pieces : List Piece
end_pieces =
    indent 0 ∷ Solid (codes "return") ∷ blank ∷ Solid (codes "0") ∷ Sign (codes ";") ∷ feed ∷ Sign (codes "}")
    ∷ feed ∷ []

abbrev pub fun_pieces : CFun → List Piece
fun_pieces f =
    enum_pieces f ++ (signature_pieces f.name ++ (slots_pieces f ++ (tables_pieces 0 f.tables
    ++ (body_pieces 0 f.body ++ end_pieces))))

abbrev pub funs_pieces : List CFun → List Piece
funs_pieces [] = []
funs_pieces (f ∷ fs) = fun_pieces f ++ funs_pieces fs

abbrev pub unit_pieces : CUnit → List Piece
unit_pieces u = Solid (codes "#include") ∷ blank ∷ Solid (codes "\"fr.h\"") ∷ feed ∷ funs_pieces u.funs

-- the canonical text
unfoldable pub canonical : CUnit → List ℕ
canonical u = text_of (unit_pieces u)
