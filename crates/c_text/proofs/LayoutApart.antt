-- The pieces of a unit that keeps the rules stay apart
use Rattle.std.proofs.Common.{◌≡◌, refl, sym, ◌∙◌, ap, subst, ℕ, zero, suc, ◌+◌, ◌*◌, ◌/◌, ◌%◌, ◌<◌, ◌≤◌, ◌^◌, Bool, true, false, ◌||◌, if◌then◌else◌, List, [], ◌∷◌, ◌++◌, append_assoc, length, map, replicate, slice_index, slice_index_or, codes, decimal, unsigned_abs, arith}
use Rattle.std.proofs.lemmas.Bool.{lt-ltb}
use Rattle.std.proofs.lemmas.Fmt.{decimal_is_IsNumeral}
use Rattle.algebra.specs.Sign.{is_negative}
use Rattle.algebra.specs.LowestTerms.{top, bottom}
use Rattle.ratio.specs.declared.reduced.Ratio.{Ratio}
use Rattle.ratio.specs.Value.{fraction_of}
use Rattle.ratio.proofs.Reading.{top_reads, bottom_reads}
use Rattle.slices.specs.White.{is_white}
use Rattle.slices.specs.CTable.{is_digit, is_inside_word, is_letter}
use Rattle.c_unit.specs.declared.unit.Array.{Array}
use Rattle.c_unit.specs.declared.unit.Array.TheVariants.{X, W, T, A}
use Rattle.c_unit.specs.declared.unit.Slot.{Slot}
use Rattle.c_unit.specs.declared.unit.Place.{Place}
use Rattle.c_unit.specs.declared.unit.CStmt.{CStmt}
use Rattle.c_unit.specs.declared.unit.CFun.{CFun}
use Rattle.c_unit.specs.declared.unit.CUnit.{CUnit}
use Rattle.c_unit.specs.Rules.{Sizes, HasNumbers, KeepsItem, KeepsSource, KeepsTarget, Keeps, keeps_set, keeps_copy, keeps_abs, keeps_inv, keeps_add, keeps_sub, keeps_mul, keeps_load, keeps_loop, KeepAll, keep_none, keep_more, KeepTables}
use Rattle.c_unit.specs.Meaning.{deeper}
use Rattle.c_text.specs.Lowest.{first, second}
use Rattle.c_text.specs.Pieces.{Piece, Gap, Solid, Sign, blank, feed}
use Rattle.c_text.specs.Layout.{number, counter, step_pieces, steps_pieces, slot_pieces, array_name, place_pieces, value_pieces, indent, call_pieces, test_pieces, both_pieces, table_name, item_pieces, header_pieces, close_pieces, one_pieces, one_pieces-For, body_pieces, fraction_pieces, more_items, items_pieces, table_pieces, tables_pieces, enum_pieces, signature_pieces, clear_pieces, slots_pieces, end_pieces, fun_pieces, funs_pieces, canonical}
use Rattle.c_text.specs.Lawful.{KeepsRules, AllKeepRules, MeetsRules, all_inside, is_name}
use Rattle.c_text.specs.Spelling.{tokens_of, Spells}
use Rattle.c_text.proofs.NumberLaws.{eqb_ne}
use Rattle.c_text.proofs.Lexing.{lex_gap, lex_include, lex_header, all_white, all_digits, or_second, decimal_digits, decimal_inside}
use Rattle.c_text.proofs.Apart.{lexes, is_solid, is_count, count_ends, apart, stops, both, apart_then, stops_then}
use Rattle.c_text.proofs.TableWords.{upper, lower}

-- ---- words

count_digits : (bs : List ℕ) → all_digits bs ≡ true → count_ends bs ≡ true
count_digits [] h = refl
count_digits (b ∷ bs) h = rw (first (is_digit b) _ h) (count_digits bs (second (is_digit b) _ h))

count_half : (bs : List ℕ) → all_digits bs ≡ true → count_ends (bs ++ codes "u") ≡ true
count_half [] h = refl
count_half (b ∷ bs) h = rw (first (is_digit b) _ h) (count_half bs (second (is_digit b) _ h))

count_of : (w : List ℕ) → 0 < length w → all_digits w ≡ true → is_count w ≡ true
count_of [] some h = absurd (omega (arith, some))
count_of (b ∷ bs) some h = both (is_digit b) _ (first (is_digit b) _ h) (count_digits bs (second (is_digit b) _ h))

half_of : (w : List ℕ) → 0 < length w → all_digits w ≡ true → is_count (w ++ codes "u") ≡ true
half_of [] some h = absurd (omega (arith, some))
half_of (b ∷ bs) some h = both (is_digit b) _ (first (is_digit b) _ h) (count_half bs (second (is_digit b) _ h))

solid_decimal : (n : ℕ) → n < 2 ^ 64 → is_solid (decimal n) ≡ true
solid_decimal n h = or_second (is_name (decimal n)) (is_count (decimal n)) (count_of (decimal n) (decimal_is_IsNumeral n h).0.0 (decimal_digits n h))

solid_number : (n : ℕ) → n < 2 ^ 32 → is_solid (decimal n) ≡ true
solid_number n h = solid_decimal n (omega (arith, h))

solid_half : (n : ℕ) → n < 2 ^ 64 → is_solid (decimal n ++ codes "u") ≡ true
solid_half n h = or_second (is_name (decimal n ++ codes "u")) (is_count (decimal n ++ codes "u")) (half_of (decimal n) (decimal_is_IsNumeral n h).0.0 (decimal_digits n h))

or_first : (a b : Bool) → a ≡ true → (a || b) ≡ true
or_first a b h = cc

solid_counter : (k : ℕ) → k < 2 ^ 32 → is_solid (counter k) ≡ true
solid_counter k h = or_first (is_name (counter k)) (is_count (counter k)) (decimal_inside k (omega (arith, h)))

solid_table : (k : ℕ) → k < 2 ^ 32 → is_solid (table_name k) ≡ true
solid_table k h = or_first (is_name (table_name k)) (is_count (table_name k)) (decimal_inside k (omega (arith, h)))

inside_more : (bs cs : List ℕ) → all_inside bs ≡ true → all_inside cs ≡ true → all_inside (bs ++ cs) ≡ true
inside_more [] cs h k = k
inside_more (b ∷ bs) cs h k = both (is_inside_word b) _ (first (is_inside_word b) _ h) (inside_more bs cs (second (is_inside_word b) _ h) k)

name_more : (name suffix : List ℕ) → is_name name ≡ true → all_inside suffix ≡ true → is_name (name ++ suffix) ≡ true
name_more [] suffix h k = cc
name_more (b ∷ bs) suffix h k = both (is_letter b) _ (first (is_letter b) _ h) (inside_more bs suffix (second (is_letter b) _ h) k)

solid_name : (name : List ℕ) → is_name name ≡ true → is_solid name ≡ true
solid_name name h = or_first (is_name name) (is_count name) h

solid_size : (name suffix : List ℕ) → is_name name ≡ true → all_inside suffix ≡ true → is_solid (name ++ suffix) ≡ true
solid_size name suffix h k = solid_name (name ++ suffix) (name_more name suffix h k)

white_line : (n : ℕ) → all_white (replicate n 32) ≡ true
unfolding is_white
white_line zero = refl
white_line (suc n) = white_line n

white_front : (n : ℕ) (ps : List Piece) → 0 < n → stops (Gap (replicate n 32) ∷ ps) ≡ true
white_front zero ps h = absurd (omega (arith, h))
white_front (suc n) ps h = refl

-- the front of a line
line_apart : (depth : ℕ) (ps : List Piece) → apart ps ≡ true → apart (indent depth ∷ ps) ≡ true
unfolding indent
line_apart depth ps h = both (all_white (replicate (2 * depth + 2) 32)) (apart ps) (white_line (2 * depth + 2)) h

line_stops : (depth : ℕ) (ps : List Piece) → stops (indent depth ∷ ps) ≡ true
unfolding indent
line_stops depth ps = white_front (2 * depth + 2) ps (omega arith)

-- ---- slots and places

no_step : (k : ℕ) → step_pieces k 0 ≡ []
unfolding step_pieces
no_step k = refl

one_step : (k n : ℕ) → 0 < n → step_pieces k n ≡ Sign (codes "+") ∷ number n ∷ Sign (codes "*") ∷ Solid (counter k) ∷ []
unfolding step_pieces
one_step k n h = rw (eqb_ne n 0 (λ z. omega (arith, z, h))) refl

-- pieces that stay apart, and into which no word runs on
pub record Good (ps : List Piece) : Type 0 where
  pub apart : apart ps ≡ true
  pub stops : stops ps ≡ true

good_then : {ps qs : List Piece} → Good ps → Good qs → Good (ps ++ qs)
good_then {ps} {qs} p q = record { apart = apart_then ps qs p.apart q.stops q.apart; stops = stops_then ps qs p.stops q.stops }

step_good : (k n : ℕ) → k < 2 ^ 32 → n < 2 ^ 32 → Good (step_pieces k n)
step_good k zero h j = rw (no_step k) (record { apart = refl; stops = refl })
step_good k (suc n) h j = rw (one_step k (suc n) (omega arith)) (record { apart = rw (solid_number (suc n) j) (rw (solid_counter k h) refl); stops = refl })

slot_apart : (s : Slot) → HasNumbers s → apart (slot_pieces s) ≡ true
unfolding slot_pieces steps_pieces
slot_apart s h =
    let a = step_good 0 (slice_index s.steps 0) (omega arith) h.1 in
    let b = step_good 1 (slice_index s.steps 1) (omega arith) h.2 in
    let c = step_good 2 (slice_index s.steps 2) (omega arith) h.3 in
    let d = step_good 3 (slice_index s.steps 3) (omega arith) h.4 in
    let all = good_then a (good_then b (good_then c d)) in
    both (is_solid (decimal s.base)) _ (solid_number s.base h.0) (both (stops (steps_pieces s.steps)) (apart (steps_pieces s.steps)) all.stops all.apart)

solid_array : (a : Array) → is_solid (array_name a) ≡ true
solid_array X = refl
solid_array W = refl
solid_array T = refl
solid_array A = refl

closed : (s : Slot) → HasNumbers s → apart (slot_pieces s ++ Sign (codes "]") ∷ []) ≡ true
closed s h = apart_then (slot_pieces s) (Sign (codes "]") ∷ []) (slot_apart s h) refl refl

place_apart : (p : Place) → HasNumbers p.slot → apart (place_pieces p) ≡ true
unfolding place_pieces is_white
place_apart p h = rw (solid_array p.array) (closed p.slot h)

solid_sign : (g : Bool) → is_solid (if g then codes "1" else codes "0") ≡ true
solid_sign true = refl
solid_sign false = refl

pub value_apart : (v : Ratio) → apart (value_pieces v) ≡ true
unfolding value_pieces is_white
value_apart v =
    let n = unsigned_abs (top (fraction_of v)) in
    let d = bottom (fraction_of v) in
    let fits : n < 2 ^ 127 = subst (λ z. unsigned_abs z < 2 ^ 127) (sym (top_reads v)) v.fits in
    let small : d < 2 ^ 127 = subst (λ k. k < 2 ^ 127) (sym (bottom_reads v)) v.small in
    rw (solid_sign (is_negative (top (fraction_of v))))
    (rw (solid_half (n / 2 ^ 64) (upper n fits)) (rw (solid_half (n % 2 ^ 64) (lower n)) (rw (solid_half (d / 2 ^ 64) (upper d small)) (rw (solid_half (d % 2 ^ 64) (lower d)) refl))))

-- ---- statements

module _ (z : Sizes) (turns : List ℕ) (depth : ℕ) where
  call_good : (name : List ℕ) (to : Place) (more : List Piece) → is_solid name ≡ true → KeepsTarget z turns depth to → apart more ≡ true → Good (call_pieces depth name to more)
  unfolding is_white
  call_good name to more solid target h =
      let end : List Piece = Sign (codes ")") ∷ Sign (codes ";") ∷ feed ∷ [] in
      let behind = apart_then more end h refl refl in
      let call = apart_then (place_pieces to) (Sign (codes ",") ∷ blank ∷ more ++ end) (place_apart to target.numbers) refl behind in
      record { apart = line_apart depth _ (rw solid call); stops = line_stops depth _ }

  test_good : (name : List ℕ) (to : Place) (more : List Piece) (digits : List ℕ) → is_solid name ≡ true → is_solid digits ≡ true → KeepsTarget z turns depth to → apart more ≡ true → Good (test_pieces depth name to more digits)
  unfolding is_white
  test_good name to more digits solid digit target h =
      let end : List Piece = Sign (codes ")") ∷ Sign (codes ")") ∷ blank ∷ Solid (codes "return") ∷ blank ∷ Solid digits ∷ Sign (codes ";") ∷ feed ∷ [] in
      let behind = apart_then more end h refl (rw digit refl) in
      let call = apart_then (place_pieces to) (Sign (codes ",") ∷ blank ∷ more ++ end) (place_apart to target.numbers) refl behind in
      record { apart = line_apart depth _ (rw solid call); stops = line_stops depth _ }

  both_apart : (p q : Place) → KeepsSource z turns depth p → KeepsSource z turns depth q → apart (both_pieces p q) ≡ true
  unfolding is_white
  both_apart p q h k = apart_then (place_pieces p) (Sign (codes ",") ∷ blank ∷ place_pieces q) (place_apart p h.numbers) refl (place_apart q k.numbers)

  item_apart : (k size : ℕ) (at : Slot) → k < 2 ^ 32 → KeepsItem turns depth size at → apart (item_pieces k at) ≡ true
  item_apart k size at h item = rw (solid_table k h) (closed at item.numbers)

header_good : (depth n : ℕ) → depth < 4 → n < 2 ^ 32 → Good (header_pieces depth n)
unfolding is_white
header_good depth n h k =
    record {
      apart = line_apart depth _ (rw (solid_counter depth (omega (arith, h))) (rw (solid_number n k) refl));
      stops = line_stops depth _;
    }

close_good : (depth : ℕ) → Good (close_pieces depth)
unfolding is_white
close_good depth = record { apart = line_apart depth _ refl; stops = line_stops depth _ }

one_deeper : (depth : ℕ) → depth < 4 → deeper depth ≡ depth + 1
one_deeper depth h = rw (lt-ltb depth 4 h) refl

mutual
  one_good : {z : Sizes} {turns : List ℕ} {depth : ℕ} {c : CStmt} → Keeps z turns depth c → length z.tables ≤ 2 ^ 32 → Good (one_pieces depth c)
  one_good {z} {turns} {depth} (keeps_set {to = to} {v = v} k) = λ few. call_good z turns depth (codes "fr_set") to (value_pieces v) refl k (value_apart v)
  one_good {z} {turns} {depth} (keeps_copy {to = to} {p = p} k h) = λ few. call_good z turns depth (codes "fr_copy") to (place_pieces p) refl k (place_apart p h.numbers)
  one_good {z} {turns} {depth} (keeps_abs {to = to} {p = p} k h) = λ few. call_good z turns depth (codes "fr_abs") to (place_pieces p) refl k (place_apart p h.numbers)
  one_good {z} {turns} {depth} (keeps_inv {to = to} {p = p} k h) = λ few. test_good z turns depth (codes "fr_inv") to (place_pieces p) (codes "2") refl refl k (place_apart p h.numbers)
  one_good {z} {turns} {depth} (keeps_add {to = to} {p = p} {q = q} k h i) = λ few. test_good z turns depth (codes "fr_add") to (both_pieces p q) (codes "1") refl refl k (both_apart z turns depth p q h i)
  one_good {z} {turns} {depth} (keeps_sub {to = to} {p = p} {q = q} k h i) = λ few. test_good z turns depth (codes "fr_sub") to (both_pieces p q) (codes "1") refl refl k (both_apart z turns depth p q h i)
  one_good {z} {turns} {depth} (keeps_mul {to = to} {p = p} {q = q} k h i) = λ few. test_good z turns depth (codes "fr_mul") to (both_pieces p q) (codes "1") refl refl k (both_apart z turns depth p q h i)
  one_good {z} {turns} {depth} (keeps_load {to = to} {k = k} {at = at} target t h item) = λ few.
      call_good z turns depth (codes "fr_load") to (item_pieces k at) refl target (item_apart z turns depth k (slice_index_or z.tables k 0) at (omega (arith, h, few)) item)
  one_good {z} {turns} {depth} (keeps_loop {n = n} {body = body} four some small keep) = λ few.
      subst Good (sym (one_pieces-For depth n body))
      (good_then (header_good depth n four small) (good_then (subst (λ d. Good (body_pieces d body)) (sym (one_deeper depth four)) (body_good keep few)) (close_good depth)))

  body_good : {z : Sizes} {turns : List ℕ} {depth : ℕ} {cs : List CStmt} → KeepAll z turns depth cs → length z.tables ≤ 2 ^ 32 → Good (body_pieces depth cs)
  body_good keep_none = λ few. record { apart = refl; stops = refl }
  body_good (keep_more k ks) = λ few. good_then (one_good k few) (body_good ks few)

-- ---- tables

fraction_good : (v : Ratio) → Good (fraction_pieces v)
unfolding is_white
fraction_good v = record { apart = apart_then (value_pieces v) (blank ∷ Sign (codes "}") ∷ []) (value_apart v) refl refl; stops = refl }

more_good : (vs : List Ratio) → Good (more_items vs)
unfolding is_white
more_good [] = record { apart = refl; stops = refl }
more_good (v ∷ vs) = let g = good_then (fraction_good v) (more_good vs) in record { apart = g.apart; stops = refl }

items_good : (vs : List Ratio) → Good (items_pieces vs)
unfolding is_white
items_good [] = record { apart = refl; stops = refl }
items_good (v ∷ vs) = let g = good_then (fraction_good v) (more_good vs) in record { apart = g.apart; stops = refl }

table_good : (k : ℕ) (vs : List Ratio) → k < 2 ^ 32 → length vs ≤ 2 ^ 24 → Good (table_pieces k vs)
unfolding is_white
table_good k vs h few =
    let end = apart_then (items_pieces vs) (blank ∷ Sign (codes "}") ∷ Sign (codes ";") ∷ feed ∷ []) (items_good vs).apart refl refl in
    record { apart = line_apart 0 _ (rw (solid_table k h) (rw (solid_number (length vs) (omega (arith, few))) end)); stops = line_stops 0 _ }

pub tables_good : (k : ℕ) (ts : List (List Ratio)) → k + length ts ≤ 2 ^ 32 → KeepTables ts → Good (tables_pieces k ts)
tables_good k [] few keeps = record { apart = refl; stops = refl }
tables_good k (t ∷ ts) few keeps = good_then (table_good k t (omega (arith, few)) keeps.1) (tables_good (k + 1) ts (omega (arith, few)) keeps.2)

-- ---- functions

clear_good : (array : List ℕ) (n : ℕ) → is_solid array ≡ true → n < 2 ^ 32 → Good (clear_pieces array n)
unfolding is_white
clear_good array n h k = record { apart = line_apart 0 _ (rw h (rw (solid_number n k) refl)); stops = line_stops 0 _ }

slots_good : (f : CFun) → KeepsRules f → Good (slots_pieces f)
unfolding is_white
slots_good f keeps =
    let t : f.t < 2 ^ 32 = let h = keeps.sizes.t in omega (arith, h) in
    let a : f.a < 2 ^ 32 = let h = keeps.sizes.a in omega (arith, h) in
    let clears = good_then (clear_good (codes "T") f.t refl t) (clear_good (codes "A") f.a refl a) in
    record { apart = line_apart 0 _ (both (is_solid (decimal f.t)) (apart (clear_pieces (codes "T") f.t ++ clear_pieces (codes "A") f.a)) (solid_number f.t t) clears.apart); stops = line_stops 0 _ }

end_good : (ps : List Piece) → apart ps ≡ true → Good (end_pieces ++ ps)
unfolding is_white
end_good ps h = record { apart = line_apart 0 _ h; stops = line_stops 0 _ }

signature_apart : (name : List ℕ) (ps : List Piece) → is_name name ≡ true → apart ps ≡ true → apart (signature_pieces name ++ ps) ≡ true
unfolding is_white
signature_apart name ps h k = rw (solid_name name h) k

enum_apart : (f : CFun) (ps : List Piece) → KeepsRules f → apart ps ≡ true → apart (enum_pieces f ++ ps) ≡ true
unfolding is_white
enum_apart f ps keeps h =
    let x : f.x < 2 ^ 32 = let k = keeps.sizes.x in omega (arith, k) in
    let w : f.w < 2 ^ 32 = let k = keeps.sizes.w in omega (arith, k) in
    let t : f.t < 2 ^ 32 = let k = keeps.sizes.t in omega (arith, k) in
    let a : f.a < 2 ^ 32 = let k = keeps.sizes.a in omega (arith, k) in
    rw (solid_size f.name (codes "_X") keeps.name refl)
    (rw (solid_number f.x x)
    (rw (solid_size f.name (codes "_W") keeps.name refl)
    (rw (solid_number f.w w)
    (rw (solid_size f.name (codes "_T") keeps.name refl) (rw (solid_number f.t t) (rw (solid_size f.name (codes "_A") keeps.name refl) (rw (solid_number f.a a) h)))))))

length_lengths : (ts : List (List Ratio)) → length (map length ts) ≡ length ts
length_lengths [] = refl
length_lengths (t ∷ ts) = ap suc (length_lengths ts)

fun_again : (f : CFun) (ps : List Piece) → fun_pieces f ++ ps ≡ enum_pieces f ++ (signature_pieces f.name ++ (slots_pieces f ++ (tables_pieces 0 f.tables ++ (body_pieces 0 f.body ++ (end_pieces ++ ps)))))
fun_again f ps = simp append_assoc

fun_apart : (f : CFun) (ps : List Piece) → KeepsRules f → apart ps ≡ true → apart (fun_pieces f ++ ps) ≡ true
fun_apart f ps keeps h =
    let few : length (map length f.tables) ≤ 2 ^ 32 = rw (length_lengths f.tables) keeps.sizes.numbered in
    let tables = tables_good 0 f.tables (let k = keeps.sizes.numbered in omega (arith, k)) keeps.sizes.tables in
    let rest = good_then (slots_good f keeps) (good_then tables (good_then (body_good keeps.sizes.statements few) (end_good ps h))) in
    let behind : List Piece = slots_pieces f ++ (tables_pieces 0 f.tables ++ (body_pieces 0 f.body ++ (end_pieces ++ ps))) in
    ap apart (fun_again f ps) ∙ enum_apart f (signature_pieces f.name ++ behind) keeps (signature_apart f.name behind keeps.name rest.apart)

funs_apart : (earlier fs : List CFun) → AllKeepRules earlier fs → apart (funs_pieces fs) ≡ true
funs_apart earlier [] keeps = refl
funs_apart earlier (f ∷ fs) keeps = fun_apart f (funs_pieces fs) keeps.0 (funs_apart (earlier ++ f ∷ []) fs keeps.2)

-- the canonical text of a unit spells it
pub canonical_spells : (u : CUnit) → MeetsRules u → Spells (canonical u) u
unfolding canonical tokens_of is_white
canonical_spells u keeps =
    let l = lex_include _ _ (lex_gap (codes " ") _ _ refl (lex_header _ _ (lex_gap (codes "\n") _ _ refl (lexes (funs_pieces u.funs) (funs_apart [] u.funs keeps))))) in
    record { words = l.words 0 1; nothing_else = l.nothing_else 0 1 }
