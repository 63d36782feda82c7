-- The texts of slots, places and fractions
use Rattle.std.proofs.Common.{◌≡◌, refl, sym, ◌∙◌, ap, ℕ, List, [], ◌∷◌, ◌++◌, append_assoc, ◌/◌, ◌%◌, ◌^◌, slice_index, codes, decimal, unsigned_abs, suc, ◌+◌, ◌<◌, length, get_or, drop, drop-cons, add-one}
use Rattle.c_unit.specs.Meaning.{deeper}
use Rattle.c_unit.specs.declared.unit.CStmt.{CStmt}
use Rattle.c_unit.specs.declared.unit.CStmt.TheViews as View
use Rattle.c_unit.specs.declared.unit.CFun.{CFun}
use Rattle.algebra.specs.LowestTerms.{top, bottom}
use Rattle.ratio.specs.declared.reduced.Ratio.{Ratio}
use Rattle.ratio.specs.Value.{fraction_of}
use Rattle.c_unit.specs.declared.unit.Slot.{Slot}
use Rattle.c_unit.specs.declared.unit.Place.{Place}
use Rattle.c_text.specs.Pieces.{Piece, Sign, blank, feed, text_of, bytes_of}
use Rattle.c_text.specs.Layout.{step_pieces, steps_pieces, slot_pieces, place_pieces, value_pieces, indent, call_pieces, test_pieces, both_pieces, item_pieces, one_pieces, one_pieces-For, body_pieces, fraction_pieces, items_pieces, more_items, table_pieces, tables_pieces, enum_pieces, signature_pieces, slots_pieces, fun_pieces, funs_pieces}
use Rattle.c_text.specs.Parts.{opening, half_bytes, sign_bytes, call_bytes, test_bytes, inverse_bytes, load_bytes, header_bytes}

pub text_of-append : (ps qs : List Piece) → text_of (ps ++ qs) ≡ text_of ps ++ text_of qs
text_of-append [] qs = refl
text_of-append (p ∷ ps) qs = ap (λ t. bytes_of p ++ t) (text_of-append ps qs) ∙ sym (append_assoc (bytes_of p) (text_of ps) (text_of qs))

pub text_steps : (s : List ℕ) → text_of (steps_pieces s)
    ≡ text_of (step_pieces 0 (slice_index s 0)) ++ (text_of (step_pieces 1 (slice_index s 1)) ++ (text_of (step_pieces 2 (slice_index s 2)) ++ text_of (step_pieces 3 (slice_index s 3))))
unfolding steps_pieces
text_steps s = simp text_of-append

pub text_slot : (s : Slot) → text_of (slot_pieces s) ≡ decimal s.base ++ text_of (steps_pieces s.steps)
unfolding slot_pieces
text_slot s = refl

pub text_place : (p : Place) → text_of (place_pieces p) ≡ opening p.array ++ (text_of (slot_pieces p.slot) ++ codes "]")
unfolding place_pieces
text_place p = simp text_of-append (simp append_assoc)

pub text_value : (v : Ratio) → text_of (value_pieces v)
    ≡ sign_bytes (top (fraction_of v))
    ++ (half_bytes (unsigned_abs (top (fraction_of v)) / 2 ^ 64) ++ half_bytes (unsigned_abs (top (fraction_of v)) % 2 ^ 64)
    ++ (half_bytes (bottom (fraction_of v) / 2 ^ 64) ++ half_bytes (bottom (fraction_of v) % 2 ^ 64)))
unfolding value_pieces
text_value v = simp append_assoc

-- ---- the lines of statements

pub text_call : (depth : ℕ) (name : List ℕ) (to : Place) (more : List Piece) → text_of (call_pieces depth name to more) ≡ call_bytes depth name to (text_of more)
text_call depth name to more = simp text_of-append (simp append_assoc)

pub text_test : (depth : ℕ) (name : List ℕ) (to left right : Place) → text_of (test_pieces depth name to (both_pieces left right) (codes "1")) ≡ test_bytes depth name to left right
text_test depth name to left right = simp text_of-append (simp append_assoc)

pub text_inverse : (depth : ℕ) (to arg : Place) → text_of (test_pieces depth (codes "fr_inv") to (place_pieces arg) (codes "2")) ≡ inverse_bytes depth to arg
text_inverse depth to arg = simp text_of-append (simp append_assoc)

text_item : (table : ℕ) (at : Slot) → text_of (item_pieces table at) ≡ codes "&K" ++ (decimal table ++ (codes "[" ++ (text_of (slot_pieces at) ++ codes "]")))
text_item table at = ap (λ t. codes "&K" ++ (decimal table ++ (codes "[" ++ t))) (text_of-append (slot_pieces at) (Sign (codes "]") ∷ []))

pub text_load : (depth : ℕ) (to : Place) (table : ℕ) (at : Slot) → text_of (call_pieces depth (codes "fr_load") to (item_pieces table at)) ≡ load_bytes depth to table at
text_load depth to table at =
    text_call depth (codes "fr_load") to (item_pieces table at) ∙ ap (λ t. call_bytes depth (codes "fr_load") to t) (text_item table at) ∙ simp append_assoc

pub text_loop : (depth n : ℕ) (body : List CStmt) → text_of (one_pieces depth (View.For n body)) ≡ header_bytes depth n ++ (text_of (body_pieces (deeper depth) body) ++ (bytes_of (indent depth) ++ codes "}\n"))
text_loop depth n body = ap text_of (one_pieces-For depth n body) ∙ simp text_of-append (simp append_assoc)

pub text_body_next : (depth : ℕ) (cs : List CStmt) (i : ℕ) (c : CStmt) → i < length cs → c ≡ get_or cs i c
    → text_of (body_pieces depth (drop i cs)) ≡ text_of (one_pieces depth c) ++ text_of (body_pieces depth (drop (i + 1) cs))
text_body_next depth cs i c h e =
    ap (λ l. text_of (body_pieces depth l)) (drop-cons cs i c h)
    ∙ text_of-append (one_pieces depth (get_or cs i c)) (body_pieces depth (drop (suc i) cs))
    ∙ ap (λ x. text_of (one_pieces depth x) ++ text_of (body_pieces depth (drop (suc i) cs))) (sym e)
    ∙ ap (λ n. text_of (one_pieces depth c) ++ text_of (body_pieces depth (drop n cs))) (sym (add-one i))

-- ---- tables and functions

text_fraction : (v : Ratio) → text_of (fraction_pieces v) ≡ codes "{ " ++ (text_of (value_pieces v) ++ codes " }")
text_fraction v = ap (λ t. codes "{ " ++ t) (text_of-append (value_pieces v) (blank ∷ Sign (codes "}") ∷ []))

text_first : (v : Ratio) (ps : List Piece) → text_of (fraction_pieces v ++ ps) ≡ (codes "{ " ++ (text_of (value_pieces v) ++ codes " }")) ++ text_of ps
text_first v ps = text_of-append (fraction_pieces v) ps ∙ ap (λ t. t ++ text_of ps) (text_fraction v)

one_more : (v : Ratio) (vs : List Ratio) → text_of (more_items (v ∷ vs)) ≡ (codes ", { " ++ (text_of (value_pieces v) ++ codes " }")) ++ text_of (more_items vs)
one_more v vs = ap (λ t. codes ", " ++ t) (text_first v (more_items vs))

pub text_more_next : (vs : List Ratio) (i : ℕ) (v : Ratio) → i < length vs → v ≡ get_or vs i v
    → text_of (more_items (drop i vs)) ≡ (codes ", { " ++ (text_of (value_pieces v) ++ codes " }")) ++ text_of (more_items (drop (i + 1) vs))
text_more_next vs i v h e =
    ap (λ l. text_of (more_items l)) (drop-cons vs i v h)
    ∙ ap (λ x. text_of (more_items (x ∷ drop (suc i) vs))) (sym e)
    ∙ one_more v (drop (suc i) vs)
    ∙ ap (λ n. (codes ", { " ++ (text_of (value_pieces v) ++ codes " }")) ++ text_of (more_items (drop n vs))) (sym (add-one i))

pub text_items : (v : Ratio) (vs : List Ratio) → text_of (items_pieces (v ∷ vs)) ≡ (codes " { " ++ (text_of (value_pieces v) ++ codes " }")) ++ text_of (more_items vs)
text_items v vs = ap (λ t. codes " " ++ t) (text_first v (more_items vs))

pub text_table : (k : ℕ) (vs : List Ratio) → text_of (table_pieces k vs)
    ≡ (codes "  static const fr_lit K" ++ (decimal k ++ (codes "[" ++ (decimal (length vs) ++ codes "] = {")))) ++ (text_of (items_pieces vs) ++ codes " };\n")
unfolding indent
text_table k vs =
    ap (λ t. codes "  static const fr_lit K" ++ (decimal k ++ (codes "[" ++ (decimal (length vs) ++ (codes "] = {" ++ t)))))
    (text_of-append (items_pieces vs) (blank ∷ Sign (codes "}") ∷ Sign (codes ";") ∷ feed ∷ []))
    ∙ simp append_assoc

pub text_function : (f : CFun) → text_of (fun_pieces f)
    ≡ text_of (enum_pieces f) ++ (text_of (signature_pieces f.name ++ slots_pieces f) ++ (text_of (tables_pieces 0 f.tables) ++ (text_of (body_pieces 0 f.body) ++ codes "  return 0;\n}\n")))
unfolding indent
text_function f = simp text_of-append (simp append_assoc)

pub text_funs_next : (fs : List CFun) (i : ℕ) (f : CFun) → i < length fs → f ≡ get_or fs i f
    → text_of (funs_pieces (drop i fs)) ≡ text_of (fun_pieces f) ++ text_of (funs_pieces (drop (i + 1) fs))
text_funs_next fs i f h e =
    ap (λ l. text_of (funs_pieces l)) (drop-cons fs i f h)
    ∙ text_of-append (fun_pieces (get_or fs i f)) (funs_pieces (drop (suc i) fs))
    ∙ ap (λ x. text_of (fun_pieces x) ++ text_of (funs_pieces (drop (suc i) fs))) (sym e)
    ∙ ap (λ n. text_of (fun_pieces f) ++ text_of (funs_pieces (drop n fs))) (sym (add-one i))

pub text_tables_next : (ts : List (List Ratio)) (i : ℕ) (t : List Ratio) → i < length ts → t ≡ get_or ts i t
    → text_of (tables_pieces i (drop i ts)) ≡ text_of (table_pieces i t) ++ text_of (tables_pieces (i + 1) (drop (i + 1) ts))
text_tables_next ts i t h e =
    ap (λ l. text_of (tables_pieces i l)) (drop-cons ts i t h)
    ∙ text_of-append (table_pieces i (get_or ts i t)) (tables_pieces (i + 1) (drop (suc i) ts))
    ∙ ap (λ x. text_of (table_pieces i x) ++ text_of (tables_pieces (i + 1) (drop (suc i) ts))) (sym e)
    ∙ ap (λ n. text_of (table_pieces i t) ++ text_of (tables_pieces (i + 1) (drop n ts))) (sym (add-one i))
