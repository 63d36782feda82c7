-- Fractions and tables are read from their words
use Rattle.std.proofs.Common.{◌≡◌, refl, sym, ◌∙◌, ap, subst, ℕ, suc, ◌+◌, ◌*◌, ◌/◌, ◌%◌, ◌<◌, ◌≤◌, ◌^◌, ℤ, pos, negsuc, Bool, true, false, ◌&&◌, ◌==◌, if◌then◌else◌, List, [], ◌∷◌, ◌++◌, append_assoc, length, Some, Ok, codes, decimal, unsigned_abs, arith}
use Rattle.std.proofs.lemmas.Bool.{eq-eqb, le-ltb}
use Rattle.std.proofs.lemmas.List.{length-append, append-nil}
use Rattle.std.proofs.lemmas.Nat.{div-add-mod'}
use Rattle.std.proofs.Math.Nat.{mod-lt}
use Rattle.algebra.specs.Sign.{signed, is_negative}
use Rattle.algebra.specs.LowestTerms.{top, bottom}
use Rattle.ratio.specs.declared.reduced.Ratio.{Ratio}
use Rattle.ratio.specs.Value.{fraction_of}
use Rattle.ratio.proofs.Reading.{top_reads, bottom_reads}
use Rattle.c_text.specs.Stream.{Stream, ◌>>=◌, repeat, is_ahead}
use Rattle.c_text.specs.Pieces.{Sign, blank, feed, words_of}
use Rattle.c_text.specs.Layout.{value_pieces, fraction_pieces, more_items, items_pieces, table_name, table_pieces, tables_pieces, indent}
use Rattle.c_text.specs.Lowest.{fraction_from}
use Rattle.c_text.specs.Fractions.{sign_at, half_at, part_at, fraction_at, item_at, further_item_at, add_item, further_items_at, items_at, table_name_at, is_miscounted, table_at, add_table, tables_at}
use Rattle.c_unit.specs.Rules.{KeepTables}
use Rattle.c_text.proofs.NumberLaws.{eqb_ne}
use Rattle.c_text.proofs.LowestLaws.{kept}
use Rattle.c_text.proofs.Repeats.{one_more, all_read}
use Rattle.c_text.proofs.Eats.{Eats, eats_split, cut, one_eaten, expected, is_ahead_of, eaten_length, none_eaten}
use Rattle.c_text.proofs.NumberTexts.{half_decimal, table_decimal}
use Rattle.c_text.proofs.PlaceWords.{number_read}

-- ---- fractions

sign_read : (g : Bool) (s r : Stream) → Eats ((if g then codes "1" else codes "0") ∷ []) s r → sign_at s ≡ Ok (g, r)
unfolding sign_at
sign_read true s r e = let p = one_eaten (codes "1") s r e in rw p.1 (rw p.2 refl)
sign_read false s r e = let p = one_eaten (codes "0") s r e in rw p.1 (rw p.2 refl)

half_read : (n : ℕ) (s r : Stream) → n < 2 ^ 64 → Eats (codes "," ∷ (decimal n ++ codes "u") ∷ []) s r → (l : ℕ) × (half_at s ≡ Ok ((n, l), r))
unfolding half_at
half_read n s r h e =
    let a = eats_split (codes "," ∷ []) ((decimal n ++ codes "u") ∷ []) s r e in
    let b = expected (codes ",") s a.0 a.1 in
    let c = one_eaten (decimal n ++ codes "u") a.0 r a.2 in
    (c.0.line, rw b.1 (rw c.1 (rw c.2 (rw (half_decimal n h) refl))))

part_read : (h l : ℕ) (s r : Stream) → h < 2 ^ 64 → l < 2 ^ 64 → Eats (codes "," ∷ (decimal h ++ codes "u") ∷ codes "," ∷ (decimal l ++ codes "u") ∷ []) s r
    → (k : ℕ) × (part_at s ≡ Ok ((h * 2 ^ 64 + l, k), r))
unfolding part_at
part_read h l s r p q e =
    let a = eats_split (codes "," ∷ (decimal h ++ codes "u") ∷ []) (codes "," ∷ (decimal l ++ codes "u") ∷ []) s r e in
    let b = half_read h s a.0 p a.1 in
    let c = half_read l a.0 r q a.2 in
    (c.0, rw b.1 (rw c.1 refl))

-- a part of a fraction is its quotient and its rest by 2^64
whole : (n : ℕ) → (n / 2 ^ 64) * 2 ^ 64 + n % 2 ^ 64 ≡ n
whole n = div-add-mod' n (2 ^ 64)

pub upper : (n : ℕ) → n < 2 ^ 127 → n / 2 ^ 64 < 2 ^ 64
upper n h = omega (arith, h, div-add-mod' n (2 ^ 64))

pub lower : (n : ℕ) → n % 2 ^ 64 < 2 ^ 64
lower n = mod-lt n (omega arith)

sign_back : (z : ℤ) → z ≡ signed (is_negative z) (unsigned_abs z)
sign_back (pos n) = refl
sign_back (negsuc n) = refl

no_negative_zero : (z : ℤ) → (is_negative z && unsigned_abs z == 0) ≡ false
no_negative_zero (pos n) = refl
no_negative_zero (negsuc n) = eqb_ne (suc n) 0 (λ e. omega (arith, e))

pub value_read : (v : Ratio) (s r : Stream) → Eats (words_of (value_pieces v)) s r → fraction_at s ≡ Ok (v, r)
unfolding fraction_at value_pieces
value_read v s r e =
    let n = unsigned_abs (top (fraction_of v)) in
    let d = bottom (fraction_of v) in
    let a = eats_split ((if is_negative (top (fraction_of v)) then codes "1" else codes "0") ∷ []) _ s r e in
    let b = eats_split (codes "," ∷ (decimal (n / 2 ^ 64) ++ codes "u") ∷ codes "," ∷ (decimal (n % 2 ^ 64) ++ codes "u") ∷ []) _ a.0 r a.2 in
    let fits : n < 2 ^ 127 = subst (λ z. unsigned_abs z < 2 ^ 127) (sym (top_reads v)) v.fits in
    let small : d < 2 ^ 127 = subst (λ k. k < 2 ^ 127) (sym (bottom_reads v)) v.small in
    let g = sign_read (is_negative (top (fraction_of v))) s a.0 a.1 in
    let p = part_read (n / 2 ^ 64) (n % 2 ^ 64) a.0 b.0 (upper n fits) (lower n) b.1 in
    let q = part_read (d / 2 ^ 64) (d % 2 ^ 64) b.0 r (upper d small) (lower d) b.2 in
    let k : Some v ≡ fraction_from (is_negative (top (fraction_of v))) n d = kept (is_negative (top (fraction_of v))) n d v (sign_back (top (fraction_of v))) refl (no_negative_zero (top (fraction_of v))) in
    rw g (rw p.1 (rw q.1 (rw (whole n) (rw (whole d) (rw (sym k) refl)))))

pub item_read : (v : Ratio) (s r : Stream) → Eats (words_of (fraction_pieces v)) s r → item_at s ≡ Ok (v, r)
unfolding item_at
item_read v s r e =
    let a = eats_split (codes "{" ∷ []) (words_of (value_pieces v ++ (blank ∷ Sign (codes "}") ∷ []))) s r e in
    let b = cut (value_pieces v) (blank ∷ Sign (codes "}") ∷ []) a.0 r a.2 in
    let o = expected (codes "{") s a.0 a.1 in
    let p = value_read v a.0 b.0 b.1 in
    let c = expected (codes "}") b.0 r b.2 in
    rw o.1 (rw p (rw c.1 refl))

-- ---- tables

abbrev comma : Stream → Bool
comma s = is_ahead (codes ",") s

more_read : (v : Ratio) (s r : Stream) → Eats (words_of (Sign (codes ",") ∷ blank ∷ fraction_pieces v)) s r → further_item_at s ≡ Ok (v, r)
unfolding further_item_at
more_read v s r e =
    let a = eats_split (codes "," ∷ []) (words_of (fraction_pieces v)) s r e in
    let b = expected (codes ",") s a.0 a.1 in
    rw b.1 (item_read v a.0 r a.2)

-- further items on top of these, with at most m more
further_on : (vs done : List Ratio) (m : ℕ) (s r : Stream) → length s.tokens ≤ m → Eats (words_of (more_items vs)) s r → comma r ≡ false → repeat comma add_item m done s ≡ Ok (done ++ vs, r)
further_on [] done m s r l e stop =
    let h = none_eaten s r e in
    all_read comma add_item m _ done r (ap (repeat comma add_item m done) h) stop ∙ ap (λ vs. Ok (vs, r)) (sym (append-nil done))
further_on (v ∷ vs) done m s r l e stop =
    let a = cut (Sign (codes ",") ∷ blank ∷ fraction_pieces v) (more_items vs) s r e in
    let t = is_ahead_of (codes ",") (codes ",") (words_of (fraction_pieces v)) s a.0 a.1 in
    let p = more_read v s a.0 a.1 in
    let k = eaten_length (words_of (Sign (codes ",") ∷ blank ∷ fraction_pieces v)) s a.0 a.1 in
    let o = one_more comma add_item m (length s.tokens) (length a.0.tokens) _ done s (done ++ v ∷ [], a.0) l (omega (arith, k)) refl t (ap (λ x. x >>= λ x. Ok (done ++ x.0 ∷ [], x.1)) p) in
    o.2 ∙ further_on vs (done ++ v ∷ []) o.0 a.0 r o.1 a.2 stop ∙ ap (λ vs. Ok (vs, r)) (append_assoc done (v ∷ []) vs)

pub items_read : (v : Ratio) (vs : List Ratio) (s r : Stream) → Eats (words_of (items_pieces (v ∷ vs))) s r → comma r ≡ false → items_at s ≡ Ok (v ∷ vs, r)
unfolding items_at further_items_at
items_read v vs s r e stop =
    let a = cut (fraction_pieces v) (more_items vs) s r e in
    let t = is_ahead_of (codes "}") (codes "{") (words_of (value_pieces v ++ (blank ∷ Sign (codes "}") ∷ []))) s a.0 a.1 in
    let p = item_read v s a.0 a.1 in
    let q = further_on vs (v ∷ []) (length a.0.tokens) a.0 r (omega arith) a.2 stop in
    rw t (rw p q)

name_read : (k : ℕ) (s r : Stream) → k < 2 ^ 32 → Eats (table_name k ∷ []) s r → table_name_at k s ≡ Ok (tt, r)
unfolding table_name_at
name_read k s r h e = let p = one_eaten (table_name k) s r e in rw p.1 (rw p.2 (rw (table_decimal k h) (rw (eq-eqb k k refl) refl)))

well_counted : (n : ℕ) → 0 < n → n ≤ 2 ^ 24 → is_miscounted n n ≡ false
well_counted n h k = rw (eqb_ne n 0 (λ e. omega (arith, e, h))) (rw (le-ltb 16777216 n k) (rw (eq-eqb n n refl) refl))

pub table_read : (k : ℕ) (vs : List Ratio) (s r : Stream) → k < 2 ^ 32 → 0 < length vs → length vs ≤ 2 ^ 24 → Eats (words_of (table_pieces k vs)) s r → table_at k s ≡ Ok (vs, r)
unfolding table_at indent
table_read k [] s r h some few e = absurd (omega (arith, some))
table_read k (v ∷ vs) s r h some few e =
    let n = length (v ∷ vs) in
    let a = eats_split (codes "static" ∷ codes "const" ∷ codes "fr_lit" ∷ []) _ s r e in
    let b = eats_split (table_name k ∷ []) _ a.0 r a.2 in
    let c = eats_split (codes "[" ∷ []) _ b.0 r b.2 in
    let d = eats_split (decimal n ∷ []) _ c.0 r c.2 in
    let f = eats_split (codes "]" ∷ codes "=" ∷ codes "{" ∷ []) (words_of (items_pieces (v ∷ vs) ++ (blank ∷ Sign (codes "}") ∷ Sign (codes ";") ∷ feed ∷ []))) d.0 r d.2 in
    let g = cut (items_pieces (v ∷ vs)) (blank ∷ Sign (codes "}") ∷ Sign (codes ";") ∷ feed ∷ []) f.0 r f.2 in
    let i = eats_split (codes "}" ∷ []) (codes ";" ∷ []) g.0 r g.2 in
    let stop = is_ahead_of (codes ",") (codes "}") [] g.0 i.0 i.1 in
    let name = name_read k a.0 b.0 h b.1 in
    let bracket = expected (codes "[") b.0 c.0 c.1 in
    let stated = number_read n c.0 d.0 (omega (arith, few)) d.1 in
    let items = items_read v vs f.0 g.0 g.1 stop in
    let close = expected (codes "}") g.0 i.0 i.1 in
    let end = expected (codes ";") i.0 r i.2 in
    rw a.1 (rw name (rw bracket.1 (rw stated.1 (rw f.1 (rw items (rw close.1 (rw (well_counted n some few) (rw end.1 refl))))))))

abbrev static : Stream → Bool
static s = is_ahead (codes "static") s

tables_on : (ts done : List (List Ratio)) (m : ℕ) (s r : Stream) → length s.tokens ≤ m → length done + length ts ≤ 2 ^ 32 → KeepTables ts → Eats (words_of (tables_pieces (length done) ts)) s r → static r ≡ false
    → repeat static add_table m done s ≡ Ok (done ++ ts, r)
unfolding indent
tables_on [] done m s r l few keeps e stop =
    let h = none_eaten s r e in
    all_read static add_table m _ done r (ap (repeat static add_table m done) h) stop ∙ ap (λ ts. Ok (ts, r)) (sym (append-nil done))
tables_on (t ∷ ts) done m s r l few keeps e stop =
    let a = cut (table_pieces (length done) t) (tables_pieces (length done + 1) ts) s r e in
    let b = is_ahead_of (codes "static") (codes "static") _ s a.0 a.1 in
    let p = table_read (length done) t s a.0 (omega (arith, few)) keeps.0 keeps.1 a.1 in
    let k = eaten_length (words_of (table_pieces (length done) t)) s a.0 a.1 in
    let o = one_more static add_table m (length s.tokens) (length a.0.tokens) _ done s (done ++ t ∷ [], a.0) l (omega (arith, k)) refl b (ap (λ x. x >>= λ x. Ok (done ++ x.0 ∷ [], x.1)) p) in
    let n : length (done ++ t ∷ []) ≡ length done + 1 = length-append done (t ∷ []) in
    o.2
    ∙ tables_on ts (done ++ t ∷ []) o.0 a.0 r o.1 (omega (arith, n, few)) keeps.2 (rw n a.2) stop
    ∙ ap (λ ts. Ok (ts, r)) (append_assoc done (t ∷ []) ts)

pub tables_read : (ts : List (List Ratio)) (s r : Stream) → length ts ≤ 2 ^ 32 → KeepTables ts → Eats (words_of (tables_pieces 0 ts)) s r → static r ≡ false → tables_at s ≡ Ok (ts, r)
unfolding tables_at
tables_read ts s r few keeps e stop = tables_on ts [] (length s.tokens) s r (omega arith) (omega (arith, few)) keeps e stop
