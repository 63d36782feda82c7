-- What is read as a fraction or a table consists of its words, and keeps the rules
use Rattle.std.proofs.Common.{◌≡◌, refl, sym, ◌∙◌, ap, ap₂, subst, ℕ, zero, suc, ◌+◌, ◌*◌, ◌/◌, ◌%◌, ◌<◌, ◌≤◌, ◌^◌, Bool, true, false, ◌&&◌, ◌||◌, not, ◌==◌, nat_lt, if◌then◌else◌, List, [], ◌∷◌, ◌++◌, append_assoc, length, Option, Some, None, Result, Ok, Err, codes, decimal, arith}
use Rattle.std.specs.Str.{bytes_eq}
use Rattle.std.proofs.lemmas.Bool.{eqb-true, ltb-false}
use Rattle.std.proofs.lemmas.List.{append-nil, length-append}
use Rattle.std.proofs.lemmas.Nat.{div-add-mod'}
use Rattle.std.proofs.Math.Nat.{mod-lt}
use Rattle.std.proofs.lemmas.Slice.Eq.{bytes_eq-Decides}
use Rattle.algebra.specs.Sign.{signed, is_negative}
use Rattle.algebra.proofs.Signs.{size_of_signed}
use Rattle.ratio.specs.declared.reduced.Ratio.{Ratio}
use Rattle.ratio.proofs.Reading.{top_reads, bottom_reads}
use Rattle.slices.specs.Tokens.{Token}
use Rattle.c_text.specs.declared.refusal.KernelRefusal.{KernelRefusal}
use Rattle.c_text.specs.declared.refusal.KernelKind.TheVariants as kinds
use Rattle.c_text.specs.Stream.{Stream, Read, ◌>>=◌, refusal, shift, expect, expects, repeat, repeat_while, is_ahead}
use Rattle.c_text.specs.Pieces.{Sign, blank, feed, words_of}
use Rattle.c_text.specs.Layout.{parts_pieces, value_pieces, fraction_pieces, more_items, items_pieces, table_name, table_pieces, tables_pieces, indent}
use Rattle.c_text.specs.Numbers.{half_value, table_value}
use Rattle.c_text.specs.Places.{number_at}
use Rattle.c_text.specs.Lowest.{fraction_from, is_lowest, second}
use Rattle.c_text.specs.Fractions.{sign_at, half_at, part_at, bound_by, fraction_at, item_at, further_item_at, add_item, further_items_at, items_at, is_number, table_name_at, is_miscounted, table_at, add_table, tables_at}
use Rattle.c_unit.specs.Rules.{KeepTables}
use Rattle.c_text.proofs.LowestLaws.{none_from, some_from}
use Rattle.c_text.proofs.Eats.{Eats, bind_ok, eats_join, glue, taken, shifted}
use Rattle.c_text.proofs.NumberTexts.{half_back, table_back}
use Rattle.c_text.proofs.PlaceTold.{required_ok, passed_on, held, ends, number_told, nothing}

-- ---- repeats

-- Either nothing more was read, or one more and then the rest.
pub data Repeats {A : Type 0} (more : Stream → Bool) (one : A → Stream → Read A) (n : ℕ) (a : A) (s : Stream) (x : A × Stream) : Type 0 where
  stops : more s ≡ false → (a, s) ≡ x → Repeats more one n a s x
  goes_on : (y : A × Stream) → one a s ≡ Ok y → repeat more one n y.0 y.1 ≡ Ok x → Repeats more one n a s x

repeats_by : {A : Type 0} (t : Bool) (more : Stream → Bool) (one : A → Stream → Read A) (n : ℕ) (a : A) (s : Stream) (x : A × Stream) → more s ≡ t
    → (if t then (one a s >>= λ x. repeat more one n x.0 x.1) else Ok (a, s)) ≡ Ok x → Repeats more one n a s x
repeats_by true more one n a s x e h = let p = bind_ok (one a s) _ x h in goes_on p.0 p.1 p.2
repeats_by false more one n a s x e h = stops e (ends (a, s) x h)

pub repeats : {A : Type 0} (more : Stream → Bool) (one : A → Stream → Read A) (n : ℕ) (a : A) (s : Stream) (x : A × Stream) → repeat more one (suc n) a s ≡ Ok x → Repeats more one n a s x
unfolding repeat_while
repeats more one n a s x h = repeats_by (more s) more one n a s x refl h

pub repeats_none : {A : Type 0} (more : Stream → Bool) (one : A → Stream → Read A) (a : A) (s : Stream) (x : A × Stream) → repeat more one zero a s ≡ Ok x → (a, s) ≡ x
unfolding repeat_while
repeats_none more one a s x h = ends (a, s) x h

-- ---- fractions

abbrev sign_word : Bool → List ℕ
sign_word g = if g then codes "1" else codes "0"

sign_by : (a b : Bool) (s : Stream) (t : Token × Stream) (x : Bool × Stream) → shift s ≡ Ok t → bytes_eq t.0.text (codes "0") ≡ a → bytes_eq t.0.text (codes "1") ≡ b
    → ◌≡◌ {A = Read Bool} (if a then Ok (false, t.1) else if b then Ok (true, t.1) else Err (refusal kinds.Syntax t.0.line)) (Ok x) → Eats (sign_word x.0 ∷ []) s x.1
sign_by true b s t x h p q e = subst (λ x. Eats (sign_word x.0 ∷ []) s x.1) (ends (false, t.1) x e) (shifted s t (codes "0") h ((bytes_eq-Decides t.0.text (codes "0")).0 p))
sign_by false true s t x h p q e = subst (λ x. Eats (sign_word x.0 ∷ []) s x.1) (ends (true, t.1) x e) (shifted s t (codes "1") h ((bytes_eq-Decides t.0.text (codes "1")).0 q))
sign_by false false s t x h p q e = cc

sign_told : (s : Stream) (x : Bool × Stream) → sign_at s ≡ Ok x → Eats (sign_word x.0 ∷ []) s x.1
unfolding sign_at
sign_told s x h = let p = bind_ok (shift s) _ x h in sign_by (bytes_eq p.0.0.text (codes "0")) (bytes_eq p.0.0.text (codes "1")) s p.0 x p.1 refl refl p.2

half_told : (s : Stream) (x : (ℕ × ℕ) × Stream) → half_at s ≡ Ok x → Eats (codes "," ∷ (decimal x.0.0 ++ codes "u") ∷ []) s x.1 × (x.0.0 < 2 ^ 64)
unfolding half_at
half_told s x h =
    let c = bind_ok (expect (codes ",") s) _ x h in
    let p = bind_ok (shift c.0.1) _ x c.2 in
    let q = required_ok (half_value p.0.0.text) p.0.0.line p.0.1 x p.2 in
    let n = half_back p.0.0.text x.0.0 q.0 in
    let word = shifted c.0.1 p.0 (decimal x.0.0 ++ codes "u") p.1 n.0 in
    (subst (Eats (codes "," ∷ (decimal x.0.0 ++ codes "u") ∷ []) s) q.1 (eats_join (codes "," ∷ []) ((decimal x.0.0 ++ codes "u") ∷ []) s c.0.1 p.0.1 (taken (codes ",") s c.0 c.1) word), n.1)

quotient_back : (h l : ℕ) → l < 2 ^ 64 → (h * 2 ^ 64 + l) / 2 ^ 64 ≡ h
quotient_back h l k =
    let e = div-add-mod' (h * 2 ^ 64 + l) (2 ^ 64) in
    let m : (h * 2 ^ 64 + l) % 2 ^ 64 < 2 ^ 64 = mod-lt (h * 2 ^ 64 + l) (omega arith) in
    omega (arith, e, m, k)

rest_back : (h l : ℕ) → l < 2 ^ 64 → (h * 2 ^ 64 + l) % 2 ^ 64 ≡ l
rest_back h l k =
    let e = div-add-mod' (h * 2 ^ 64 + l) (2 ^ 64) in
    let q = quotient_back h l k in
    omega (arith, e, q)

-- the words of a part of a fraction
abbrev part_words : ℕ → List (List ℕ)
part_words n = codes "," ∷ (decimal (n / 2 ^ 64) ++ codes "u") ∷ codes "," ∷ (decimal (n % 2 ^ 64) ++ codes "u") ∷ []

part_told : (s : Stream) (x : (ℕ × ℕ) × Stream) → part_at s ≡ Ok x → Eats (part_words x.0.0) s x.1
unfolding part_at
part_told s x h =
    let a = bind_ok (half_at s) _ x h in
    let b = bind_ok (half_at a.0.1) _ x a.2 in
    let p = half_told s a.0 a.1 in
    let q = half_told a.0.1 b.0 b.1 in
    let n = a.0.0.0 * 2 ^ 64 + b.0.0.0 in
    let e = ends ((n, b.0.0.1), b.0.1) x b.2 in
    let words : codes "," ∷ (decimal a.0.0.0 ++ codes "u") ∷ codes "," ∷ (decimal b.0.0.0 ++ codes "u") ∷ [] ≡ part_words n
    = ap₂ (λ i j. codes "," ∷ (decimal i ++ codes "u") ∷ codes "," ∷ (decimal j ++ codes "u") ∷ []) (sym (quotient_back a.0.0.0 b.0.0.0 q.1)) (sym (rest_back a.0.0.0 b.0.0.0 q.1)) in
    subst (λ x. Eats (part_words x.0.0) s x.1) e
    (subst (λ ws. Eats ws s b.0.1) words
    (eats_join (codes "," ∷ (decimal a.0.0.0 ++ codes "u") ∷ []) (codes "," ∷ (decimal b.0.0.0 ++ codes "u") ∷ []) s a.0.1 b.0.1 p.0 q.0))

bound_ok : {A : Type 0} (o : Option A) (line : ℕ) (s : Stream) (x : A × Stream) → bound_by o line s ≡ Ok x → (o ≡ Some x.0) × (s ≡ x.1)
bound_ok None line s x h = cc
bound_ok {A} (Some a) line s x h = let e : ◌≡◌ {A = A × Stream} (a, s) x = cc in (ap (λ y. Some y.0) e, ap (λ y. y.1) e)

lowest_by : (t : Bool) (g : Bool) (n d : ℕ) (v : Ratio) → is_lowest g n d ≡ t → fraction_from g n d ≡ Some v → (v.n ≡ signed g n) × (v.d ≡ d) × ((g && n == 0) ≡ false)
lowest_by false g n d v e h = let k : None ≡ Some v = none_from g n d e ∙ h in cc
lowest_by true g n d v e h =
    let q = some_from g n d e in
    let k : Some q.0 ≡ Some v = sym q.1 ∙ h in
    let same : q.0 ≡ v = cc in
    let p = second (nat_lt 0 d) _ e in
    let r = second (nat_lt n (2 ^ 127)) _ p in
    let u = second (nat_lt d (2 ^ 127)) _ r in
    (ap (λ v. v.n) (sym same) ∙ q.2, ap (λ v. v.d) (sym same) ∙ q.3, is_not (g && n == 0) (second _ _ u))
  where
    is_not : (a : Bool) → not a ≡ true → a ≡ false
    is_not true h = sym h
    is_not false h = refl

sign_kept : (g : Bool) (n : ℕ) → (g && n == 0) ≡ false → is_negative (signed g n) ≡ g
sign_kept true zero h = cc
sign_kept true (suc n) h = refl
sign_kept false n h = refl

value_words : (v : Ratio) (g : Bool) (n d : ℕ) → v.n ≡ signed g n → v.d ≡ d → (g && n == 0) ≡ false → words_of (value_pieces v) ≡ sign_word g ∷ part_words n ++ part_words d
unfolding value_pieces
value_words v g n d a b z =
    ap₂ (λ t b. words_of (parts_pieces t b)) (top_reads v ∙ a) (bottom_reads v ∙ b) ∙ ap₂ (λ g n. sign_word g ∷ part_words n ++ part_words d) (sign_kept g n z) (size_of_signed g n)

pub value_told : (s : Stream) (x : Ratio × Stream) → fraction_at s ≡ Ok x → Eats (words_of (value_pieces x.0)) s x.1
unfolding fraction_at
value_told s x h =
    let g = bind_ok (sign_at s) _ x h in
    let p = bind_ok (part_at g.0.1) _ x g.2 in
    let q = bind_ok (part_at p.0.1) _ x p.2 in
    let b = bound_ok (fraction_from g.0.0 p.0.0.0 q.0.0.0) q.0.0.1 q.0.1 x q.2 in
    let l = lowest_by (is_lowest g.0.0 p.0.0.0 q.0.0.0) g.0.0 p.0.0.0 q.0.0.0 x.0 refl b.0 in
    let words = value_words x.0 g.0.0 p.0.0.0 q.0.0.0 l.0 l.1 l.2 in
    let eats =
    eats_join (sign_word g.0.0 ∷ []) (part_words p.0.0.0 ++ part_words q.0.0.0) s g.0.1 q.0.1 (sign_told s g.0 g.1)
    (eats_join (part_words p.0.0.0) (part_words q.0.0.0) g.0.1 p.0.1 q.0.1 (part_told g.0.1 p.0 p.1) (part_told p.0.1 q.0 q.1)) in
    subst (Eats (words_of (value_pieces x.0)) s) b.1 (subst (λ ws. Eats ws s q.0.1) (sym words) eats)

pub item_told : (s : Stream) (x : Ratio × Stream) → item_at s ≡ Ok x → Eats (words_of (fraction_pieces x.0)) s x.1
unfolding item_at
item_told s x h =
    let o = bind_ok (expect (codes "{") s) _ x h in
    let v = bind_ok (fraction_at o.0.1) _ x o.2 in
    let c = bind_ok (expect (codes "}") v.0.1) _ x v.2 in
    let e = ends (v.0.0, c.0.1) x c.2 in
    subst (λ x. Eats (words_of (fraction_pieces x.0)) s x.1) e
    (eats_join (codes "{" ∷ []) (words_of (value_pieces v.0.0 ++ (blank ∷ Sign (codes "}") ∷ []))) s o.0.1 c.0.1 (taken (codes "{") s o.0 o.1)
    (glue (value_pieces v.0.0) (blank ∷ Sign (codes "}") ∷ []) o.0.1 v.0.1 c.0.1 (value_told o.0.1 v.0 v.1) (taken (codes "}") v.0.1 c.0 c.1)))

-- ---- tables

abbrev comma : Stream → Bool
comma s = is_ahead (codes ",") s

further_told : (s : Stream) (x : Ratio × Stream) → further_item_at s ≡ Ok x → Eats (words_of (Sign (codes ",") ∷ blank ∷ fraction_pieces x.0)) s x.1
unfolding further_item_at
further_told s x h =
    let c = bind_ok (expect (codes ",") s) _ x h in
    eats_join (codes "," ∷ []) (words_of (fraction_pieces x.0)) s c.0.1 x.1 (taken (codes ",") s c.0 c.1) (item_told c.0.1 x c.2)

-- what was read on top of done
record MoreTold (done : List Ratio) (s : Stream) (x : List Ratio × Stream) : Type 0 where
  more : List Ratio
  same : x.0 ≡ done ++ more
  eats : Eats (words_of (more_items more)) s x.1

no_more : (done : List Ratio) (s : Stream) (x : List Ratio × Stream) → (done, s) ≡ x → MoreTold done s x
no_more done s x e = subst (MoreTold done s) e (record { more = []; same = sym (append-nil done); eats = nothing s })

more_by : (n : ℕ) (done : List Ratio) (s : Stream) (x : List Ratio × Stream) → Repeats comma add_item n done s x
    → ((done : List Ratio) (s : Stream) → repeat comma add_item n done s ≡ Ok x → MoreTold done s x) → MoreTold done s x
more_by n done s x (stops m e) again = no_more done s x e
more_by n done s x (goes_on y one rest) again =
    let p = bind_ok (further_item_at s) _ y one in
    let e = ends (done ++ p.0.0 ∷ [], p.0.1) y p.2 in
    let m = again (done ++ p.0.0 ∷ []) p.0.1 (subst (λ y. repeat comma add_item n y.0 y.1 ≡ Ok x) (sym e) rest) in
    record {
      more = p.0.0 ∷ m.more;
      same = m.same ∙ append_assoc done (p.0.0 ∷ []) m.more;
      eats = glue (Sign (codes ",") ∷ blank ∷ fraction_pieces p.0.0) (more_items m.more) s p.0.1 x.1 (further_told s p.0 p.1) m.eats;
    }

items_on : (n : ℕ) (done : List Ratio) (s : Stream) (x : List Ratio × Stream) → repeat comma add_item n done s ≡ Ok x → MoreTold done s x
items_on zero done s x h = no_more done s x (repeats_none comma add_item done s x h)
items_on (suc n) done s x h = more_by n done s x (repeats comma add_item n done s x h) (λ done s k. items_on n done s x k)

pub choose : {A : Type 0} (b : Bool) (p q : Result A KernelRefusal) (x : A) (P : Type 0) → (if b then p else q) ≡ Ok x → (p ≡ Ok x → P) → (q ≡ Ok x → P) → P
choose true p q x P h f g = f h
choose false p q x P h f g = g h

items_told : (s : Stream) (x : List Ratio × Stream) → items_at s ≡ Ok x → Eats (words_of (items_pieces x.0)) s x.1
unfolding items_at further_items_at
items_told s x h =
    choose (is_ahead (codes "}") s) (Ok ([], s)) _ x (Eats (words_of (items_pieces x.0)) s x.1) h (λ e. subst (λ x. Eats (words_of (items_pieces x.0)) s x.1) (ends ([], s) x e) (nothing s))
    (λ k.
    let v = bind_ok (item_at s) _ x k in
    let m = items_on (length v.0.1.tokens) (v.0.0 ∷ []) v.0.1 x v.2 in
    subst (λ vs. Eats (words_of (items_pieces vs)) s x.1) (sym m.same) (glue (fraction_pieces v.0.0) (more_items m.more) s v.0.1 x.1 (item_told s v.0 v.1) m.eats))

pub is_same : (k : ℕ) (o : Option ℕ) → is_number k o ≡ true → o ≡ Some k
is_same k None h = cc
is_same k (Some n) h = ap Some (eqb-true n k h)

name_told : (k : ℕ) (s : Stream) (x : Unit {0} × Stream) → table_name_at k s ≡ Ok x → Eats (table_name k ∷ []) s x.1 × (k < 2 ^ 32)
unfolding table_name_at
name_told k s x h =
    let p = bind_ok (shift s) _ x h in
    let q = held (is_number k (table_value p.0.0.text)) (refusal kinds.Syntax p.0.0.line) (Ok (tt, p.0.1)) x p.2 in
    let n = table_back p.0.0.text k (is_same k (table_value p.0.0.text) q.0) in
    (subst (λ y. Eats (table_name k ∷ []) s y.1) (ends (tt, p.0.1) x q.1) (shifted s p.0 (table_name k) p.1 n.0), n.1)

well : (a b c : Bool) → (a || (b || not c)) ≡ false → (a ≡ false) × (b ≡ false) × (c ≡ true)
well true b c h = cc
well false true c h = cc
well false false true h = (refl, refl, refl)
well false false false h = cc

pub positive : (n : ℕ) → (n == 0) ≡ false → 0 < n
positive zero h = cc
positive (suc n) h = omega arith

table_told : (k : ℕ) (s : Stream) (x : List Ratio × Stream) → table_at k s ≡ Ok x → Eats (words_of (table_pieces k x.0)) s x.1 × (0 < length x.0) × (length x.0 ≤ 2 ^ 24) × (k < 2 ^ 32)
unfolding table_at indent
table_told k s x h =
    let o = bind_ok (expects (codes "static" ∷ codes "const" ∷ codes "fr_lit" ∷ []) s) _ x h in
    let n = bind_ok (table_name_at k o.0.1) _ x o.2 in
    let b = bind_ok (expect (codes "[") n.0.1) _ x n.2 in
    let c = bind_ok (number_at b.0.1) _ x b.2 in
    let e = bind_ok (expects (codes "]" ∷ codes "=" ∷ codes "{" ∷ []) c.0.1) _ x c.2 in
    let v = bind_ok (items_at e.0.1) _ x e.2 in
    let z = bind_ok (expect (codes "}") v.0.1) _ x v.2 in
    let q = passed_on (is_miscounted (length v.0.0) c.0.0.0) (refusal kinds.Bound z.0.0) _ x z.2 in
    let y = bind_ok (expect (codes ";") z.0.1) _ x q.1 in
    let w = well (length v.0.0 == 0) (nat_lt 16777216 (length v.0.0)) (length v.0.0 == c.0.0.0) q.0 in
    let end = ends (v.0.0, y.0.1) x y.2 in
    let same : c.0.0.0 ≡ length v.0.0 = sym (eqb-true (length v.0.0) c.0.0.0 w.2) in
    let name = name_told k o.0.1 n.0 n.1 in
    let stated = subst (λ m. Eats (decimal m ∷ []) b.0.1 c.0.1) same (number_told b.0.1 c.0 c.1).0 in
    let close = eats_join (codes "}" ∷ []) (codes ";" ∷ []) v.0.1 z.0.1 y.0.1 (taken (codes "}") v.0.1 z.0 z.1) (taken (codes ";") z.0.1 y.0 y.1) in
    let items = glue (items_pieces v.0.0) (blank ∷ Sign (codes "}") ∷ Sign (codes ";") ∷ feed ∷ []) e.0.1 v.0.1 y.0.1 (items_told e.0.1 v.0 v.1) close in
    let behind = words_of (items_pieces v.0.0 ++ (blank ∷ Sign (codes "}") ∷ Sign (codes ";") ∷ feed ∷ [])) in
    let eats =
    eats_join (codes "static" ∷ codes "const" ∷ codes "fr_lit" ∷ []) (table_name k ∷ codes "[" ∷ decimal (length v.0.0) ∷ codes "]" ∷ codes "=" ∷ codes "{" ∷ behind) s o.0.1 y.0.1 o.1
    (eats_join (table_name k ∷ []) (codes "[" ∷ decimal (length v.0.0) ∷ codes "]" ∷ codes "=" ∷ codes "{" ∷ behind) o.0.1 n.0.1 y.0.1 name.0
    (eats_join (codes "[" ∷ []) (decimal (length v.0.0) ∷ codes "]" ∷ codes "=" ∷ codes "{" ∷ behind) n.0.1 b.0.1 y.0.1 (taken (codes "[") n.0.1 b.0 b.1)
    (eats_join (decimal (length v.0.0) ∷ []) (codes "]" ∷ codes "=" ∷ codes "{" ∷ behind) b.0.1 c.0.1 y.0.1 stated
    (eats_join (codes "]" ∷ codes "=" ∷ codes "{" ∷ []) behind c.0.1 e.0.1 y.0.1 e.1 items)))) in
    subst (λ x. Eats (words_of (table_pieces k x.0)) s x.1 × (0 < length x.0) × (length x.0 ≤ 2 ^ 24) × (k < 2 ^ 32)) end
    (eats, positive (length v.0.0) w.0, ltb-false 16777216 (length v.0.0) w.1, name.1)

abbrev static : Stream → Bool
static s = is_ahead (codes "static") s

pub record TablesTold (done : List (List Ratio)) (s : Stream) (x : List (List Ratio) × Stream) : Type 0 where
  pub more : List (List Ratio)
  pub same : x.0 ≡ done ++ more
  pub eats : Eats (words_of (tables_pieces (length done) more)) s x.1
  pub keeps : KeepTables more
  pub few : length x.0 ≤ 2 ^ 32

no_tables : (done : List (List Ratio)) (s : Stream) (x : List (List Ratio) × Stream) → length done ≤ 2 ^ 32 → (done, s) ≡ x → TablesTold done s x
no_tables done s x few e = subst (TablesTold done s) e (record { more = []; same = sym (append-nil done); eats = nothing s; keeps = tt; few = few })

tables_by : (n : ℕ) (done : List (List Ratio)) (s : Stream) (x : List (List Ratio) × Stream) → length done ≤ 2 ^ 32 → Repeats static add_table n done s x
    → ((done : List (List Ratio)) (s : Stream) → length done ≤ 2 ^ 32 → repeat static add_table n done s ≡ Ok x → TablesTold done s x) → TablesTold done s x
tables_by n done s x few (stops m e) again = no_tables done s x few e
tables_by n done s x few (goes_on y one rest) again =
    let p = bind_ok (table_at (length done) s) _ y one in
    let e = ends (done ++ p.0.0 ∷ [], p.0.1) y p.2 in
    let t = table_told (length done) s p.0 p.1 in
    let l : length (done ++ p.0.0 ∷ []) ≡ length done + 1 = length-append done (p.0.0 ∷ []) in
    let below = t.3 in
    let m = again (done ++ p.0.0 ∷ []) p.0.1 (omega (arith, l, below)) (subst (λ y. repeat static add_table n y.0 y.1 ≡ Ok x) (sym e) rest) in
    record {
      more = p.0.0 ∷ m.more;
      same = m.same ∙ append_assoc done (p.0.0 ∷ []) m.more;
      eats = glue (table_pieces (length done) p.0.0) (tables_pieces (length done + 1) m.more) s p.0.1 x.1 t.0 (subst (λ k. Eats (words_of (tables_pieces k m.more)) p.0.1 x.1) l m.eats);
      keeps = (t.1, t.2, m.keeps);
      few = m.few;
    }

tables_on : (n : ℕ) (done : List (List Ratio)) (s : Stream) (x : List (List Ratio) × Stream) → length done ≤ 2 ^ 32 → repeat static add_table n done s ≡ Ok x → TablesTold done s x
tables_on zero done s x few h = no_tables done s x few (repeats_none static add_table done s x h)
tables_on (suc n) done s x few h = tables_by n done s x few (repeats static add_table n done s x h) (λ done s few k. tables_on n done s x few k)

pub tables_told : (s : Stream) (x : List (List Ratio) × Stream) → tables_at s ≡ Ok x → TablesTold [] s x
unfolding tables_at
tables_told s x h = tables_on (length s.tokens) [] s x (omega arith) h
