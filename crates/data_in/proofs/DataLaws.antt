-- What the lines of a text say from a place on, by the function and by the grammar
use Rattle.std.proofs.Common.{◌≡◌, ℕ, zero, suc, ◌+◌, ◌-◌, Bool, true, false, cond, List, [], ◌∷◌, ◌++◌, length, map, Option, Some, None, Result, Ok, Err, refl, sym, ap, subst, ◌∙◌, arith}
use Rattle.std.specs.List.{AllByRecursion, AllZip}
use Rattle.algebra.specs.Fraction.{Fraction}
use Rattle.mesh_in.specs.Line.{content, has_plain_bytes, words}
use Rattle.mesh_in.specs.Options.{◌>>=◌}
use Rattle.mesh_in.proofs.GrammarLaws.{bind_some, some_is}
use Rattle.data_in.specs.declared.refusal.ValueKind.{ValueKind}
use Rattle.data_in.specs.declared.refusal.ValueKind.TheVariants.{Lex}
use Rattle.data_in.specs.CoefficientValues.{CoefficientValues, AreRising}
use Rattle.data_in.specs.DataText.{NumberedWords, before, word_lines, Row, heading, block, value, Says, rows_of}
use Rattle.data_in.specs.DataReading.{Place, start, within, next, head_in, value_in, block_from, row_at, said, words_at, line_at, Said, Reading, put, with_row, ended, after_line, reading}
use Rattle.data_in.proofs.RowLaws.{heading_is, heading_again, block_is, block_again, value_is, value_again, HasHead, says_head, head_says}

abbrev Values : Type 0
Values = CoefficientValues Fraction

-- ---- what the grammar says from a place on
abbrev pub rows_from : List Fraction → List Values → List Row
rows_from xs bs = map value xs ++ rows_of bs

abbrev pub rows_at : Place → Said → List Row
rows_at start s = heading ∷ rows_from s.lacking s.blocks
rows_at (within low missing) s = rows_from s.lacking s.blocks

abbrev pub lacking_at : Place → ℕ
lacking_at start = 0
lacking_at (within low missing) = missing

abbrev pub low_at : Place → ℕ
low_at start = 0
low_at (within low missing) = low

pub record IsAt (p : Place) (s : Said) : Type 0 where
  pub lacking : length s.lacking ≡ lacking_at p
  pub rising : AreRising (low_at p) s.blocks

abbrev pub ArePlain : List (List ℕ) → Type 0
ArePlain = AllByRecursion (λ line. has_plain_bytes line ≡ true)

pub record Told (n : ℕ) (p : Place) (ls : List (List ℕ)) (s : Said) : Type 0 where
  pub plain : ArePlain ls
  pub says : AllZip Says (word_lines n ls) (rows_at p s)
  pub is_at : IsAt p s

ok_is : (s t : Said) → (let r : Reading = Ok s in r) ≡ Ok t → s ≡ t
ok_is s t e = cc

told_end : (n : ℕ) (p : Place) (s : Said) → ended n p ≡ Ok s → Told n p [] s
told_end n start s e = absurd cc
told_end n (within low zero) s e =
    subst (Told n (within low zero) []) (ok_is (record { lacking = []; blocks = [] }) s e) (record { plain = tt; says = tt; is_at = record { lacking = refl; rising = tt } })
told_end n (within low (suc m)) s e = absurd cc

-- ---- one line
-- it is plain, and what it says goes before what is said from the next place on
record Goes (n : ℕ) (p : Place) (line : List ℕ) (row : Option Row) : Type 0 where
  plain : has_plain_bytes line ≡ true
  says : (more : List NumberedWords) (s : Said) → AllZip Says more (rows_at (next p row) s) → IsAt (next p row) s
      → AllZip Says (before n (words (content line)) more) (rows_at p (put row s)) × IsAt p (put row s)

abbrev Front : ℕ → Place → List (List ℕ) → Option Row → Type 0
Front n p ws row = (more : List NumberedWords) (s : Said) → AllZip Says more (rows_at (next p row) s) → IsAt (next p row) s
    → AllZip Says (before n ws more) (rows_at p (put row s)) × IsAt p (put row s)

pub no_values : (xs : List Fraction) → length xs ≡ 0 → xs ≡ []
no_values [] e = refl
no_values (x ∷ xs) e = absurd (omega arith)

row_front : (n : ℕ) (p : Place) (w : List ℕ) (ws : List (List ℕ)) (row : Row) → row_at p n (w ∷ ws) ≡ Some row → Front n p (w ∷ ws) (Some row)
row_front n start w ws row e =
    let h = heading_is (w ∷ ws) row e in
    subst (λ r. Front n start (w ∷ ws) (Some r)) (sym h.1) (λ more s all at. ((h.0, all), record { lacking = at.lacking; rising = at.rising }))
row_front n (within low zero) w ws row e =
    let b = block_is low n (w ∷ ws) row e in
    subst (λ r. Front n (within low zero) (w ∷ ws) (Some r)) (sym b.row_is)
    (λ more s all at. ((head_says n (w ∷ ws) b.number (length s.lacking) (subst (HasHead (w ∷ ws) b.number) (sym at.lacking) b.head), all), record { lacking = refl; rising = (b.rises, at.rising) }))
row_front n (within low (suc m)) w ws row e =
    let x = bind_some (value_in (w ∷ ws)) (λ x. Some (value x)) row e in
    subst (λ r. Front n (within low (suc m)) (w ∷ ws) (Some r)) (some_is (value x.0) row x.2)
    (λ more s all at. ((value_is (record { line = n; words = w ∷ ws }) x.0 x.1, all), record { lacking = omega (arith, at.lacking); rising = at.rising }))

said_is : (o : Option Row) (row : Option Row) → said o ≡ Ok row → (r : Row) × (o ≡ Some r) × (Some r ≡ row)
said_is None row e = absurd cc
said_is (Some r) row e = (r, refl, cc)

words_front : (n : ℕ) (p : Place) (ws : List (List ℕ)) (row : Option Row) → words_at p n ws ≡ Ok row → Front n p ws row
words_front n p [] row e = let none : None ≡ row = cc in subst (Front n p []) none (λ more s all at. (all, at))
words_front n p (w ∷ ws) row e =
    let r = said_is (row_at p n (w ∷ ws)) row e in
    subst (Front n p (w ∷ ws)) r.2 (row_front n p w ws r.0 r.1)

line_chosen : (n : ℕ) (p : Place) (line : List ℕ) (row : Option Row) (plain : Bool) → has_plain_bytes line ≡ plain → cond plain (words_at p n (words (content line))) (Err Lex) ≡ Ok row → Goes n p line row
line_chosen n p line row true plain e = record { plain = plain; says = words_front n p (words (content line)) row e }
line_chosen n p line row false plain e = absurd cc

line_goes : (n : ℕ) (p : Place) (line : List ℕ) (row : Option Row) → line_at p n line ≡ Ok row → Goes n p line row
line_goes n p line row e = line_chosen n p line row (has_plain_bytes line) refl e

-- ---- all lines
record IsStep (row : Option Row) (rest : Reading) (s : Said) : Type 0 where
  behind : Said
  is : rest ≡ Ok behind
  whole : put row behind ≡ s

with_is : (row : Option Row) (rest : Reading) (s : Said) → with_row row rest ≡ Ok s → IsStep row rest s
with_is row (Err e) s h = absurd cc
with_is row (Ok t) s h = record { behind = t; is = refl; whole = ok_is (put row t) s h }

pub told : (n : ℕ) (p : Place) (ls : List (List ℕ)) (s : Said) → reading n p ls ≡ Ok s → Told n p ls s
unfolding reading
told n p [] s e = told_end n p s e
told n p (line ∷ more) s e = told_line n p line more s (λ q t h. told (n + 1) q more t h) (line_at p (n + 1) line) refl e
  where
    told_line : (n : ℕ) (p : Place) (line : List ℕ) (more : List (List ℕ)) (s : Said) → ((q : Place) (t : Said) → reading (n + 1) q more ≡ Ok t → Told (n + 1) q more t)
        → (r : Result (Option Row) ValueKind) → line_at p (n + 1) line ≡ r → after_line (n + 1) p r (λ q. reading (n + 1) q more) ≡ Ok s → Told n p (line ∷ more) s
    told_line n p line more s later (Err kind) is e = absurd cc
    told_line n p line more s later (Ok row) is e =
        let w = with_is row (reading (n + 1) (next p row) more) s e in
        let g = line_goes (n + 1) p line row is in
        let t = later (next p row) w.behind w.is in
        let both = g.says (word_lines (n + 1) more) w.behind t.says t.is_at in
        subst (Told n p (line ∷ more)) w.whole (record { plain = (g.plain, t.plain); says = both.0; is_at = both.1 })

-- ---- and again
one_line : (n : ℕ) (p : Place) (line : List ℕ) (more : List (List ℕ)) (row : Option Row) (s : Said) → line_at p (n + 1) line ≡ Ok row → reading (n + 1) (next p row) more ≡ Ok s → reading n p (line ∷ more) ≡ Ok (put row s)
unfolding reading
one_line n p line more row s is rest = ap (λ r. after_line (n + 1) p r (λ q. reading (n + 1) q more)) is ∙ ap (with_row row) rest

line_row : (n : ℕ) (p : Place) (line : List ℕ) (ws : List (List ℕ)) (row : Option Row) → has_plain_bytes line ≡ true → words (content line) ≡ ws → words_at p n ws ≡ Ok row → line_at p n line ≡ Ok row
line_row n p line ws row plain are is = ap (λ b. cond b (words_at p n (words (content line))) (Err Lex)) plain ∙ ap (words_at p n) are ∙ is

abbrev Again : ℕ → List (List ℕ) → Type 0
Again n more = (p : Place) (s : Said) → AllZip Says (word_lines n more) (rows_at p s) → IsAt p s → reading n p more ≡ Ok s

value_next : (low m : ℕ) (x : Fraction) → next (within low (suc m)) (Some (value x)) ≡ within low m
value_next low m x = let e : suc m - 1 ≡ m = omega arith in ap (within low) e

again_words : (n : ℕ) (p : Place) (line : List ℕ) (more : List (List ℕ)) (w : List ℕ) (ws : List (List ℕ)) (xs : List Fraction) (bs : List Values) → Again (n + 1) more → has_plain_bytes line ≡ true
    → words (content line) ≡ w ∷ ws → AllZip Says (before (n + 1) (w ∷ ws) (word_lines (n + 1) more)) (rows_at p (record { lacking = xs; blocks = bs })) → IsAt p (record { lacking = xs; blocks = bs })
    → reading n p (line ∷ more) ≡ Ok (record { lacking = xs; blocks = bs })
again_words n start line more w ws xs bs later plain are all at =
    let s : Said = record { lacking = xs; blocks = bs } in
    let is : words_at start (n + 1) (w ∷ ws) ≡ Ok (Some heading) = ap said (heading_again (w ∷ ws) all.0) in
    one_line n start line more (Some heading) s (line_row (n + 1) start line (w ∷ ws) (Some heading) plain are is) (later (within 0 0) s all.1 (record { lacking = at.lacking; rising = at.rising }))
again_words n (within low zero) line more w ws [] [] later plain are all at = absurd all
again_words n (within low zero) line more w ws [] (b ∷ bs) later plain are all at =
    let words_here : NumberedWords = record { line = n + 1; words = w ∷ ws } in
    let row : Row = block b.line b.number (length b.values) in
    let found : (head_in (w ∷ ws) >>= block_from low b.line) ≡ Some row = block_again low b.line (w ∷ ws) b.number (length b.values) (says_head words_here b.line b.number (length b.values) all.0) at.rising.0 in
    let here : (head_in (w ∷ ws) >>= block_from low (n + 1)) ≡ Some row = subst (λ l. (head_in (w ∷ ws) >>= block_from low l) ≡ Some row) all.0.line_is found in
    let is : words_at (within low zero) (n + 1) (w ∷ ws) ≡ Ok (Some row) = ap said here in
    let s : Said = record { lacking = b.values; blocks = bs } in
    one_line n (within low zero) line more (Some row) s (line_row (n + 1) (within low zero) line (w ∷ ws) (Some row) plain are is)
    (later (within (b.number + 1) (length b.values)) s all.1 (record { lacking = refl; rising = at.rising.1 }))
again_words n (within low zero) line more w ws (x ∷ xs) bs later plain are all at = absurd (omega (arith, at.lacking))
again_words n (within low (suc m)) line more w ws [] bs later plain are all at = absurd (omega (arith, at.lacking))
again_words n (within low (suc m)) line more w ws (x ∷ xs) bs later plain are all at =
    let s : Said = record { lacking = xs; blocks = bs } in
    let row : Row = value x in
    let is : words_at (within low (suc m)) (n + 1) (w ∷ ws) ≡ Ok (Some row) = ap (λ o. said (o >>= λ y. Some (value y))) (value_again (record { line = n + 1; words = w ∷ ws }) x all.0) in
    one_line n (within low (suc m)) line more (Some row) s (line_row (n + 1) (within low (suc m)) line (w ∷ ws) (Some row) plain are is)
    (subst (λ q. reading (n + 1) q more ≡ Ok s) (sym (value_next low m x)) (later (within low m) s all.1 (record { lacking = omega (arith, at.lacking); rising = at.rising })))

again_line : (n : ℕ) (p : Place) (line : List ℕ) (more : List (List ℕ)) (s : Said) (ws : List (List ℕ)) → Again (n + 1) more → has_plain_bytes line ≡ true → words (content line) ≡ ws
    → AllZip Says (before (n + 1) ws (word_lines (n + 1) more)) (rows_at p s) → IsAt p s → reading n p (line ∷ more) ≡ Ok s
again_line n p line more s [] later plain are all at = one_line n p line more None s (line_row (n + 1) p line [] None plain are refl) (later p s all at)
again_line n p line more s (w ∷ ws) later plain are all at = again_words n p line more w ws s.lacking s.blocks later plain are all at

again_end : (n : ℕ) (p : Place) (xs : List Fraction) (bs : List Values) → AllZip Says [] (rows_at p (record { lacking = xs; blocks = bs })) → IsAt p (record { lacking = xs; blocks = bs })
    → ended n p ≡ Ok (record { lacking = xs; blocks = bs })
again_end n start xs bs all at = absurd all
again_end n (within low zero) [] [] all at = refl
again_end n (within low zero) [] (b ∷ bs) all at = absurd all
again_end n (within low zero) (x ∷ xs) bs all at = absurd all
again_end n (within low (suc m)) [] bs all at = absurd (omega (arith, at.lacking))
again_end n (within low (suc m)) (x ∷ xs) bs all at = absurd all

pub again : (n : ℕ) (p : Place) (ls : List (List ℕ)) (s : Said) → ArePlain ls → AllZip Says (word_lines n ls) (rows_at p s) → IsAt p s → reading n p ls ≡ Ok s
unfolding reading
again n p [] s plain all at = again_end n p s.lacking s.blocks all at
again n p (line ∷ more) s plain all at =
    again_line n p line more s (words (content line)) (λ q t said_all t_at. again (n + 1) q more t plain.1 said_all t_at) plain.0 refl all at
