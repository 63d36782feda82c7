-- What comes next in a form file, once the gap is gone over
use Rattle.std.proofs.Common.{◌≡◌, refl, sym, ◌∙◌, ap, ℕ, zero, suc, ◌+◌, ◌-◌, ◌≤◌, ◌<◌, List, [], ◌∷◌, length, take, drop, get_or, Some, None, true, false, Bool, ◌==◌, if◌then◌else◌, arith}
use Rattle.std.proofs.lemmas.List.{take_all, length-drop, drop-drop}
use Rattle.slices.specs.FormGap.{blanks, comment, backslash, returned, after_gap, join_length, returned_length, Spot, spot, is_blank}
use Rattle.slices.specs.FormTable.{form_token}
use Rattle.slices.specs.FormTokens.{FormReader, finished, no_token, token, form_next, gap_end, next_at, next_by, quiet_at, depth_after, token_at}
use Rattle.slices.specs.declared.toks.TokKind.{TokKind}
use Rattle.slices.specs.declared.toks.TokKind.TheVariants.{End}
use Rattle.slices.proofs.Form.{head_at, none_at, eqb_is, eqb_not}

-- a comment ends at a line feed
feed_by : (quiet : Bool) (b : ℕ) (bs : List ℕ) (at line : ℕ) → b ≡ 10 → after_gap comment quiet (b ∷ bs) at line ≡ after_gap blanks quiet (b ∷ bs) at line
unfolding is_blank
feed_by true b bs at line e = rw e refl
feed_by false b bs at line e = rw e refl

pub comment_feed : (quiet : Bool) (xs : List ℕ) (at line : ℕ) → at < length xs → get_or xs at 0 ≡ 10 → after_gap comment quiet (drop at xs) at line ≡ after_gap blanks quiet (drop at xs) at line
comment_feed quiet xs at line h e =
    ap (λ bs. after_gap comment quiet bs at line) (head_at xs at h) ∙ feed_by quiet (get_or xs at 0) (drop (at + 1) xs) at line e ∙ ap (λ bs. after_gap blanks quiet bs at line) (sym (head_at xs at h))

abbrev Joins : Bool → List ℕ → ℕ → ℕ → ℕ → Type 0
Joins quiet bs at line j = after_gap backslash quiet bs at line ≡ after_gap blanks quiet (drop (j - 1) bs) (at + j) (line + 1)

returned_by : (t quiet : Bool) (b c : ℕ) (cs : List ℕ) (at line j : ℕ) → (c == 10) ≡ t → (if t then 3 else 0) ≡ j → (j ≡ 0 → ⊥)
    → after_gap returned quiet (c ∷ cs) at line ≡ after_gap blanks quiet (drop (j - 1) (b ∷ c ∷ cs)) (at + j) (line + 1)
returned_by true quiet b c cs at line j e h n =
    rw e (ap (λ i. after_gap blanks quiet (drop (i - 1) (b ∷ c ∷ cs)) (at + i) (line + 1)) h)
returned_by false quiet b c cs at line j e h n = absurd (n (sym h))

join_return : (quiet : Bool) (b : ℕ) (cs : List ℕ) (at line j : ℕ) → returned_length cs ≡ j → (j ≡ 0 → ⊥)
    → after_gap returned quiet cs at line ≡ after_gap blanks quiet (drop (j - 1) (b ∷ cs)) (at + j) (line + 1)
join_return quiet b [] at line j h n = absurd (n (sym h))
join_return quiet b (c ∷ cs) at line j h n = returned_by (c == 10) quiet b c cs at line j refl h n

join_by : (t u quiet : Bool) (b : ℕ) (bs : List ℕ) (at line j : ℕ) → (b == 10) ≡ t → (b == 13) ≡ u → (if t then 2 else if u then returned_length bs else 0) ≡ j → (j ≡ 0 → ⊥) → Joins quiet (b ∷ bs) at line j
join_by true u quiet b bs at line j e f h n = rw e (ap (λ i. after_gap blanks quiet (drop (i - 1) (b ∷ bs)) (at + i) (line + 1)) h)
join_by false true quiet b bs at line j e f h n = rw e (rw f (join_return quiet b bs at line j h n))
join_by false false quiet b bs at line j e f h n = absurd (n (sym h))

joins : (quiet : Bool) (bs : List ℕ) (at line j : ℕ) → join_length bs ≡ j → (j ≡ 0 → ⊥) → Joins quiet bs at line j
joins quiet [] at line j h n = absurd (n (sym h))
joins quiet (b ∷ bs) at line j h n = join_by (b == 10) (b == 13) quiet b bs at line j refl refl h n

begins_join : (quiet : Bool) (b : ℕ) (bs : List ℕ) (at line : ℕ) → b ≡ 92 → after_gap blanks quiet (b ∷ bs) at line ≡ after_gap backslash quiet bs at line
unfolding is_blank
begins_join quiet b bs at line e = rw e refl

further : (j at : ℕ) (xs : List ℕ) → (j ≡ 0 → ⊥) → drop (j - 1) (drop (at + 1) xs) ≡ drop (at + j) xs
further zero at xs n = absurd (n refl)
further (suc j) at xs n =
    let e : suc j - 1 ≡ j = omega arith in
    let f : at + 1 + j ≡ at + suc j = omega arith in
    ap (λ i. drop i (drop (at + 1) xs)) e ∙ drop-drop j (at + 1) xs ∙ ap (λ i. drop i xs) f

-- a joined line is gone over
pub join_gap : (quiet : Bool) (xs : List ℕ) (at line j : ℕ) → at < length xs → get_or xs at 0 ≡ 92 → j ≡ join_length (drop (at + 1) xs) → (j ≡ 0 → ⊥)
    → after_gap blanks quiet (drop at xs) at line ≡ after_gap blanks quiet (drop (at + j) xs) (at + j) (line + 1)
join_gap quiet xs at line j h e i n =
    ap (λ bs. after_gap blanks quiet bs at line) (head_at xs at h) ∙ begins_join quiet (get_or xs at 0) (drop (at + 1) xs) at line e
    ∙ joins quiet (drop (at + 1) xs) at line j (sym i) n ∙ ap (λ bs. after_gap blanks quiet bs (at + j) (line + 1)) (further j at xs n)

abbrev pub reader : List ℕ → ℕ → ℕ → ℕ → Bool → FormReader
reader xs a l d g = record { source = xs; at = a; line = l; depth = d; begun = g }

abbrev pub Skips : List ℕ → ℕ → ℕ → ℕ → Bool → ℕ → ℕ → Type 0
Skips xs a l d g b m = after_gap blanks (quiet_at g d) (drop a xs) a l ≡ spot b m

next_from : (xs : List ℕ) (a l d : ℕ) (g : Bool) (b m : ℕ) → Skips xs a l d g b m → form_next (reader xs a l d g) ≡ next_at (reader xs a l d g) (spot b m) (drop b xs)
unfolding form_next gap_end
next_from xs a l d g b m e = ap (λ (p : Spot). next_at (reader xs a l d g) p (drop p.at xs)) e

-- a text from a place on, as code slices it
pub tail : (xs : List ℕ) (b : ℕ) → take (length xs - b) (drop b xs) ≡ drop b xs
tail xs b = take_all (length xs - b) (drop b xs) (omega (arith, length-drop b xs))

pub ends : (xs : List ℕ) (a l d : ℕ) (g : Bool) (b m : ℕ) → Skips xs a l d g b m → length xs ≤ b → g ≡ false → form_next (reader xs a l d g) ≡ finished
ends xs a l d g b m e h f = next_from xs a l d g b m e ∙ ap (next_at (reader xs a l d g) (spot b m)) (none_at xs b h) ∙ rw f refl

pub last : (xs : List ℕ) (a l d : ℕ) (g : Bool) (b m : ℕ) → Skips xs a l d g b m → length xs ≤ b → g ≡ true
    → form_next (reader xs a l d g) ≡ token (record { text = take (length xs - b) (drop b xs); from = b; line = m; kind = End }) (reader xs b m d false)
last xs a l d g b m e h f =
    next_from xs a l d g b m e ∙ ap (next_at (reader xs a l d g) (spot b m)) (none_at xs b h) ∙ rw f refl
    ∙ ap (λ bs. token (record { text = bs; from = b; line = m; kind = End }) (reader xs b m d false)) (sym (tail xs b ∙ none_at xs b h))

at_feed : (r : FormReader) (p : Spot) (b : ℕ) (bs : List ℕ) → b ≡ 10 → next_at r p (b ∷ bs) ≡ token (token_at (b ∷ bs) p 1 End) (record r { at = p.at + 1; line = p.line + 1; begun = false })
at_feed r p b bs e = rw (eqb_is b 10 e) refl

pub fed : (xs : List ℕ) (a l d : ℕ) (g : Bool) (b m : ℕ) → Skips xs a l d g b m → b < length xs → get_or xs b 0 ≡ 10
    → form_next (reader xs a l d g) ≡ token (record { text = take 1 (take (length xs - b) (drop b xs)); from = b; line = m; kind = End }) (reader xs (b + 1) (m + 1) d false)
fed xs a l d g b m e h f =
    next_from xs a l d g b m e ∙ ap (next_at (reader xs a l d g) (spot b m)) (head_at xs b h) ∙ at_feed (reader xs a l d g) (spot b m) (get_or xs b 0) (drop (b + 1) xs) f
    ∙ ap (λ bs. token (record { text = take 1 bs; from = b; line = m; kind = End }) (reader xs (b + 1) (m + 1) d false)) (sym (tail xs b ∙ head_at xs b h))

at_token : (r : FormReader) (p : Spot) (b : ℕ) (bs : List ℕ) → (b ≡ 10 → ⊥) → next_at r p (b ∷ bs) ≡ next_by r p b (b ∷ bs) (form_token (b ∷ bs))
at_token r p b bs e = rw (eqb_not b 10 e) refl

pub lost : (xs : List ℕ) (a l d : ℕ) (g : Bool) (b m : ℕ) → Skips xs a l d g b m → b < length xs → (get_or xs b 0 ≡ 10 → ⊥) → form_token (take (length xs - b) (drop b xs)) ≡ None
    → form_next (reader xs a l d g) ≡ no_token b m
lost xs a l d g b m e h f n =
    next_from xs a l d g b m e ∙ ap (next_at (reader xs a l d g) (spot b m)) (head_at xs b h) ∙ at_token (reader xs a l d g) (spot b m) (get_or xs b 0) (drop (b + 1) xs) f
    ∙ ap (next_by (reader xs a l d g) (spot b m) (get_or xs b 0) (get_or xs b 0 ∷ drop (b + 1) xs)) (ap form_token (sym (tail xs b ∙ head_at xs b h)) ∙ n)

pub found : (xs : List ℕ) (a l d : ℕ) (g : Bool) (b m : ℕ) (n : ℕ) (k : TokKind) → Skips xs a l d g b m → b < length xs → (get_or xs b 0 ≡ 10 → ⊥) → form_token (take (length xs - b) (drop b xs)) ≡ Some (n, k)
    → form_next (reader xs a l d g)
    ≡ token (record { text = take n (take (length xs - b) (drop b xs)); from = b; line = m; kind = k }) (reader xs (b + n) m (depth_after (get_or xs b 0) d) true)
found xs a l d g b m n k e h f i =
    next_from xs a l d g b m e ∙ ap (next_at (reader xs a l d g) (spot b m)) (head_at xs b h) ∙ at_token (reader xs a l d g) (spot b m) (get_or xs b 0) (drop (b + 1) xs) f
    ∙ ap (next_by (reader xs a l d g) (spot b m) (get_or xs b 0) (get_or xs b 0 ∷ drop (b + 1) xs)) (ap form_token (sym (tail xs b ∙ head_at xs b h)) ∙ i)
    ∙ ap (λ bs. token (record { text = take n bs; from = b; line = m; kind = k }) (reader xs (b + n) m (depth_after (get_or xs b 0) d) true)) (sym (tail xs b ∙ head_at xs b h))
