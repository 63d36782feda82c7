-- Two scans of a form file agree, and each token is the cut of the file at its place.
use Rattle.std.proofs.Common.{◌≡◌, refl, sym, ◌∙◌, ap, subst, ℕ, zero, suc, ◌+◌, ◌-◌, ◌≤◌, Bool, true, false, ◌==◌, ◌&&◌, if◌then◌else◌, List, [], ◌∷◌, map, length, take, drop, Option, Some, None, All, arith, length-drop}
use Rattle.std.proofs.lemmas.List.{length-take}
use Rattle.slices.specs.FormGap.{Within, blanks, comment, backslash, returned, after_gap, Spot, spot, is_blank}
use Rattle.slices.specs.FormTable.{form_token}
use Rattle.slices.specs.FormTokens.{FormReader, FormNext, finished, no_token, token, form_next, gap_end, next_at, next_by, quiet_at, IsCutAt, IsCut, Scan, no_more, lost, one_more}
use Rattle.slices.specs.Tokens.{Token, token_of}
use Rattle.slices.specs.declared.toks.Tok.{Tok}
use Rattle.slices.specs.declared.toks.LexAt.{LexAt}
use Rattle.slices.specs.declared.toks.TokKind.{TokKind}
use Rattle.slices.proofs.FormLengths.{Fits, token_fits}

-- ---- two scans

no_token_is : (a b c d : ℕ) → no_token a b ≡ no_token c d → (a ≡ c) × (b ≡ d)
no_token_is a b c d h = (cc, cc)

token_is : (t u : Token) (q p : FormReader) → token t q ≡ token u p → (t ≡ u) × (q ≡ p)
token_is t u q p h = (cc, cc)

lex_at : ℕ → ℕ → LexAt
lex_at from line = record { from = from; line = line }

one_place : (a b : LexAt) → no_token a.from a.line ≡ no_token b.from b.line → a ≡ b
unfolding lex_at
one_place a b h =
    let p = no_token_is a.from a.line b.from b.line h in
    ap (λ f. lex_at f a.line) p.0 ∙ ap (lex_at b.from) p.1

abbrev pub Agree : List Tok → List Tok → Option LexAt → Option LexAt → Type 0
Agree ts us d e = (map token_of ts ≡ map token_of us) × (d ≡ e)

no_end : (from line : ℕ) → finished ≡ no_token from line → ⊥
no_end from line h = cc

no_rest : (t : Token) (q : FormReader) → finished ≡ token t q → ⊥
no_rest t q h = cc

not_lost : (from line : ℕ) (t : Token) (q : FormReader) → no_token from line ≡ token t q → ⊥
not_lost from line t q h = cc

pub same_scan : (r : FormReader) (ts us : List Tok) (d e : Option LexAt) → Scan r ts d → Scan r us e → Agree ts us d e
same_scan r ts us d e (no_more x) (no_more y) = (refl, refl)
same_scan r ts us d e (no_more x) (lost {e = b} y) = absurd (no_end b.from b.line (sym x ∙ y))
same_scan r ts us d e (no_more x) (one_more {t = u} {q = p} y z) = absurd (no_rest (token_of u) p (sym x ∙ y))
same_scan r ts us d e (lost {e = a} x) (no_more y) = absurd (no_end a.from a.line (sym y ∙ x))
same_scan r ts us d e (lost {e = a} x) (lost {e = b} y) = (refl, ap Some (one_place a b (sym x ∙ y)))
same_scan r ts us d e (lost {e = a} x) (one_more {t = u} {q = p} y z) = absurd (not_lost a.from a.line (token_of u) p (sym x ∙ y))
same_scan r ts us d e (one_more {t = t} {q = q} x s) (no_more y) = absurd (no_rest (token_of t) q (sym y ∙ x))
same_scan r ts us d e (one_more {t = t} {q = q} x s) (lost {e = b} y) = absurd (not_lost b.from b.line (token_of t) q (sym y ∙ x))
same_scan r ts us d e (one_more {t = t} {q = q} {ts = front} x s) (one_more {t = u} {q = p} {ts = back} y z) =
    let h = token_is (token_of t) (token_of u) q p (sym x ∙ y) in
    let i = same_scan q front back d e s (subst (λ k. Scan k back e) (sym h.1) z) in
    (ap (λ v. v ∷ map token_of front) h.0 ∙ ap (λ vs. token_of u ∷ vs) i.0, i.1)

-- ---- cuts of the file

abbrev Under : ℕ → Spot → Type 0
Under m p = p.at ≤ m

under_if : (b : Bool) (m : ℕ) (p q : Spot) → Under m p → Under m q → Under m (if b then p else q)
under_if true m p q h i = h
under_if false m p q h i = i

-- how far the place lags behind the bytes that are left
abbrev lag : Within → ℕ
lag blanks = 0
lag comment = 0
lag backslash = 1
lag returned = 2

gap_within : (w : Within) (quiet : Bool) (bs : List ℕ) (at line m : ℕ) → at + lag w + length bs ≤ m → Under m (after_gap w quiet bs at line)
gap_within blanks quiet [] at line m h = omega (arith, h)
gap_within comment quiet [] at line m h = omega (arith, h)
gap_within backslash quiet [] at line m h = omega (arith, h)
gap_within returned quiet [] at line m h = omega (arith, h)
gap_within blanks quiet (b ∷ bs) at line m h =
    let here : at ≤ m = omega (arith, h) in
    under_if (is_blank b) m _ _ (gap_within blanks quiet bs (at + 1) line m (omega (arith, h)))
    (under_if (b == 35) m _ _ (gap_within comment quiet bs (at + 1) line m (omega (arith, h)))
    (under_if (b == 10 && quiet) m _ _ (gap_within blanks quiet bs (at + 1) (line + 1) m (omega (arith, h)))
    (under_if (b == 92) m _ (spot at line) (gap_within backslash quiet bs at line m (omega (arith, h))) here)))
gap_within comment quiet (b ∷ bs) at line m h =
    let here : at ≤ m = omega (arith, h) in
    under_if (b == 10) m _ _ (under_if quiet m _ (spot at line) (gap_within blanks quiet bs (at + 1) (line + 1) m (omega (arith, h))) here)
    (gap_within comment quiet bs (at + 1) line m (omega (arith, h)))
gap_within backslash quiet (b ∷ bs) at line m h =
    let here : at ≤ m = omega (arith, h) in
    under_if (b == 10) m _ _ (gap_within blanks quiet bs (at + 2) (line + 1) m (omega (arith, h)))
    (under_if (b == 13) m _ (spot at line) (gap_within returned quiet bs at line m (omega (arith, h))) here)
gap_within returned quiet (b ∷ bs) at line m h =
    let here : at ≤ m = omega (arith, h) in
    under_if (b == 10) m _ (spot at line) (gap_within blanks quiet bs (at + 3) (line + 1) m (omega (arith, h))) here

gap_end_within : (r : FormReader) → r.at ≤ length r.source → (gap_end r).at ≤ length r.source
unfolding gap_end
gap_end_within r h = gap_within blanks (quiet_at r.begun r.depth) (drop r.at r.source) r.at r.line (length r.source) (omega (arith, h, length-drop r.at r.source))

taken_again : (n : ℕ) (xs : List ℕ) → take n xs ≡ take (length (take n xs)) xs
taken_again zero [] = refl
taken_again zero (x ∷ xs) = refl
taken_again (suc n) [] = refl
taken_again (suc n) (x ∷ xs) = ap (λ l. x ∷ l) (taken_again n xs)

-- the first bytes of what is left
cut_taken : (source : List ℕ) (at n : ℕ) (bytes : List ℕ) → bytes ≡ drop at source → at ≤ length source → IsCutAt source at (take n bytes)
cut_taken source at n bytes e h =
    let l : length bytes ≡ length source - at = ap length e ∙ length-drop at source in (
      omega (arith, h, l, length-take n bytes),
      taken_again n bytes ∙ ap (take (length (take n bytes))) e,
    )

-- a token is a cut of the source, which stays the same and isn't passed
abbrev Cuts : List ℕ → FormNext → Type 0
Cuts source finished = Unit {0}
Cuts source (no_token from line) = Unit {0}
Cuts source (token t q) = IsCutAt source t.from t.text × (q.source ≡ source) × (q.at ≤ length source)

cuts_if : (b : Bool) (source : List ℕ) (x y : FormNext) → Cuts source x → Cuts source y → Cuts source (if b then x else y)
cuts_if true source x y h i = h
cuts_if false source x y h i = i

cuts_by : (o : Option (ℕ × TokKind)) (r : FormReader) (p : Spot) (b : ℕ) (bytes : List ℕ) → bytes ≡ drop p.at r.source → p.at ≤ length r.source → Fits (length bytes) o → Cuts r.source (next_by r p b bytes o)
cuts_by None r p b bytes e h f = tt
cuts_by (Some t) r p b bytes e h f =
    let l : length bytes ≡ length r.source - p.at = ap length e ∙ length-drop p.at r.source in
    let m : t.0 ≤ length bytes = f.1 in
    (cut_taken r.source p.at t.0 bytes e h, refl, omega (arith, h, l, m))

cuts_at : (r : FormReader) (p : Spot) (bytes : List ℕ) → bytes ≡ drop p.at r.source → p.at ≤ length r.source → Cuts r.source (next_at r p bytes)
cuts_at r p [] e h = cuts_if r.begun r.source _ _ (cut_taken r.source p.at 0 [] e h, refl, h) tt
cuts_at r p (b ∷ bs) e h =
    let l : length (b ∷ bs) ≡ length r.source - p.at = ap length e ∙ length-drop p.at r.source in
    cuts_if (b == 10) r.source _ _ (cut_taken r.source p.at 1 (b ∷ bs) e h, refl, omega (arith, h, l)) (cuts_by (form_token (b ∷ bs)) r p b (b ∷ bs) e h (token_fits (b ∷ bs)))

next_cuts : (r : FormReader) → r.at ≤ length r.source → Cuts r.source (form_next r)
unfolding form_next
next_cuts r h = cuts_at r (gap_end r) (drop (gap_end r).at r.source) refl (gap_end_within r h)

no_tokens : (P : Tok → Type 0) → All P []
no_tokens P k d h = absurd (omega (arith, h))

one_token : (P : Tok → Type 0) (t : Tok) (ts : List Tok) → P t → All P ts → All P (t ∷ ts)
one_token P t ts h i zero d l = h
one_token P t ts h i (suc k) d l = i k d (omega (arith, l))

pub cut_tokens : (r : FormReader) (ts : List Tok) (e : Option LexAt) → r.at ≤ length r.source → Scan r ts e → All (IsCut r.source) ts
cut_tokens r ts e h (no_more x) = no_tokens (IsCut r.source)
cut_tokens r ts e h (lost x) = no_tokens (IsCut r.source)
cut_tokens r ts e h (one_more {t = t} {q = q} {ts = us} x s) =
    let c = subst (Cuts r.source) x (next_cuts r h) in
    let l : q.at ≤ length q.source = subst (λ source. q.at ≤ length source) (sym c.1) c.2 in
    one_token (IsCut r.source) t us c.0 (subst (λ source. All (IsCut source) us) c.1 (cut_tokens q us e l s))
