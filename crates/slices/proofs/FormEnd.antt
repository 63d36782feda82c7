-- The tokens of a form file end with the end of a line.
use Rattle.std.proofs.Common.{◌≡◌, ℕ, List, [], ◌∷◌, ◌++◌, ◌⊎◌, inl, inr, Option, Some, None, true, false, Bool, ◌==◌, if◌then◌else◌, refl, ap, subst, drop}
use Rattle.slices.specs.FormGap.{Spot}
use Rattle.slices.specs.FormTable.{form_token}
use Rattle.slices.specs.FormTokens.{FormReader, FormNext, finished, no_token, token, form_next, gap_end, next_at, next_by, Scan, no_more, lost, one_more}
use Rattle.slices.specs.declared.toks.Tok.{Tok}
use Rattle.slices.specs.declared.toks.LexAt.{LexAt}
use Rattle.slices.specs.declared.toks.TokKind.{TokKind}
use Rattle.slices.specs.declared.toks.TokKind.TheVariants.{End}

-- nothing comes only where the statement has no token, and after a token it has one, unless that ends it
abbrev Ends : FormReader → FormNext → Type 0
Ends r finished = r.begun ≡ false
Ends r (no_token from line) = Unit {0}
Ends r (token t q) = q.begun ≡ false → t.kind ≡ End

ends_if : (b : Bool) (r : FormReader) (x y : FormNext) → Ends r x → (b ≡ false → Ends r y) → Ends r (if b then x else y)
ends_if true r x y h i = h
ends_if false r x y h i = i refl

ends_by : (o : Option (ℕ × TokKind)) (r : FormReader) (p : Spot) (b : ℕ) (bytes : List ℕ) → Ends r (next_by r p b bytes o)
ends_by None r p b bytes = tt
ends_by (Some t) r p b bytes = λ e. cc

ends_at : (r : FormReader) (p : Spot) (bytes : List ℕ) → Ends r (next_at r p bytes)
ends_at r p [] = ends_if r.begun r _ _ (λ e. refl) (λ e. e)
ends_at r p (b ∷ bs) = ends_if (b == 10) r _ _ (λ e. refl) (λ e. ends_by (form_token (b ∷ bs)) r p b (b ∷ bs))

next_ends : (r : FormReader) → Ends r (form_next r)
unfolding form_next
next_ends r = ends_at r (gap_end r) (drop (gap_end r).at r.source)

-- these are no tokens, or the last of them ends a line
abbrev pub EndsALine : List Tok → Type 0
EndsALine ts = (front : List Tok) × (end : Tok) × (ts ≡ front ++ end ∷ []) × (end.kind ≡ End)

ended_by : (t : Tok) (ts : List Tok) (begun : Bool) → (begun ≡ false → t.kind ≡ End) → ((ts ≡ []) × (begun ≡ false)) ⊎ EndsALine ts → EndsALine (t ∷ ts)
ended_by t ts begun h (inl x) = ([], t, ap (λ us. t ∷ us) x.0, h x.1)
ended_by t ts begun h (inr x) = (t ∷ x.0, x.1, ap (λ us. t ∷ us) x.2, x.3)

-- Where a token starts wherever one may, there are no tokens, or the last of them ends a line.
pub ends_a_line : (r : FormReader) (ts : List Tok) (e : Option LexAt) → e ≡ None → Scan r ts e → ((ts ≡ []) × (r.begun ≡ false)) ⊎ EndsALine ts
ends_a_line r ts e n (no_more x) = inl (refl, subst (Ends r) x (next_ends r))
ends_a_line r ts e n (lost x) = cc
ends_a_line r ts e n (one_more {t = t} {q = q} {ts = us} x s) = inr (ended_by t us q.begun (subst (Ends r) x (next_ends r)) (ends_a_line q us e n s))
