-- What comes next, once the white space is gone over
use Rattle.std.proofs.Common.{◌≡◌, refl, sym, ◌∙◌, ap, ℕ, zero, suc, ◌+◌, ◌<◌, List, [], ◌∷◌, length, take, drop, Some, None, true, false, subst, ◌-◌, arith}
use Rattle.std.proofs.Math.Dec.{eqb}
use Rattle.std.proofs.lemmas.Bool.{eqb-true}
use Rattle.std.proofs.lemmas.List.{take_all, length-drop, drop-drop}
use Rattle.slices.specs.White.{Rest, after_white}
use Rattle.slices.specs.CTable.{c_token}
use Rattle.slices.specs.Tokens.{finished, no_token, token, next_of, next_at, next_by, without_white}
use Rattle.slices.specs.declared.toks.TokKind.{TokKind}
use Rattle.slices.proofs.White.{behind_white}

pub next_from : (r q : Rest) → after_white r.bytes r.from r.line ≡ q → next_of r ≡ next_at q q.bytes
unfolding next_of without_white
next_from r q e = ap (λ x. next_at x x.bytes) e

-- the same of what is left
pub next_again : (r q : Rest) → after_white r.bytes r.from r.line ≡ q → next_of q ≡ next_at q q.bytes
next_again r q e = next_from q q (ap (λ x. after_white x.bytes x.from x.line) (sym e) ∙ behind_white r.bytes r.from r.line ∙ e)

positive : (n : ℕ) → eqb n 0 ≡ false → 0 < n
positive zero e = cc
positive (suc n) e = omega arith

pub at_end : (q : Rest) (bs : List ℕ) → length bs ≡ 0 → next_at q bs ≡ finished
at_end q [] h = refl
at_end q (b ∷ bs) h = absurd (omega (arith, h))

pub at_none : (q : Rest) (bs : List ℕ) → 0 < length bs → c_token bs ≡ None → next_at q bs ≡ no_token q.from q.line
at_none q [] h e = absurd (omega (arith, h))
at_none q (b ∷ bs) h e = ap (λ o. next_by o q) e

pub at_some : (q : Rest) (bs : List ℕ) (n : ℕ) (k : TokKind) → c_token bs ≡ Some (n, k) → next_at q bs ≡ next_by (Some (n, k)) q
unfolding c_token
at_some q [] n k e = cc
at_some q (b ∷ bs) n k e = ap (λ o. next_by o q) e

-- a text from a place on, as code slices it
tail : (xs : List ℕ) (b : ℕ) → take (length xs - b) (drop b xs) ≡ drop b xs
tail xs b = take_all (length xs - b) (drop b xs) (omega (arith, length-drop b xs))

abbrev Skips : List ℕ → ℕ → ℕ → ℕ → ℕ → Type 0
Skips xs a l b m = after_white (drop a xs) a l ≡ record { bytes = drop b xs; from = b; line = m }

pub ends : (xs : List ℕ) (a l b m : ℕ) → Skips xs a l b m → eqb (length (take (length xs - b) (drop b xs))) 0 ≡ true
    → (next_of (record { bytes = drop a xs; from = a; line = l }) ≡ finished) × (next_of (record { bytes = drop b xs; from = b; line = m }) ≡ finished)
ends xs a l b m h e =
    let q : Rest = record { bytes = drop b xs; from = b; line = m } in
    let none : length (drop b xs) ≡ 0 = ap length (sym (tail xs b)) ∙ eqb-true _ _ e in
    (next_from (record { bytes = drop a xs; from = a; line = l }) q h ∙ at_end q (drop b xs) none, next_again (record { bytes = drop a xs; from = a; line = l }) q h ∙ at_end q (drop b xs) none)

pub lost : (xs : List ℕ) (a l b m : ℕ) → Skips xs a l b m → eqb (length (take (length xs - b) (drop b xs))) 0 ≡ false → c_token (take (length xs - b) (drop b xs)) ≡ None
    → (next_of (record { bytes = drop a xs; from = a; line = l }) ≡ no_token b m) × (next_of (record { bytes = drop b xs; from = b; line = m }) ≡ no_token b m)
lost xs a l b m h e n =
    let q : Rest = record { bytes = drop b xs; from = b; line = m } in
    let some : 0 < length (drop b xs) = subst (λ l. 0 < length l) (tail xs b) (positive (length (take (length xs - b) (drop b xs))) e) in
    let none : c_token (drop b xs) ≡ None = ap c_token (sym (tail xs b)) ∙ n in
    (next_from (record { bytes = drop a xs; from = a; line = l }) q h ∙ at_none q (drop b xs) some none, next_again (record { bytes = drop a xs; from = a; line = l }) q h ∙ at_none q (drop b xs) some none)

pub found : (xs : List ℕ) (a l b m n : ℕ) (k : TokKind) → Skips xs a l b m → c_token (take (length xs - b) (drop b xs)) ≡ Some (n, k)
    → next_of (record { bytes = drop a xs; from = a; line = l })
    ≡ token (record { text = take n (take (length xs - b) (drop b xs)); from = b; line = m; kind = k }) (record { bytes = drop (b + n) xs; from = b + n; line = m })
found xs a l b m n k h e =
    let q : Rest = record { bytes = drop b xs; from = b; line = m } in
    next_from (record { bytes = drop a xs; from = a; line = l }) q h
    ∙ at_some q (drop b xs) n k (ap c_token (sym (tail xs b)) ∙ e)
    ∙ ap (λ bs. token (record { text = take n (drop b xs); from = b; line = m; kind = k }) (record { bytes = bs; from = b + n; line = m })) (drop-drop n b xs)
    ∙ ap (λ bs. token (record { text = take n bs; from = b; line = m; kind = k }) (record { bytes = drop (b + n) xs; from = b + n; line = m })) (sym (tail xs b))
