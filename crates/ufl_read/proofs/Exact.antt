-- Tokens are a list of statements, or have one refusal.
use Rattle.std.proofs.Common.{[], ◌∷◌, ◌++◌, ◌≡◌, ◌+◌, ◌-◌, ◌≤◌, ◌⊎◌, inl, inr, take, drop, length, List, ℕ, refl, sym, ap, subst, ◌∙◌, append_assoc, append-nil, arith, length-drop}
use Rattle.std.proofs.lemmas.List.{take-append-drop, length-append}
use Rattle.ufl_syntax.specs.declared.class.Lexeme.{Lexeme}
use Rattle.ufl_syntax.specs.declared.tree.Stmt.{Stmt}
use Rattle.ufl_syntax.specs.Grammar.{File}
use Rattle.ufl_syntax.specs.Refusal.{Begins, IsRefused, IsWrong, IsTooDeep}
use Rattle.ufl_syntax.proofs.Only.{none_begins, one_refused, not_both}
use Rattle.ufl_read.specs.declared.tokens.Fault.{Fault}
use Rattle.ufl_read.specs.declared.tokens.Fault.TheVariants as f
use Rattle.ufl_syntax.specs.Refusal.{AreStatements, EndsEarly, Stops}
use Rattle.ufl_syntax.proofs.Whole.{one_of_three}
use Rattle.ufl_read.specs.Reads.{IsFault}

split_at : (all : List Lexeme) (at : ℕ) (bad : Lexeme) (after : List Lexeme) → drop at all ≡ bad ∷ after → all ≡ take at all ++ bad ∷ after
split_at all at bad after d = sym (take-append-drop at all) ∙ ap (λ l. take at all ++ l) d

-- where a token stands there, so many stand before it
before : (all : List Lexeme) (at : ℕ) (bad : Lexeme) (after : List Lexeme) → drop at all ≡ bad ∷ after → length (take at all) ≡ at
before all at bad after d =
    let whole : length all ≡ length (take at all) + length (bad ∷ after) = ap length (split_at all at bad after d) ∙ length-append (take at all) (bad ∷ after) in
    let left : length (bad ∷ after) ≡ length all - at = sym (ap length d) ∙ length-drop at all in
    omega (arith, whole, left)

same_place : (all : List Lexeme) (a b : ℕ) (x y : Lexeme) (s t : List Lexeme) → drop a all ≡ x ∷ s → drop b all ≡ y ∷ t → take a all ≡ take b all → a ≡ b
same_place all a b x y s t d e h = sym (before all a x s d) ∙ ap length h ∙ before all b y t e

-- of two refused tokens both are at one place
one_at : (n : ℕ) (all : List Lexeme) (a b : ℕ) (x y : Lexeme) (s t : List Lexeme) → drop a all ≡ x ∷ s → drop b all ≡ y ∷ t → IsRefused n (take a all) x → IsRefused n (take b all) y
    → (take a all ≡ take b all) × (x ≡ y)
one_at n all a b x y s t d e r q = one_refused n (take a all) (take b all) x y s t (sym (split_at all a x s d) ∙ split_at all b y t e) r q

never_begun : (n : ℕ) (all : List Lexeme) (at : ℕ) (bad : Lexeme) (after : List Lexeme) → drop at all ≡ bad ∷ after → IsRefused n (take at all) bad → Begins n all → ⊥
never_begun n all at bad after d r b =
    none_begins n (take at all) bad after r (subst (Begins n) (split_at all at bad after d ∙ sym (append_assoc (take at all) (bad ∷ []) after)) b)

deep_or_wrong : (n : ℕ) (all : List Lexeme) (a b : ℕ) (x y : Lexeme) → (take a all ≡ take b all) × (x ≡ y) → IsWrong n (take a all) x → IsTooDeep n (take b all) y → ⊥
deep_or_wrong n all a b x y h w d = not_both n (take a all) x w (subst (λ z. IsTooDeep n (take a all) z) (sym h.1) (subst (λ l. IsTooDeep n l y) (sym h.0) d))

pub one_fault : (n : ℕ) (all : List Lexeme) (e d : Fault) → IsFault n all e → IsFault n all d → e ≡ d
one_fault n all f.Memory d r q = absurd r
one_fault n all f.Short f.Memory r q = absurd q
one_fault n all (f.Wrong a) f.Memory r q = absurd q
one_fault n all (f.Deep a) f.Memory r q = absurd q
one_fault n all f.Short f.Short r q = refl
one_fault n all f.Short (f.Wrong b) r (y, t, e, q) = absurd (never_begun n all b y t e q.0 r.0)
one_fault n all f.Short (f.Deep b) r (y, t, e, q) = absurd (never_begun n all b y t e q.0 r.0)
one_fault n all (f.Wrong a) f.Short (x, s, d, r) q = absurd (never_begun n all a x s d r.0 q.0)
one_fault n all (f.Deep a) f.Short (x, s, d, r) q = absurd (never_begun n all a x s d r.0 q.0)
one_fault n all (f.Wrong a) (f.Wrong b) (x, s, d, r) (y, t, e, q) = ap f.Wrong (same_place all a b x y s t d e (one_at n all a b x y s t d e r.0 q.0).0)
one_fault n all (f.Deep a) (f.Deep b) (x, s, d, r) (y, t, e, q) = ap f.Deep (same_place all a b x y s t d e (one_at n all a b x y s t d e r.0 q.0).0)
one_fault n all (f.Wrong a) (f.Deep b) (x, s, d, r) (y, t, e, q) = absurd (deep_or_wrong n all a b x y (one_at n all a b x y s t d e r.0 q.0) r.1 q.1)
one_fault n all (f.Deep a) (f.Wrong b) (x, s, d, r) (y, t, e, q) = absurd (deep_or_wrong n all b a y x (one_at n all b a y x t s e d q.0 r.0) q.1 r.1)

-- a list of statements has none
pub no_fault : (n : ℕ) (all : List Lexeme) (sts : List Stmt) (e : Fault) → File n all sts [] → IsFault n all e → ⊥
no_fault n all sts f.Memory d r = r
no_fault n all sts f.Short d r = r.1 sts d
no_fault n all sts (f.Wrong a) d (x, s, e, r) = never_begun n all a x s e r.0 ([], sts, subst (λ l. File n l sts []) (sym (append-nil all)) d)
no_fault n all sts (f.Deep a) d (x, s, e, r) = never_begun n all a x s e r.0 ([], sts, subst (λ l. File n l sts []) (sym (append-nil all)) d)

take_front : (front rest : List Lexeme) → take (length front) (front ++ rest) ≡ front
take_front [] [] = refl
take_front [] (t ∷ ts) = refl
take_front (t ∷ front) rest = ap (λ l. t ∷ l) (take_front front rest)

drop_front : (front rest : List Lexeme) → drop (length front) (front ++ rest) ≡ rest
drop_front [] [] = refl
drop_front [] (t ∷ ts) = refl
drop_front (t ∷ front) rest = drop_front front rest

some_stop : (n : ℕ) (all : List Lexeme) → Stops n all → (e : Fault) × IsFault n all e
some_stop n all (front, bad, (after, e, r, inl w)) =
    let d : drop (length front) all ≡ bad ∷ after = ap (drop (length front)) e ∙ drop_front front (bad ∷ after) in
    let t : take (length front) all ≡ front = ap (take (length front)) e ∙ take_front front (bad ∷ after) in
    (f.Wrong (length front), (bad, after, d, (subst (λ l. IsRefused n l bad) (sym t) r, subst (λ l. IsWrong n l bad) (sym t) w)))
some_stop n all (front, bad, (after, e, r, inr w)) =
    let d : drop (length front) all ≡ bad ∷ after = ap (drop (length front)) e ∙ drop_front front (bad ∷ after) in
    let t : take (length front) all ≡ front = ap (take (length front)) e ∙ take_front front (bad ∷ after) in
    (f.Deep (length front), (bad, after, d, (subst (λ l. IsRefused n l bad) (sym t) r, subst (λ l. IsTooDeep n l bad) (sym t) w)))

some_by : (n : ℕ) (all : List Lexeme) → AreStatements n all ⊎ EndsEarly n all ⊎ Stops n all → AreStatements n all ⊎ ((e : Fault) × IsFault n all e)
some_by n all (inl s) = inl s
some_by n all (inr (inl s)) = inr (f.Short, s)
some_by n all (inr (inr s)) = inr (some_stop n all s)

-- tokens are a list of statements, or have a refusal
pub statements_or_fault : (n : ℕ) (all : List Lexeme) → 2 ≤ n → AreStatements n all ⊎ ((e : Fault) × IsFault n all e)
statements_or_fault n all l = some_by n all (one_of_three n all l)
