-- Steps, one behind the other
use Rattle.std.proofs.Common.{◌≡◌, ◌<◌, ◌≤◌, ◌+◌, inl, inr, ℕ, suc, List, [], ◌∷◌, ◌++◌, map, length, get_or, IsErr, IsErrAnd, true≢false, drop, drop-cons, add-one, Result, Ok, Err, sym, ap, ◌∙◌, subst}
use Rattle.std.proofs.lemmas.List.{drop_all}
use Rattle.ufl_read.specs.declared.refusal.FormRefusal.{FormRefusal}
use Rattle.ufl_syntax.specs.declared.span.Span.{Span}
use Rattle.ufl_syntax.specs.declared.tree.Syn.{Syn}
use Rattle.ufl_values.specs.declared.value.Value.{Value}
use Rattle.ufl_calls.specs.declared.made.Made.{Made}
use Rattle.ufl_calls.specs.Calls.{Refusable, Finds}
use Rattle.ufl_elab.specs.Evaluation.{Eval, step, worth, collected, values_from}

-- a step that gave its value is followed by the next
pub finds_then : {A B : Type 0} (x : A) (n : Made) (want : Refusable A) (next : A → Made → Refusable B) (r : Result B FormRefusal) (m : Made)
    → want ≡ Ok (x, n) → Finds r m (next x n) → Finds r m (step want next)
finds_then x n want next r m e h = subst (λ w. Finds r m (step w next)) (sym e) h

-- a refusal is that of what comes after, too
pub finds_err : {A B : Type 0} (e : FormRefusal) (n m : Made) (want : Refusable A) (next : A → Made → Refusable B)
    → Finds {A = A} (Err e) n want → Finds {A = B} (Err e) m (step want next)
finds_err e n m want next (inl h) = inl h
finds_err e n m want next (inr h) = inr (ap (λ w. step w next) h)

-- the refusal that a `?` hands on
pub finds_residual : {A M : Type 0} (r : Result A FormRefusal) (e : FormRefusal) (m : M) (want : Result (A × M) FormRefusal)
    → IsErr r → IsErrAnd r (λ x. x ≡ e) → Finds (Err e) m want → Finds r m want
finds_residual (Ok a) e m want h k f = absurd (true≢false (sym h))
finds_residual (Err x) e m want h k f = subst (λ y. Finds (Err y) m want) (sym k) f

-- what is wanted under another name
pub finds_as : {A : Type 0} (r : Result A FormRefusal) (m : Made) (want other : Refusable A) → want ≡ other → Finds r m other → Finds r m want
finds_as r m want other e h = subst (λ w. Finds r m w) (sym e) h

pub next_dropped : {A : Type 0} (xs : List A) (i : ℕ) (x : A) → i < length xs → x ≡ get_or xs i x → drop i xs ≡ x ∷ drop (i + 1) xs
next_dropped xs i x h e = rw (add-one, drop-cons xs i x) (ap (λ y. y ∷ drop (suc i) xs) (sym e))

-- ---- a run over a list, one step for each item
module _ {X S R Y : Type 0} (F : List X → S → Made → Refusable R) (G : X → S → Made → Refusable S)
    (steps : (x : X) (xs : List X) (s : S) (m : Made) → F (x ∷ xs) s m ≡ step (G x s m) (λ t n. F xs t n)) (f : Y → X) where
  run_at : (ys : List Y) (i : ℕ) (y : Y) (s : S) (m : Made) → i < length ys → y ≡ get_or ys i y
      → F (map f (drop i ys)) s m ≡ step (G (f y) s m) (λ t n. F (map f (drop (i + 1) ys)) t n)
  run_at ys i y s m h e = ap (λ l. F (map f l) s m) (next_dropped ys i y h e) ∙ steps (f y) (map f (drop (i + 1) ys)) s m

  pub run_next : (ys : List Y) (i : ℕ) (y : Y) (s t : S) (m n : Made) (want : Refusable R) → i < length ys → y ≡ get_or ys i y
      → G (f y) s m ≡ Ok (t, n) → want ≡ F (map f (drop i ys)) s m → want ≡ F (map f (drop (i + 1) ys)) t n
  run_next ys i y s t m n want h e g w = w ∙ run_at ys i y s m h e ∙ ap (λ o. step o (λ a k. F (map f (drop (i + 1) ys)) a k)) g

  pub run_stops : (ys : List Y) (i : ℕ) (y : Y) (s : S) (m n k : Made) (want : Refusable R) (e : FormRefusal) → i < length ys → y ≡ get_or ys i y
      → Finds {A = S} (Err e) n (G (f y) s m) → want ≡ F (map f (drop i ys)) s m → Finds {A = R} (Err e) k want
  run_stops ys i y s m n k want e h i_is (inl g) w = inl g
  run_stops ys i y s m n k want e h i_is (inr g) w =
      inr (w ∙ run_at ys i y s m h i_is ∙ ap (λ o. step o (λ a b. F (map f (drop (i + 1) ys)) a b)) g)

  pub run_ends : (ys : List Y) (i : ℕ) (s : S) (m : Made) (want : Refusable R) → length ys ≤ i
      → want ≡ F (map f (drop i ys)) s m → want ≡ F [] s m
  run_ends ys i s m want h w = w ∙ ap (λ l. F (map f l) s m) (drop_all i ys h)

-- ---- the items of a tuple or a list
pub values_next : (line : ℕ) (f : Syn → Eval) (xs : List Syn) (i : ℕ) (x : Syn) (vs : List Value) (a : Value) (m n : Made) (want : Refusable (List Value))
    → i < length xs → x ≡ get_or xs i x → worth line (f x m) ≡ Ok (a, n) → want ≡ values_from line vs (map f (drop i xs)) m
    → want ≡ values_from line (vs ++ a ∷ []) (map f (drop (i + 1) xs)) n
values_next line f xs i x vs a m n want h e g w =
    w ∙ ap (λ l. values_from line vs (map f l) m) (next_dropped xs i x h e)
    ∙ ap (λ o. step o (λ b k. values_from line (vs ++ b ∷ []) (map f (drop (i + 1) xs)) k)) g

pub values_stops : (line : ℕ) (word : Span) (f : Syn → Eval) (xs : List Syn) (i : ℕ) (x : Syn) (vs : List Value) (m n : Made) (want : Refusable (List Value)) (e : FormRefusal)
    → i < length xs → x ≡ get_or xs i x → Finds {A = Value} (Err e) n (worth line (f x m)) → want ≡ values_from line vs (map f (drop i xs)) m
    → Finds {A = List Value} (Err e) n (collected line word want)
values_stops line word f xs i x vs m n want e h i_is (inl g) w = inl g
values_stops line word f xs i x vs m n want e h i_is (inr g) w =
    inr (ap (collected line word) (w ∙ ap (λ l. values_from line vs (map f l) m) (next_dropped xs i x h i_is)
    ∙ ap (λ o. step o (λ b k. values_from line (vs ++ b ∷ []) (map f (drop (i + 1) xs)) k)) g))
