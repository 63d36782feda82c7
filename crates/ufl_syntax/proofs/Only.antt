-- There is one refused token, and one refusal of it.
use Rattle.std.proofs.Common.{[], ◌∷◌, ◌++◌, ◌≡◌, ◌<◌, ◌⊎◌, inl, inr, true, List, ℕ, refl, sym, ap, subst, ◌∙◌, append_assoc, arith}
use Rattle.ufl_syntax.specs.declared.class.Lexeme.{Lexeme}
use Rattle.ufl_syntax.specs.Grammar.{File}
use Rattle.ufl_syntax.specs.Depth.{depth_at}
use Rattle.ufl_syntax.specs.Refusal.{Begins, BeginsAny, IsRefused, IsWrong, IsTooDeep, is_opening}

heads : (x y : Lexeme) (s t : List Lexeme) → x ∷ s ≡ y ∷ t → (x ≡ y) × (s ≡ t)
heads x y s t e = (cc, cc)

-- the tokens up to a place, with the one at it, are among those before another
abbrev Earlier : List Lexeme → Lexeme → List Lexeme → Type 0
Earlier front bad other = (more : List Lexeme) × (other ≡ (front ++ bad ∷ []) ++ more)

places_by : (t u : Lexeme) (f g : List Lexeme) (x y : Lexeme) → t ≡ u → ((f ≡ g) × (x ≡ y)) ⊎ Earlier f x g ⊎ Earlier g y f → ((t ∷ f ≡ u ∷ g) × (x ≡ y)) ⊎ Earlier (t ∷ f) x (u ∷ g) ⊎ Earlier (u ∷ g) y (t ∷ f)
places_by t u f g x y e (inl h) = inl (ap (λ z. z ∷ f) e ∙ ap (λ l. u ∷ l) h.0, h.1)
places_by t u f g x y e (inr (inl h)) = inr (inl (h.0, ap (λ z. z ∷ g) (sym e) ∙ ap (λ l. t ∷ l) h.1))
places_by t u f g x y e (inr (inr h)) = inr (inr (h.0, ap (λ z. z ∷ f) e ∙ ap (λ l. u ∷ l) h.1))

-- of two places in a list, they are one, or one comes before the other
places : (f g : List Lexeme) (x y : Lexeme) (s t : List Lexeme) → f ++ x ∷ s ≡ g ++ y ∷ t → ((f ≡ g) × (x ≡ y)) ⊎ Earlier f x g ⊎ Earlier g y f
places [] [] x y s t e = inl (refl, (heads x y s t e).0)
places [] (u ∷ g) x y s t e = inr (inl (g, ap (λ z. z ∷ g) (sym (heads x u s (g ++ y ∷ t) e).0)))
places (u ∷ f) [] x y s t e = inr (inr (f, ap (λ z. z ∷ f) (heads u y (f ++ x ∷ s) t e).0))
places (t ∷ f) (u ∷ g) x y s v e =
    let h = heads t u (f ++ x ∷ s) (g ++ y ∷ v) e in
    places_by t u f g x y h.0 (places f g x y s v h.1)

-- no list of statements begins with more tokens than the refused one and those before it
pub none_begins : (n : ℕ) (front : List Lexeme) (bad : Lexeme) (more : List Lexeme) → IsRefused n front bad → Begins n ((front ++ bad ∷ []) ++ more) → ⊥
none_begins n front bad more r d = r.1 (more ++ d.0) d.1 (subst (λ ts. File n ts d.1 []) (append_assoc (front ++ bad ∷ []) more d.0) d.2)

none_earlier : (n : ℕ) (front : List Lexeme) (bad : Lexeme) (other : List Lexeme) → IsRefused n front bad → Begins n other → Earlier front bad other → ⊥
none_earlier n front bad other r d h = none_begins n front bad h.0 r (subst (Begins n) h.1 d)

one_by : (n : ℕ) (f g : List Lexeme) (x y : Lexeme) → IsRefused n f x → IsRefused n g y → ((f ≡ g) × (x ≡ y)) ⊎ Earlier f x g ⊎ Earlier g y f → (f ≡ g) × (x ≡ y)
one_by n f g x y r q (inl h) = h
one_by n f g x y r q (inr (inl h)) = absurd (none_earlier n f x g r q.0 h)
one_by n f g x y r q (inr (inr h)) = absurd (none_earlier n g y f q r.0 h)

pub one_refused : (n : ℕ) (f g : List Lexeme) (x y : Lexeme) (s t : List Lexeme) → f ++ x ∷ s ≡ g ++ y ∷ t → IsRefused n f x → IsRefused n g y → (f ≡ g) × (x ≡ y)
one_refused n f g x y s t e r q = one_by n f g x y r q (places f g x y s t e)

deep_by : (n : ℕ) (front : List Lexeme) (bad : Lexeme) → IsWrong n front bad → n < depth_at (front ++ bad ∷ []) → BeginsAny (front ++ bad ∷ []) ⊎ (is_opening bad.class ≡ true) → ⊥
deep_by n front bad w l (inl h) = w.0 h
deep_by n front bad w l (inr h) = absurd (omega (arith, l, w.1 h))

-- what is wrong isn't too deep
pub not_both : (n : ℕ) (front : List Lexeme) (bad : Lexeme) → IsWrong n front bad → IsTooDeep n front bad → ⊥
not_both n front bad w d = deep_by n front bad w d.0 d.1
