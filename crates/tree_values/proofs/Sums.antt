-- Sums of terms, and loops over them
use Rattle.std.proofs.Common.{◌≡◌, ℕ, ◌+◌, ◌<◌, refl, sym, ◌∙◌, ap, ap₂, List, [], ◌∷◌, ◌++◌, length, take, get_or}
use Rattle.std.proofs.lemmas.Grind.{take_at_read}
use Rattle.algebra.specs.Ring.{additive}
use Rattle.algebra.specs.RingLaws as L
use Rattle.algebra.specs.GroupLaws.{zero_from_double}
use Rattle.calculus.specs.Polynomial.{Polynomial, nil, plus, polynomials, plus_assoc, plus-nil}
use Rattle.tree_values.specs.declared.term.Term.{Term}
use Rattle.tree_values.specs.TermValue.{term_of, sum_of}

pub sum_of-append : (ts us : List Term) → sum_of (ts ++ us) ≡ plus (sum_of ts) (sum_of us)
unfolding sum_of
sum_of-append [] us = sym (L.zero-add polynomials _)
sum_of-append (t ∷ ts) us = ap (plus (term_of t)) (sum_of-append ts us) ∙ sym (plus_assoc (term_of t) (sum_of ts) (sum_of us))

pub sum_of-nothing : sum_of [] ≡ nil
unfolding sum_of
sum_of-nothing = refl

pub sum_of-one : (t : Term) → sum_of (t ∷ []) ≡ term_of t
unfolding sum_of
sum_of-one t = plus-nil (term_of t)

pub sum_of-push : (ts : List Term) (t : Term) → sum_of (ts ++ t ∷ []) ≡ plus (sum_of ts) (term_of t)
sum_of-push ts t = sum_of-append ts (t ∷ []) ∙ ap (plus (sum_of ts)) (sum_of-one t)

pub next_item : (ts : List Term) (i : ℕ) (t : Term) → i < length ts → t ≡ get_or ts i t → take (i + 1) ts ≡ take i ts ++ t ∷ []
next_item ts i t h e = (take_at_read ts i t h).1 ∙ ap (λ x. take i ts ++ x ∷ []) (sym e)

pub sum_of-next : (ts : List Term) (i : ℕ) (t : Term) → i < length ts → t ≡ get_or ts i t → sum_of (take (i + 1) ts) ≡ plus (sum_of (take i ts)) (term_of t)
sum_of-next ts i t h e = ap sum_of (next_item ts i t h e) ∙ sum_of-push (take i ts) t

abbrev pub IsAdditive : (Polynomial → Polynomial) → Type 0
IsAdditive f = (p q : Polynomial) → f (plus p q) ≡ plus (f p) (f q)

pub nil_of : (f : Polynomial → Polynomial) → IsAdditive f → f nil ≡ nil
nil_of f h = zero_from_double (additive polynomials) (f nil) (ap f (sym (plus-nil nil)) ∙ h nil nil)

-- before the first term
pub begun : (f : Polynomial → Polynomial) → IsAdditive f → (out : List Term) → out ≡ [] → sum_of out ≡ f (sum_of [])
begun f h out e = ap sum_of e ∙ sum_of-nothing ∙ sym (ap f sum_of-nothing ∙ nil_of f h)

-- after one more term, whose image was added
pub grown : (f : Polynomial → Polynomial) → IsAdditive f → (ts : List Term) (i : ℕ) (t : Term) → i < length ts → t ≡ get_or ts i t → (total more : Polynomial)
    → total ≡ f (sum_of (take i ts)) → more ≡ plus total (f (term_of t)) → more ≡ f (sum_of (take (i + 1) ts))
grown f h ts i t less e total more was now =
    now ∙ ap (λ x. plus x (f (term_of t))) was ∙ sym (ap f (sum_of-next ts i t less e) ∙ h _ _)

-- after one more term, whose image was pushed
pub pushed : (f : Polynomial → Polynomial) → IsAdditive f → (ts : List Term) (i : ℕ) (t : Term) → i < length ts → t ≡ get_or ts i t → (out more : List Term) (u : Term)
    → sum_of out ≡ f (sum_of (take i ts)) → more ≡ out ++ u ∷ [] → term_of u ≡ f (term_of t) → sum_of more ≡ f (sum_of (take (i + 1) ts))
pushed f h ts i t less e out more u was now image = grown f h ts i t less e (sum_of out) (sum_of more) was (ap sum_of now ∙ sum_of-push out u ∙ ap (plus (sum_of out)) image)

-- the same behind what was there before
pub pushed_behind : (f : Polynomial → Polynomial) → IsAdditive f → (start : Polynomial) (ts : List Term) (i : ℕ) (t : Term) → i < length ts → t ≡ get_or ts i t → (out more : List Term) (u : Term)
    → sum_of out ≡ plus start (f (sum_of (take i ts))) → more ≡ out ++ u ∷ [] → term_of u ≡ f (term_of t)
    → sum_of more ≡ plus start (f (sum_of (take (i + 1) ts)))
pushed_behind f h start ts i t less e out more u was now image =
    ap sum_of now ∙ sum_of-push out u ∙ ap₂ plus was image ∙ plus_assoc _ _ _ ∙ ap (plus start) (sym (ap f (sum_of-next ts i t less e) ∙ h _ _))

pub nothing_behind : (f : Polynomial → Polynomial) → IsAdditive f → (start : Polynomial) → start ≡ plus start (f (sum_of []))
nothing_behind f h start = sym (ap (λ p. plus start (f p)) sum_of-nothing ∙ ap (plus start) (nil_of f h) ∙ plus-nil start)

pub itself : IsAdditive (λ p. p)
itself p q = refl
