-- Two and five words
use Rattle.std.proofs.Common.{◌≡◌, ℕ, List, [], ◌∷◌, Bool, true, false, true≢false, length, get_or, refl, sym, ◌∙◌, ap, arith, codes}
use Rattle.std.specs.Prelude.{string_bytes, String}
use Rattle.std.specs.Global.{Global}
use Rattle.std.specs.Str.{bytes_eq}
use Rattle.std.proofs.lemmas.Slice.Eq.{bytes_eq-Decides}
use Rattle.ffc.specs.Words.{texts, assemble_words}

five : {X : Type 0} (xs : List X) (a b c d e : X) → length xs ≡ 5 → a ≡ get_or xs 0 a → b ≡ get_or xs 1 b → c ≡ get_or xs 2 c → d ≡ get_or xs 3 d → e ≡ get_or xs 4 e
    → xs ≡ a ∷ b ∷ c ∷ d ∷ e ∷ []
five [] a b c d e n p q r s t = absurd (omega (arith, n))
five (_ ∷ []) a b c d e n p q r s t = absurd (omega (arith, n))
five (_ ∷ _ ∷ []) a b c d e n p q r s t = absurd (omega (arith, n))
five (_ ∷ _ ∷ _ ∷ []) a b c d e n p q r s t = absurd (omega (arith, n))
five (_ ∷ _ ∷ _ ∷ _ ∷ []) a b c d e n p q r s t = absurd (omega (arith, n))
five (v ∷ w ∷ x ∷ y ∷ z ∷ []) a b c d e n p q r s t = sym (rw (p, q, r, s, t) refl)
five (_ ∷ _ ∷ _ ∷ _ ∷ _ ∷ _ ∷ _) a b c d e n p q r s t = absurd (omega (arith, n))

-- a test that held
pub same_text : (xs ys zs : List ℕ) (r : Bool) → r ≡ bytes_eq xs ys → r ≡ true → xs ≡ zs → zs ≡ ys
same_text xs ys zs r e h f = sym f ∙ (bytes_eq-Decides xs ys).0 (sym e ∙ h)

pub five_words : (words : List (String Global)) (verb form name mesh last : String Global) (f n m : List ℕ) → length words ≡ 5
    → verb ≡ get_or words 0 verb → form ≡ get_or words 1 form → name ≡ get_or words 2 name → mesh ≡ get_or words 3 mesh → last ≡ get_or words 4 last
    → string_bytes verb ≡ codes "assemble" → f ≡ string_bytes form → n ≡ string_bytes name → m ≡ string_bytes mesh → string_bytes last ≡ codes "-"
    → texts words ≡ assemble_words f n m
five_words words verb form name mesh last f n m len p q r s t a b c d e =
    ap texts (five words verb form name mesh last len p q r s t) ∙ rw (a, ← b, ← c, ← d, e) refl

two : {X : Type 0} (xs : List X) (a b : X) → length xs ≡ 2 → a ≡ get_or xs 0 a → b ≡ get_or xs 1 b → xs ≡ a ∷ b ∷ []
two [] a b n p q = absurd (omega (arith, n))
two (_ ∷ []) a b n p q = absurd (omega (arith, n))
two (v ∷ w ∷ []) a b n p q = sym (rw (p, q) refl)
two (_ ∷ _ ∷ _ ∷ _) a b n p q = absurd (omega (arith, n))

pub two_words : (words : List (String Global)) (first form : String Global) (verb f : List ℕ) → length words ≡ 2
    → first ≡ get_or words 0 first → form ≡ get_or words 1 form → string_bytes first ≡ verb → f ≡ string_bytes form
    → texts words ≡ verb ∷ f ∷ []
two_words words first form verb f n p q a b = ap texts (two words first form n p q) ∙ rw (a, ← b) refl

-- the first of two words is the verb
pub first_is : (words : List (String Global)) (first : String Global) (verb f : List ℕ) → length words ≡ 2 → first ≡ get_or words 0 first → texts words ≡ verb ∷ f ∷ []
    → string_bytes first ≡ verb
first_is [] first verb f n p e = absurd (omega (arith, n))
first_is (_ ∷ []) first verb f n p e = absurd (omega (arith, n))
first_is (v ∷ w ∷ []) first verb f n p e = ap string_bytes p ∙ head e
  where
    head : string_bytes v ∷ string_bytes w ∷ [] ≡ verb ∷ f ∷ [] → string_bytes v ≡ verb
    head h = cc
first_is (_ ∷ _ ∷ _ ∷ _) first verb f n p e = absurd (omega (arith, n))

-- a test that did not hold
pub other_text : (xs ys zs : List ℕ) (r : Bool) → r ≡ bytes_eq xs ys → r ≡ false → xs ≡ zs → zs ≡ ys → ⊥
other_text xs ys zs r e h f same = true≢false (sym ((bytes_eq-Decides xs ys).1 (f ∙ same)) ∙ sym e ∙ h)
