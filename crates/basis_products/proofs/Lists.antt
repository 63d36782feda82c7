-- Loops over numbers and over lists, and what holds of each item
use Rattle.std.proofs.Common.{◌≡◌, ℕ, zero, suc, ◌+◌, ◌*◌, ◌<◌, List, [], ◌∷◌, ◌++◌, length, map, take, drop, get_or, refl, sym, ap, ap₂, ◌∙◌, subst, arith, add-one}
use Rattle.std.specs.List.{flat_map, AllByRecursion}
use Rattle.std.proofs.lemmas.List.{take_more, length-append}
use Rattle.refint.specs.Local.{numbers_below}
use Rattle.refint.proofs.Lists.{append_nothing, append_assoc, map_append, flat_append}

-- ---- one more step of a loop that appends
below_next : (i : ℕ) → numbers_below (i + 1) ≡ numbers_below i ++ i ∷ []
below_next i = ap numbers_below (add-one i)

flat_next : {A B : Type 0} (f : A → List B) (xs : List A) (x : A) → flat_map f (xs ++ x ∷ []) ≡ flat_map f xs ++ f x
flat_next f xs x = flat_append f xs (x ∷ []) ∙ ap (λ r. flat_map f xs ++ r) (append_nothing (f x))

pub more_numbers : {B : Type 0} (f : ℕ → List B) (i : ℕ) (base old new : List B) → old ≡ base ++ flat_map f (numbers_below i) → new ≡ old ++ f i
    → new ≡ base ++ flat_map f (numbers_below (i + 1))
more_numbers f i base old new h e =
    e ∙ ap (λ r. r ++ f i) h ∙ append_assoc base (flat_map f (numbers_below i)) (f i)
    ∙ ap (λ r. base ++ r) (sym (flat_next f (numbers_below i) i) ∙ ap (flat_map f) (sym (below_next i)))

pub more_counted : {A : Type 0} (f : ℕ → A) (i : ℕ) (base old new : List A) → old ≡ base ++ map f (numbers_below i) → new ≡ old ++ f i ∷ []
    → new ≡ base ++ map f (numbers_below (i + 1))
more_counted f i base old new h e =
    e ∙ ap (λ r. r ++ f i ∷ []) h ∙ append_assoc base (map f (numbers_below i)) (f i ∷ [])
    ∙ ap (λ r. base ++ r) (sym (map_append f (numbers_below i) (i ∷ [])) ∙ ap (map f) (sym (below_next i)))

pub more_items : {A B : Type 0} (f : A → List B) (xs : List A) (i : ℕ) (x : A) (base old new : List B) → i < length xs → x ≡ get_or xs i x
    → old ≡ base ++ flat_map f (take i xs) → new ≡ old ++ f x → new ≡ base ++ flat_map f (take (i + 1) xs)
more_items f xs i x base old new l g h e =
    e ∙ ap (λ r. r ++ f x) h ∙ append_assoc base (flat_map f (take i xs)) (f x)
    ∙ ap (λ r. base ++ r) (sym (flat_next f (take i xs) x) ∙ ap (λ y. flat_map f (take i xs ++ y ∷ [])) g ∙ ap (flat_map f) (sym (take_more xs i x l)))

pub more_mapped : {A B : Type 0} (f : A → B) (xs : List A) (i : ℕ) (x : A) (base old new : List B) → i < length xs → x ≡ get_or xs i x
    → old ≡ base ++ map f (take i xs) → new ≡ old ++ f x ∷ [] → new ≡ base ++ map f (take (i + 1) xs)
more_mapped f xs i x base old new l g h e =
    e ∙ ap (λ r. r ++ f x ∷ []) h ∙ append_assoc base (map f (take i xs)) (f x ∷ [])
    ∙ ap (λ r. base ++ r) (sym (map_append f (take i xs) (x ∷ [])) ∙ ap (λ y. map f (take i xs ++ y ∷ [])) g ∙ ap (map f) (sym (take_more xs i x l)))

-- an item more, mapped
pub pushed : {A B : Type 0} (f : A → B) (xs ys : List A) (x : A) → ys ≡ xs ++ x ∷ [] → map f ys ≡ map f xs ++ f x ∷ []
pushed f xs ys x e = ap (map f) e ∙ map_append f xs (x ∷ [])

-- ---- lists of equal length
pub flat_length : {A : Type 0} (f : ℕ → List A) (m : ℕ) → ((j : ℕ) → length (f j) ≡ m) → (n : ℕ) → length (flat_map f (numbers_below n)) ≡ n * m
flat_length f m h zero = omega arith
flat_length f m h (suc n) =
    ap length (flat_append f (numbers_below n) (n ∷ []))
    ∙ length-append (flat_map f (numbers_below n)) (f n ++ [])
    ∙ ap₂ ◌+◌ (flat_length f m h n) (length-append (f n) [] ∙ ap (λ k. k + 0) (h n))
    ∙ more n m
  where
    more : (n m : ℕ) → n * m + (m + 0) ≡ suc n * m
    more n m = omega arith

-- the default of an item that is there
pub get_same : {A : Type 0} (xs : List A) (i : ℕ) (d e : A) → i < length xs → get_or xs i d ≡ get_or xs i e
get_same [] i d e l = absurd (omega arith)
get_same (x ∷ xs) zero d e l = refl
get_same (x ∷ xs) (suc i) d e l = get_same xs i d e (omega arith)

-- ---- what holds of each item
pub all_append : {A : Type 0} (P : A → Type 0) (xs ys : List A) → AllByRecursion P xs → AllByRecursion P ys → AllByRecursion P (xs ++ ys)
all_append P [] ys h g = g
all_append P (x ∷ xs) ys h g = (h.0, all_append P xs ys h.1 g)

pub all_pushed : {A : Type 0} (P : A → Type 0) (xs ys : List A) (x : A) → ys ≡ xs ++ x ∷ [] → AllByRecursion P xs → P x → AllByRecursion P ys
all_pushed P xs ys x e h p = subst (AllByRecursion P) (sym e) (all_append P xs (x ∷ []) h (p, tt))

pub all_get : {A : Type 0} (P : A → Type 0) (xs : List A) (i : ℕ) (d : A) → i < length xs → AllByRecursion P xs → P (get_or xs i d)
all_get P [] i d l h = absurd (omega arith)
all_get P (x ∷ xs) zero d l h = h.0
all_get P (x ∷ xs) (suc i) d l h = all_get P xs i d (omega arith) h.1

pub all_at : {A : Type 0} (P : A → Type 0) (xs : List A) (i : ℕ) (x : A) → i < length xs → x ≡ get_or xs i x → AllByRecursion P xs → P x
all_at P xs i x l e h = subst P (sym e) (all_get P xs i x l h)

pub all_weaken : {A : Type 0} (P Q : A → Type 0) → ((x : A) → P x → Q x) → (xs : List A) → AllByRecursion P xs → AllByRecursion Q xs
all_weaken P Q k [] h = tt
all_weaken P Q k (x ∷ xs) h = (k x h.0, all_weaken P Q k xs h.1)

pub all_take : {A : Type 0} (P : A → Type 0) (n : ℕ) (xs : List A) → AllByRecursion P xs → AllByRecursion P (take n xs)
all_take P zero [] h = tt
all_take P zero (x ∷ xs) h = tt
all_take P (suc n) [] h = tt
all_take P (suc n) (x ∷ xs) h = (h.0, all_take P n xs h.1)

pub all_drop : {A : Type 0} (P : A → Type 0) (n : ℕ) (xs : List A) → AllByRecursion P xs → AllByRecursion P (drop n xs)
all_drop P zero [] h = tt
all_drop P zero (x ∷ xs) h = h
all_drop P (suc n) [] h = tt
all_drop P (suc n) (x ∷ xs) h = all_drop P n xs h.1
