-- Places and elements of lists
use Rattle.std.proofs.Common.{◌≡◌, ◌≢◌, ℕ, zero, suc, ◌+◌, ◌<◌, inl, inr, List, [], ◌∷◌, ◌++◌, length, map, get_or, slice_get, Some, refl, sym, ap, ◌∙◌, subst, arith, suc-add, add-suc}
use Rattle.std.specs.List.{AllByRecursion}
use Rattle.dofs.proofs.SetLaws.{Member, all_append, all_weaker}

pub suc-moves : (m n : ℕ) → suc m + n ≡ m + suc n
suc-moves m n = suc-add m n ∙ sym (add-suc m n)

-- ---- places in lists
pub same_some : {A : Type 0} (x y : A) → Some x ≡ Some y → x ≡ y
same_some x y e = cc

pub member_at : {A : Type 0} (xs : List A) (n : ℕ) (x : A) → slice_get xs n ≡ Some x → Member x xs
member_at [] n x h = cc
member_at (y ∷ xs) zero x h = inl (sym (same_some y x h))
member_at (y ∷ xs) (suc n) x h = inr (member_at xs n x h)

pub member_get : {A : Type 0} (xs : List A) (x : A) → Member x xs → (n : ℕ) × (slice_get xs n ≡ Some x)
member_get [] x m = absurd m
member_get (y ∷ xs) x (inl e) = (zero, ap Some (sym e))
member_get (y ∷ xs) x (inr m) = let r = member_get xs x m in (suc r.0, r.1)

-- ---- elements
pub member_left : {A : Type 0} (x : A) (xs ys : List A) → Member x xs → Member x (xs ++ ys)
member_left x [] ys m = absurd m
member_left x (y ∷ xs) ys (inl e) = inl e
member_left x (y ∷ xs) ys (inr m) = inr (member_left x xs ys m)

pub member_right : {A : Type 0} (x : A) (xs ys : List A) → Member x ys → Member x (xs ++ ys)
member_right x [] ys m = m
member_right x (y ∷ xs) ys m = inr (member_right x xs ys m)

pub member_map : {A B : Type 0} (f : A → B) (xs : List A) (n : ℕ) (x d : A) → n < length xs → get_or xs n d ≡ x → Member (f x) (map f xs)
member_map f [] n x d lt e = absurd (omega arith)
member_map f (y ∷ ys) zero x d lt e = inl (ap f (sym e))
member_map f (y ∷ ys) (suc n) x d lt e = inr (member_map f ys n x d (omega arith) e)

pub unmapped : {A B : Type 0} (f : A → B) (xs : List A) (n : ℕ) (y : B) → slice_get (map f xs) n ≡ Some y → (x : A) × (slice_get xs n ≡ Some x) × (f x ≡ y)
unmapped f [] n y h = cc
unmapped f (x ∷ xs) zero y h = (x, refl, same (f x) y h)
  where
    same : {B : Type 0} (x y : B) → Some x ≡ Some y → x ≡ y
    same x y e = cc
unmapped f (x ∷ xs) (suc n) y h = unmapped f xs n y h

pub all_at : {A : Type 0} (P : A → Type 0) (xs : List A) (n : ℕ) (x : A) → AllByRecursion P xs → slice_get xs n ≡ Some x → P x
all_at P [] n x all h = cc
all_at P (y ∷ xs) zero x all h = subst P (same_some y x h) all.0
all_at P (y ∷ xs) (suc n) x all h = all_at P xs n x all.1 h

pub member_all : {A : Type 0} (P : A → Type 0) (xs : List A) (x : A) → AllByRecursion P xs → Member x xs → P x
member_all P [] x all m = absurd m
member_all P (y ∷ xs) x all (inl e) = subst P (sym e) all.0
member_all P (y ∷ xs) x all (inr m) = member_all P xs x all.1 m

pub all_members : {A : Type 0} (xs : List A) → AllByRecursion (λ x. Member x xs) xs
all_members [] = tt
all_members (x ∷ xs) = (inl refl, all_weaker (λ y. Member y xs) (λ y. Member y (x ∷ xs)) (λ y m. inr m) xs (all_members xs))

-- ---- no vertex twice
abbrev pub IsDistinct : {A : Type 0} → List A → Type 0
IsDistinct [] = Unit {0}
IsDistinct (x ∷ xs) = AllByRecursion (λ y. x ≢ y) xs × IsDistinct xs

pub map_others : {A B : Type 0} (P : A → Type 0) (f : A → B) → ((x y : A) → P x → P y → f x ≡ f y → x ≡ y) → (x : A) (xs : List A) → P x → AllByRecursion P xs → AllByRecursion (λ y. x ≢ y) xs → AllByRecursion (λ y. f x ≢ y) (map f xs)
map_others P f same x [] here all other = tt
map_others P f same x (y ∷ ys) here all other = (λ e. other.0 (same x y here all.0 e), map_others P f same x ys here all.1 other.1)

pub distinct_map : {A B : Type 0} (P : A → Type 0) (f : A → B) → ((x y : A) → P x → P y → f x ≡ f y → x ≡ y) → (xs : List A) → AllByRecursion P xs → IsDistinct xs → IsDistinct (map f xs)
distinct_map P f same [] all d = tt
distinct_map P f same (x ∷ xs) all d = (map_others P f same x xs all.0 all.1 d.0, distinct_map P f same xs all.1 d.1)

pub distinct_append : {A : Type 0} (P Q : A → Type 0) → ((x y : A) → P x → Q y → x ≢ y) → (xs ys : List A) → AllByRecursion P xs → AllByRecursion Q ys → IsDistinct xs → IsDistinct ys → IsDistinct (xs ++ ys)
distinct_append {A} P Q apart [] ys all more d e = e
distinct_append {A} P Q apart (x ∷ xs) ys all more d e =
    (all_append (λ y. x ≢ y) xs ys d.0 (others ys more), distinct_append P Q apart xs ys all.1 more d.1 e)
  where
    others : (zs : List A) → AllByRecursion Q zs → AllByRecursion (λ y. x ≢ y) zs
    others [] q = tt
    others (z ∷ zs) q = (apart x z all.0 q.0, others zs q.1)

-- an element of a list without repetitions has one place
pub one_place : {A : Type 0} (xs : List A) (m n : ℕ) (x : A) → IsDistinct xs → slice_get xs m ≡ Some x → slice_get xs n ≡ Some x → m ≡ n
one_place [] m n x d h k = cc
one_place (y ∷ xs) zero zero x d h k = refl
one_place {A} (y ∷ xs) zero (suc n) x d h k = absurd (all_at (λ z. y ≢ z) xs n x d.0 k (same_some y x h))
one_place {A} (y ∷ xs) (suc m) zero x d h k = absurd (all_at (λ z. y ≢ z) xs m x d.0 h (same_some y x k))
one_place (y ∷ xs) (suc m) (suc n) x d h k = ap suc (one_place xs m n x d.1 h k)
