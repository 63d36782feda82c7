-- Places in lists, and what holds of all items
use Rattle.std.proofs.Common.{◌≡◌, ℕ, zero, suc, ◌+◌, ◌<◌, inl, inr, List, [], ◌∷◌, ◌++◌, length, map, get_or, slice_get, Some, refl, ap, ◌∙◌, arith, suc-add}
use Rattle.std.specs.List.{AllByRecursion}
use Rattle.dofs.proofs.SetLaws.{Member}

pub get_left : {A : Type 0} (xs ys : List A) (n : ℕ) (x : A) → slice_get xs n ≡ Some x → slice_get (xs ++ ys) n ≡ Some x
get_left [] ys n x h = cc
get_left (y ∷ xs) ys zero x h = h
get_left (y ∷ xs) ys (suc n) x h = get_left xs ys n x h

pub get_right : {A : Type 0} (xs ys : List A) (m n : ℕ) → length xs ≡ m → slice_get (xs ++ ys) (m + n) ≡ slice_get ys n
get_right [] ys m n e = ap (slice_get ys) (omega arith)
get_right (x ∷ xs) ys zero n e = absurd (omega arith)
get_right (x ∷ xs) ys (suc m) n e = ap (slice_get (x ∷ xs ++ ys)) (suc-add m n) ∙ get_right xs ys m n (omega arith)

pub get_map : {A B : Type 0} (f : A → B) (xs : List A) (n : ℕ) (d : A) → n < length xs → slice_get (map f xs) n ≡ Some (f (get_or xs n d))
get_map f [] n d lt = absurd (omega arith)
get_map f (x ∷ xs) zero d lt = refl
get_map f (x ∷ xs) (suc n) d lt = get_map f xs n d (omega arith)

pub member_place : {A B : Type 0} (f : A → B) (xs : List A) (y : B) (d : A) → Member y (map f xs) → (n : ℕ) × (n < length xs) × (y ≡ f (get_or xs n d))
member_place f [] y d h = absurd h
member_place f (x ∷ xs) y d (inl e) = (zero, omega arith, e)
member_place f (x ∷ xs) y d (inr h) = let r = member_place f xs y d h in (suc r.0, omega (arith, r.1), r.2)

pub at_size : {A : Type 0} (P : A → Type 0) (xs : List A) (n : ℕ) (d : A) → AllByRecursion P xs → n < length xs → P (get_or xs n d)
at_size P [] n d all lt = absurd (omega arith)
at_size P (x ∷ xs) zero d all lt = all.0
at_size P (x ∷ xs) (suc n) d all lt = at_size P xs n d all.1 (omega arith)

pub all_left : {A : Type 0} (P : A → Type 0) (xs ys : List A) → AllByRecursion P (xs ++ ys) → AllByRecursion P xs
all_left P [] ys all = tt
all_left P (x ∷ xs) ys all = (all.0, all_left P xs ys all.1)

pub all_right : {A : Type 0} (P : A → Type 0) (xs ys : List A) → AllByRecursion P (xs ++ ys) → AllByRecursion P ys
all_right P [] ys all = all
all_right P (x ∷ xs) ys all = all_right P xs ys all.1

pub all_mapped : {A B : Type 0} (P : B → Type 0) (f : A → B) (xs : List A) (d : A) → ((n : ℕ) → n < length xs → P (f (get_or xs n d))) → AllByRecursion P (map f xs)
all_mapped P f [] d h = tt
all_mapped P f (x ∷ xs) d h = (h zero (omega arith), all_mapped P f xs d (λ n lt. h (suc n) (omega arith)))
