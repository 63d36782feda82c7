-- Sorted lists of distinct elements
use Rattle.std.proofs.Common.{◌≡◌, ℕ, zero, suc, ◌<◌, ◌≤◌, true, false, List, [], ◌∷◌, ◌++◌, length, get_or, if◌then◌else◌, ◌⊎◌, inl, inr, ⊎_elim, refl, sym, ap, ap₂, subst, ◌∙◌, arith}
use Rattle.std.specs.declared.cmp.Ordering.{Ordering}
use Rattle.std.specs.declared.cmp.Ordering.TheVariants.{Less, Equal, Greater}
use Rattle.std.specs.Ordering.{is_lt, ordering_reverse}
use Rattle.std.specs.Cmp.{IsTotalOrder}
use Rattle.std.specs.List.{AllByRecursion, Any, Contains, HoldsAt}
use Rattle.std.specs.List.Sorted.{IsStrictlySortedBy}
use Rattle.std.proofs.lemmas.Cmp.{tied_itself, alike_right}
use Rattle.std.proofs.lemmas.Map.Keys.{Less-from_sorted, sorted_head, sorted_tail}
use Rattle.std.proofs.lemmas.Bool.{cases_eq}
use Rattle.dofs.specs.Order.{included, included_by, sorted_set, place}

-- ---- the place of an element
pub place_at : {K : Type 0} (R : K → K → Ordering) (x : K) (ks : List K) (i : ℕ) → i ≤ length ks
    → ((j : ℕ) (d : K) → j < i → is_lt (R (get_or ks j d) x) ≡ true)
    → ((j : ℕ) (d : K) → i ≤ j → j < length ks → is_lt (R (get_or ks j d) x) ≡ false) → place R x ks ≡ i
place_at R x [] i within before behind = omega arith
place_at R x (k ∷ ks) zero within before behind =
    ap (λ b. if b then suc (place R x ks) else place R x ks) (behind zero k (omega arith) (omega arith))
    ∙ place_at R x ks zero (omega arith) (λ j d lt. absurd (omega arith)) (λ j d le lt. behind (suc j) d (omega arith) (omega arith))
place_at R x (k ∷ ks) (suc i) within before behind =
    ap (λ b. if b then suc (place R x ks) else place R x ks) (before zero k (omega arith))
    ∙ ap suc (place_at R x ks i (omega arith) (λ j d lt. before (suc j) d (omega arith)) (λ j d le lt. behind (suc j) d (omega arith) (omega arith)))

less_is : (o : Ordering) → o ≡ Less → is_lt o ≡ true
less_is o e = ap is_lt e

greater_is : (o : Ordering) → o ≡ Greater → is_lt o ≡ false
greater_is o e = ap is_lt e

pub greater_from_less : {K : Type 0} {R : K → K → Ordering} (o : IsTotalOrder R) (x y : K) → R x y ≡ Less → R y x ≡ Greater
greater_from_less o x y e = o.antisymm y x ∙ ap ordering_reverse e

-- where an equal element stands
pub place_found : {K : Type 0} {R : K → K → Ordering} (o : IsTotalOrder R) (x : K) (ks : List K) (i : ℕ) → IsStrictlySortedBy R ks → i < length ks
    → HoldsAt (λ y. R y x ≡ Equal) ks i → i ≡ place R x ks
place_found {K} {R} o x ks i up within here = sym (place_at R x ks i (omega arith) before behind)
  where
    before : (j : ℕ) (d : K) → j < i → is_lt (R (get_or ks j d) x) ≡ true
    before j d lt = less_is _ (sym (alike_right o (get_or ks i d) x (get_or ks j d) (here d)) ∙ Less-from_sorted R ks j i d up lt within)

    behind : (j : ℕ) (d : K) → i ≤ j → j < length ks → is_lt (R (get_or ks j d) x) ≡ false
    behind j d le lt =
        ⊎_elim
        (λ (e : i ≡ j). ap (λ n. is_lt (R (get_or ks n d) x)) (sym e) ∙ ap is_lt (here d))
        (λ (ne : i ≡ j → ⊥).
        greater_is _ (sym (alike_right o (get_or ks i d) x (get_or ks j d) (here d)) ∙ greater_from_less o (get_or ks i d) (get_or ks j d) (Less-from_sorted R ks i j d up (omega arith) lt)))
        (cases_eq i j)

-- ---- the sorted list of distinct elements is the only one with these elements
abbrev pub Member : {K : Type 0} → K → List K → Type 0
Member z [] = ⊥
Member z (y ∷ ys) = (z ≡ y) ⊎ Member z ys

pub member_from_contains : {K : Type 0} (xs : List K) (z : K) → Contains xs z → Member z xs
member_from_contains [] z (k, lt, e) = absurd (omega (arith, lt))
member_from_contains (x ∷ xs) z (zero, lt, e) = inl (sym e)
member_from_contains (x ∷ xs) z (suc k, lt, e) = inr (member_from_contains xs z (k, omega (arith, lt), e))

pub contains_from_member : {K : Type 0} (xs : List K) (z : K) → Member z xs → Contains xs z
contains_from_member [] z m = absurd m
contains_from_member (x ∷ xs) z (inl e) = (zero, omega arith, sym e)
contains_from_member (x ∷ xs) z (inr m) =
    let at = contains_from_member xs z m in
    (suc at.0, omega (arith, at.1), at.2)

pub all_weaker : {K : Type 0} (P Q : K → Type 0) → ((z : K) → P z → Q z) → (xs : List K) → AllByRecursion P xs → AllByRecursion Q xs
all_weaker P Q f [] all = tt
all_weaker P Q f (x ∷ xs) all = (f x all.0, all_weaker P Q f xs all.1)

pub all_append : {K : Type 0} (P : K → Type 0) (xs ys : List K) → AllByRecursion P xs → AllByRecursion P ys → AllByRecursion P (xs ++ ys)
all_append P [] ys all more = more
all_append P (x ∷ xs) ys all more = (all.0, all_append P xs ys all.1 more)

all_member : {K : Type 0} (P : K → Type 0) (xs : List K) (z : K) → AllByRecursion P xs → Member z xs → P z
all_member P [] z all m = absurd m
all_member P (x ∷ xs) z all (inl e) = subst P (sym e) all.0
all_member P (x ∷ xs) z all (inr m) = all_member P xs z all.1 m

all_included_by : {K : Type 0} (P : K → Type 0) (o : Ordering) (x y : K) (ys more : List K) → P x → AllByRecursion P (y ∷ ys) → AllByRecursion P more → AllByRecursion P (included_by o x y ys more)
all_included_by P Less x y ys more here all rest = (here, all)
all_included_by P Equal x y ys more here all rest = all
all_included_by P Greater x y ys more here all rest = (all.0, rest)

pub all_included : {K : Type 0} (P : K → Type 0) (R : K → K → Ordering) (x : K) (ys : List K) → P x → AllByRecursion P ys → AllByRecursion P (included R x ys)
all_included P R x [] here all = (here, tt)
all_included P R x (y ∷ ys) here all = all_included_by P (R x y) x y ys (included R x ys) here all (all_included P R x ys here all.1)

pub all_sorted_set : {K : Type 0} (P : K → Type 0) (R : K → K → Ordering) (xs : List K) → AllByRecursion P xs → AllByRecursion P (sorted_set R xs)
all_sorted_set P R [] all = tt
all_sorted_set P R (x ∷ xs) all = all_included P R x (sorted_set R xs) all.0 (all_sorted_set P R xs all.1)

length-included_by : {K : Type 0} (o : Ordering) (x y : K) (ys more : List K) → length more ≤ suc (length ys) → length (included_by o x y ys more) ≤ suc (suc (length ys))
length-included_by Less x y ys more few = omega arith
length-included_by Equal x y ys more few = omega arith
length-included_by Greater x y ys more few = omega (arith, few)

length-included : {K : Type 0} (R : K → K → Ordering) (x : K) (ys : List K) → length (included R x ys) ≤ suc (length ys)
length-included R x [] = omega arith
length-included R x (y ∷ ys) = length-included_by (R x y) x y ys (included R x ys) (length-included R x ys)

pub length-sorted_set : {K : Type 0} (R : K → K → Ordering) (xs : List K) → length (sorted_set R xs) ≤ length xs
length-sorted_set R [] = omega arith
length-sorted_set R (x ∷ xs) = omega (arith, length-included R x (sorted_set R xs), length-sorted_set R xs)

strict_cons : {K : Type 0} (R : K → K → Ordering) (x : K) (xs : List K) → AllByRecursion (λ y. R x y ≡ Less) xs → IsStrictlySortedBy R xs → IsStrictlySortedBy R (x ∷ xs)
unfolding IsStrictlySortedBy
strict_cons R x xs below up = (below, up)

strict_nil : {K : Type 0} (R : K → K → Ordering) → IsStrictlySortedBy R []
unfolding IsStrictlySortedBy
strict_nil R = tt

less_from_greater : {K : Type 0} {R : K → K → Ordering} (o : IsTotalOrder R) (x y : K) → R x y ≡ Greater → R y x ≡ Less
less_from_greater o x y e = o.antisymm y x ∙ ap ordering_reverse e

strict_included_by : {K : Type 0} {R : K → K → Ordering} (o : IsTotalOrder R) (x y : K) (ys more : List K) (c : Ordering) → R x y ≡ c → IsStrictlySortedBy R (y ∷ ys)
    → AllByRecursion (λ z. R y z ≡ Less) ys → (R y x ≡ Less → AllByRecursion (λ z. R y z ≡ Less) more) → IsStrictlySortedBy R more → IsStrictlySortedBy R (included_by c x y ys more)
strict_included_by {K} {R} o x y ys more Less e up below rest sorted =
    strict_cons R x (y ∷ ys) (e, all_weaker (λ z. R y z ≡ Less) (λ z. R x z ≡ Less) (λ z lt. o.trans x y z e lt) ys below) up
strict_included_by o x y ys more Equal e up below rest sorted = up
strict_included_by {K} {R} o x y ys more Greater e up below rest sorted = strict_cons R y more (rest (less_from_greater o x y e)) sorted

strict_included : {K : Type 0} {R : K → K → Ordering} (o : IsTotalOrder R) (x : K) (ys : List K) → IsStrictlySortedBy R ys → IsStrictlySortedBy R (included R x ys)
strict_included {K} {R} o x [] up = strict_cons R x [] tt (strict_nil R)
strict_included {K} {R} o x (y ∷ ys) up =
    strict_included_by o x y ys (included R x ys) (R x y) refl up (sorted_head R y ys up)
    (λ lt. all_included (λ z. R y z ≡ Less) R x ys lt (sorted_head R y ys up)) (strict_included o x ys (sorted_tail R y ys up))

pub strict_sorted_set : {K : Type 0} {R : K → K → Ordering} (o : IsTotalOrder R) (xs : List K) → IsStrictlySortedBy R (sorted_set R xs)
strict_sorted_set {K} {R} o [] = strict_nil R
strict_sorted_set {K} {R} o (x ∷ xs) = strict_included o x (sorted_set R xs) (strict_sorted_set o xs)

-- elements that the order doesn't tell apart are one
abbrev pub Separates : {K : Type 0} → (K → K → Ordering) → Type 0
Separates {K} R = (x y : K) → R x y ≡ Equal → x ≡ y

to_included_by : {K : Type 0} (x y z : K) (ys more : List K) (c : Ordering) → (c ≡ Equal → x ≡ y) → (Member z (x ∷ ys) → Member z more) → Member z (x ∷ y ∷ ys) → Member z (included_by c x y ys more)
to_included_by x y z ys more Less same rest m = m
to_included_by x y z ys more Equal same rest (inl e) = inl (e ∙ same refl)
to_included_by x y z ys more Equal same rest (inr m) = m
to_included_by x y z ys more Greater same rest (inl e) = inr (rest (inl e))
to_included_by x y z ys more Greater same rest (inr (inl e)) = inl e
to_included_by x y z ys more Greater same rest (inr (inr m)) = inr (rest (inr m))

to_included : {K : Type 0} (R : K → K → Ordering) → Separates R → (x z : K) (ys : List K) → Member z (x ∷ ys) → Member z (included R x ys)
to_included R s x z [] m = m
to_included R s x z (y ∷ ys) m = to_included_by x y z ys (included R x ys) (R x y) (s x y) (to_included R s x z ys) m

from_included_by : {K : Type 0} (x y z : K) (ys more : List K) (c : Ordering) → (Member z more → Member z (x ∷ ys)) → Member z (included_by c x y ys more) → Member z (x ∷ y ∷ ys)
from_included_by x y z ys more Less rest m = m
from_included_by x y z ys more Equal rest m = inr m
from_included_by x y z ys more Greater rest (inl e) = inr (inl e)
from_included_by x y z ys more Greater rest (inr m) = behind (rest m)
  where
    behind : Member z (x ∷ ys) → Member z (x ∷ y ∷ ys)
    behind (inl e) = inl e
    behind (inr k) = inr (inr k)

from_included : {K : Type 0} (R : K → K → Ordering) (x z : K) (ys : List K) → Member z (included R x ys) → Member z (x ∷ ys)
from_included R x z [] m = m
from_included R x z (y ∷ ys) m = from_included_by x y z ys (included R x ys) (R x y) (from_included R x z ys) m

pub to_set : {K : Type 0} (R : K → K → Ordering) → Separates R → (z : K) (xs : List K) → Member z xs → Member z (sorted_set R xs)
to_set R s z [] m = m
to_set R s z (x ∷ xs) (inl e) = to_included R s x z (sorted_set R xs) (inl e)
to_set R s z (x ∷ xs) (inr m) = to_included R s x z (sorted_set R xs) (inr (to_set R s z xs m))

pub from_set : {K : Type 0} (R : K → K → Ordering) (z : K) (xs : List K) → Member z (sorted_set R xs) → Member z xs
from_set R z [] m = m
from_set R z (x ∷ xs) m = behind (from_included R x z (sorted_set R xs) m) (from_set R z xs)
  where
    behind : Member z (x ∷ sorted_set R xs) → (Member z (sorted_set R xs) → Member z xs) → Member z (x ∷ xs)
    behind (inl e) f = inl e
    behind (inr k) f = inr (f k)

no_order : {K : Type 0} {R : K → K → Ordering} (o : IsTotalOrder R) (x y : K) → R x y ≡ Less → R y x ≡ Less → ⊥
no_order o x y a b = let e = greater_from_less o x y a in cc

not_less_itself : {K : Type 0} {R : K → K → Ordering} (o : IsTotalOrder R) (x z : K) → R x z ≡ Less → z ≡ x → ⊥
not_less_itself {K} {R} o x z a e = let f : R x x ≡ Less = subst (λ w. R x w ≡ Less) e a in let t = tied_itself o x in cc

same_first : {K : Type 0} {R : K → K → Ordering} (o : IsTotalOrder R) (x y : K) (xs ys : List K) → AllByRecursion (λ z. R x z ≡ Less) xs → AllByRecursion (λ z. R y z ≡ Less) ys
    → Member x (y ∷ ys) → Member y (x ∷ xs) → x ≡ y
same_first o x y xs ys a b (inl e) n = e
same_first o x y xs ys a b (inr m) (inl f) = sym f
same_first {K} {R} o x y xs ys a b (inr m) (inr n) = absurd (no_order o x y (all_member (λ z. R x z ≡ Less) xs y a n) (all_member (λ z. R y z ≡ Less) ys x b m))

tail_of : {K : Type 0} {R : K → K → Ordering} (o : IsTotalOrder R) (x y z : K) (xs ys : List K) → x ≡ y → AllByRecursion (λ z. R x z ≡ Less) xs → Member z xs → Member z (y ∷ ys) → Member z ys
tail_of {K} {R} o x y z xs ys e a m (inl f) = absurd (not_less_itself o x z (all_member (λ z. R x z ≡ Less) xs z a m) (f ∙ sym e))
tail_of o x y z xs ys e a m (inr n) = n

strict_unique : {K : Type 0} {R : K → K → Ordering} (o : IsTotalOrder R) (xs ys : List K) → IsStrictlySortedBy R xs → IsStrictlySortedBy R ys
    → ((z : K) → Member z xs → Member z ys) → ((z : K) → Member z ys → Member z xs) → xs ≡ ys
strict_unique o [] [] a b f g = refl
strict_unique o [] (y ∷ ys) a b f g = absurd (g y (inl refl))
strict_unique o (x ∷ xs) [] a b f g = absurd (f x (inl refl))
strict_unique {K} {R} o (x ∷ xs) (y ∷ ys) a b f g =
    let ha = sorted_head R x xs a in
    let hb = sorted_head R y ys b in
    let e = same_first o x y xs ys ha hb (f x (inl refl)) (g y (inl refl)) in
    ap₂ (λ w ws. w ∷ ws) e
    (strict_unique o xs ys (sorted_tail R x xs a) (sorted_tail R y ys b)
    (λ z m. tail_of o x y z xs ys e ha m (f z (inr m)))
    (λ z m. tail_of o y x z ys xs (sym e) hb m (g z (inr m))))

-- what a sort without ties leaves
pub is_sorted_set : {K : Type 0} {R : K → K → Ordering} (o : IsTotalOrder R) → Separates R → (ks zs : List K) → IsStrictlySortedBy R zs
    → ((z : K) → Contains ks z → Any (λ y. R z y ≡ Equal) zs) → ((z : K) → Contains zs z → Contains ks z) → zs ≡ sorted_set R ks
is_sorted_set {K} {R} o s ks zs up kept no_more =
    strict_unique o zs (sorted_set R ks) up (strict_sorted_set o ks)
    (λ z m. to_set R s z ks (member_from_contains ks z (no_more z (contains_from_member zs z m))))
    (λ z m. found z (kept z (contains_from_member ks z (from_set R z ks m))))
  where
    found : (z : K) → Any (λ y. R z y ≡ Equal) zs → Member z zs
    found z (k, y, within, here, tie) = member_from_contains zs z (subst (λ w. Contains zs w) (sym (s z y tie)) (k, within, here))
