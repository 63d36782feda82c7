-- One pass over sorted items
use Rattle.std.proofs.Common.{rules, ◌≡◌, ℕ, zero, suc, ◌+◌, ◌-◌, ◌<◌, ◌≤◌, ◌⊎◌, inl, inr, Bool, true, false, List, [], ◌∷◌, ◌++◌, length, get_or, set, map, if◌then◌else◌, refl, sym, ap, ap₂, subst, ◌∙◌, arith, get_or-set_same, get_or-set_other, length-set, length-append, append_assoc, add-one}
use Rattle.std.specs.declared.cmp.Ordering.{Ordering}
use Rattle.std.specs.declared.cmp.Ordering.TheVariants.{Less, Equal, Greater}
use Rattle.std.specs.Bool.{IsTrue}
use Rattle.std.specs.Ordering.{is_lt, nat_cmp, ordering_then, ordering_reverse}
use Rattle.std.specs.List.{AllByRecursion, All, Any, Contains}
use Rattle.std.specs.List.Sorted.{IsStrictlySortedBy, IsSorted, IsPermutation}
use Rattle.std.proofs.lemmas.Bool.{cases_eq}
use Rattle.std.proofs.lemmas.Cmp.{tied_itself}
use Rattle.std.proofs.lemmas.List.{length-map, ext_get_or, get_or_default}
use Rattle.std.proofs.lemmas.List.Elements.{All-from_recursion}
use Rattle.std.proofs.lemmas.List.Sorted.{All-permutation, Contains-permutation}
use Rattle.dofs.specs.declared.key.Key.{Key}
use Rattle.dofs.specs.declared.ranks.Item.{Item}
use Rattle.dofs.specs.Arrays.{key_cmp}
use Rattle.dofs.specs.Order.{place, sorted_set}
use Rattle.dofs.specs.Items.{items_from, IsFirst}
use Rattle.dofs.proofs.SetLaws.{Member, greater_from_less, all_append, all_weaker, is_sorted_set, member_from_contains, contains_from_member}
use Rattle.dofs.proofs.Lists.{member_left, member_all}
use Rattle.dofs.proofs.KeyLaws.{key_total, key_separates}

-- ---- one label more, beyond all others
member_last : {K : Type 0} (z : K) (xs : List K) → Member z (xs ++ z ∷ [])
member_last z [] = inl refl
member_last z (x ∷ xs) = inr (member_last z xs)

member_split : {K : Type 0} (z k : K) (xs : List K) → Member z (xs ++ k ∷ []) → Member z xs ⊎ (z ≡ k)
member_split z k [] (inl e) = inr e
member_split z k [] (inr m) = absurd m
member_split z k (x ∷ xs) (inl e) = inl (inl e)
member_split z k (x ∷ xs) (inr m) = up (member_split z k xs m)
  where
    up : Member z xs ⊎ (z ≡ k) → Member z (x ∷ xs) ⊎ (z ≡ k)
    up (inl n) = inl (inr n)
    up (inr e) = inr e

abbrev AllBelow : List Key → Key → Type 0
AllBelow ls k = AllByRecursion (λ l. key_cmp l k ≡ Less) ls

not_less : (l k : Key) → key_cmp l k ≡ Less → is_lt (key_cmp k l) ≡ false
not_less l k e = ap is_lt (greater_from_less key_total l k e)

place_beyond : (k : Key) (ls : List Key) → AllBelow ls k → place key_cmp k (ls ++ k ∷ []) ≡ length ls
place_beyond k [] all = ap (λ o. if is_lt o then 1 else 0) (tied_itself key_total k)
place_beyond k (l ∷ ls) all = ap (λ o. if is_lt o then suc (place key_cmp k (ls ++ k ∷ [])) else place key_cmp k (ls ++ k ∷ [])) all.0 ∙ ap suc (place_beyond k ls all.1)

place_kept : (y k : Key) (ls : List Key) → is_lt (key_cmp k y) ≡ false → place key_cmp y (ls ++ k ∷ []) ≡ place key_cmp y ls
place_kept y k [] e = ap (λ b. if b then 1 else 0) e
place_kept y k (l ∷ ls) e = ap (λ n. if is_lt (key_cmp l y) then suc n else n) (place_kept y k ls e)

strict_more : (ls : List Key) (k : Key) → IsStrictlySortedBy key_cmp ls → AllBelow ls k → IsStrictlySortedBy key_cmp (ls ++ k ∷ [])
unfolding IsStrictlySortedBy
strict_more [] k up all = (tt, tt)
strict_more (l ∷ ls) k up all = (all_append (λ z. key_cmp l z ≡ Less) ls (k ∷ []) up.0 (all.0, tt), strict_more ls k up.1 all.1)

-- ---- the items
abbrev pub item_cmp : Item → Item → Ordering
item_cmp a b = ordering_then (key_cmp a.key b.key) (nat_cmp a.place b.place)

pub record HasPlace (keys : List Key) (x : Item) : Type 0 where
  pub within : x.place < length keys
  pub key : (d : Key) → get_or keys x.place d ≡ x.key

abbrev pub AtMost : Key → Key → Type 0
AtMost l k = (l ≡ k) ⊎ (key_cmp l k ≡ Less)

pub record AreRanked (keys : List Key) (xs : List Item) (i n : ℕ) (ls : List Key) (rs : List ℕ) : Type 0 where
  pub size : length rs ≡ length keys
  pub few : length ls ≤ i
  pub order : IsStrictlySortedBy key_cmp ls
  pub empty : i ≡ 0 → ls ≡ []
  pub top : (d : Item) → 0 < i → AllByRecursion (λ l. AtMost l (get_or xs (i - 1) d).key) ls
  pub row : (d : Item) → 0 < i → n ≡ place key_cmp (get_or xs (i - 1) d).key ls
  pub kept : (j : ℕ) (d : Item) → j < i → Member (get_or xs j d).key ls
  pub no_more : (z : Key) → Member z ls → Contains keys z
  pub ranks : (j : ℕ) (d : Item) → j < i → get_or rs (get_or xs j d).place 0 ≡ place key_cmp (get_or xs j d).key ls

-- the items of all keys, sorted
pub record AreItems (keys : List Key) (xs : List Item) : Type 0 where
  pub sorted : IsSorted item_cmp xs
  pub placed : All (HasPlace keys) xs
  pub found : (p : ℕ) (k : Key) → p < length keys → ((d : Key) → get_or keys p d ≡ k) → Contains xs (record { key = k; place = p })

same_place_same_key : (keys : List Key) (x y : Item) → HasPlace keys x → HasPlace keys y → y.place ≡ x.place → y.key ≡ x.key
same_place_same_key keys x y a b e = sym (b.key x.key) ∙ ap (λ p. get_or keys p x.key) e ∙ a.key x.key

lower : (j i : ℕ) → j < i + 1 → (j ≡ i → ⊥) → j < i
lower j i h ne = grind arith

ranks_step : (keys : List Key) (xs : List Item) (i n : ℕ) (x : Item) (ls : List Key) (rs : List ℕ) → All (HasPlace keys) xs → i < length xs → ((d : Item) → get_or xs i d ≡ x) → length rs ≡ length keys
    → n ≡ place key_cmp x.key ls → ((j : ℕ) (d : Item) → j < i → get_or rs (get_or xs j d).place 0 ≡ place key_cmp (get_or xs j d).key ls)
    → (j : ℕ) (d : Item) → j < i + 1 → get_or (set rs x.place n) (get_or xs j d).place 0 ≡ place key_cmp (get_or xs j d).key ls
ranks_step keys xs i n x ls rs placed inside at size is old j d h = by_index (cases_eq j i)
  where
    here : HasPlace keys x
    here = subst (HasPlace keys) (at d) (placed i d inside)

    written : (y : Item) → y.place ≡ x.place → y.key ≡ x.key → get_or (set rs x.place n) y.place 0 ≡ place key_cmp y.key ls
    written y e f = ap (λ p. get_or (set rs x.place n) p 0) e ∙ get_or-set_same rs x.place n 0 (omega (arith, here.within, size)) ∙ is ∙ ap (λ k. place key_cmp k ls) (sym f)

    by_place : (y : Item) → HasPlace keys y → get_or rs y.place 0 ≡ place key_cmp y.key ls → (y.place ≡ x.place) ⊎ (y.place ≡ x.place → ⊥) → get_or (set rs x.place n) y.place 0 ≡ place key_cmp y.key ls
    by_place y has before (inl e) = written y e (same_place_same_key keys x y here has e)
    by_place y has before (inr ne) = get_or-set_other rs x.place y.place n 0 ne ∙ before

    by_index : (j ≡ i) ⊎ (j ≡ i → ⊥) → get_or (set rs x.place n) (get_or xs j d).place 0 ≡ place key_cmp (get_or xs j d).key ls
    by_index (inl e) = let same : get_or xs j d ≡ x = ap (λ k. get_or xs k d) e ∙ at d in written (get_or xs j d) (ap (λ (y : Item). y.place) same) (ap (λ (y : Item). y.key) same)
    by_index (inr ne) =
        let before : j < i = lower j i h ne in
        by_place (get_or xs j d) (placed j d (omega (arith, before, inside))) (old j d before) (cases_eq (get_or xs j d).place x.place)

-- the key just before
abbrev pub Before : List Item → ℕ → Key → Type 0
Before xs i k = (d : Item) → key_cmp (get_or xs (i - 1) d).key k ≡ Less

below_next : (l p k : Key) → AtMost l p → key_cmp p k ≡ Less → key_cmp l k ≡ Less
below_next l p k (inl e) lt = subst (λ m. key_cmp m k ≡ Less) (sym e) lt
below_next l p k (inr less) lt = key_total.trans l p k less lt

all_below : (keys : List Key) (xs : List Item) (i n : ℕ) (x : Item) (ls : List Key) (rs : List ℕ) → AreRanked keys xs i n ls rs → (i ≡ 0) ⊎ (0 < i) → (0 < i → Before xs i x.key) → AllBelow ls x.key
all_below keys xs i n x ls rs so_far (inl e) new = subst (λ ms. AllBelow ms x.key) (sym (so_far.empty e)) tt
all_below keys xs i n x ls rs so_far (inr lt) new =
    all_weaker (λ l. AtMost l (get_or xs (i - 1) x).key) (λ l. key_cmp l x.key ≡ Less) (λ l m. below_next l (get_or xs (i - 1) x).key x.key m (new lt x)) ls (so_far.top x lt)

zero_or_more : (i : ℕ) → (i ≡ 0) ⊎ (0 < i)
zero_or_more zero = inl refl
zero_or_more (suc i) = inr (omega arith)

one_back : (i : ℕ) → i + 1 - 1 ≡ i
one_back i = omega arith

pub next_new : (keys : List Key) (xs : List Item) (i n : ℕ) (x : Item) (ls : List Key) (rs : List ℕ) → AreItems keys xs → i < length xs → ((d : Item) → get_or xs i d ≡ x) → AreRanked keys xs i n ls rs
    → (0 < i → Before xs i x.key) → AreRanked keys xs (i + 1) (length ls) (ls ++ x.key ∷ []) (set rs x.place (length ls))
next_new keys xs i n x ls rs are inside at s new =
    let all = all_below keys xs i n x ls rs s (zero_or_more i) new in
    let here : HasPlace keys x = subst (HasPlace keys) (at x) (are.placed i x inside) in
    let last : (d : Item) → get_or xs (i + 1 - 1) d ≡ x = λ d. ap (λ k. get_or xs k d) (one_back i) ∙ at d in
    record {
      size = length-set rs x.place (length ls) ∙ s.size;
      few = omega (arith, s.few, length-append ls (x.key ∷ []));
      order = strict_more ls x.key s.order all;
      empty = λ e. absurd (omega arith);
      top = λ d lt.
          subst (λ (y : Item). AllByRecursion (λ l. AtMost l y.key) (ls ++ x.key ∷ [])) (sym (last d))
          (all_append (λ l. AtMost l x.key) ls (x.key ∷ []) (all_weaker (λ l. key_cmp l x.key ≡ Less) (λ l. AtMost l x.key) (λ l m. inr m) ls all) (inl refl, tt));
      row = λ d lt. sym (place_beyond x.key ls all) ∙ ap (λ (y : Item). place key_cmp y.key (ls ++ x.key ∷ [])) (sym (last d));
      kept = λ j d h. kept_of j d h (cases_eq j i);
      no_more = λ z m. from (member_split z x.key ls m) here;
      ranks = ranks_step keys xs i (length ls) x (ls ++ x.key ∷ []) rs are.placed inside at s.size (sym (place_beyond x.key ls all))
          (λ j d h. s.ranks j d h ∙ sym (place_kept (get_or xs j d).key x.key ls (not_less (get_or xs j d).key x.key (member_all (λ l. key_cmp l x.key ≡ Less) ls (get_or xs j d).key all (s.kept j d h)))));
    }
  where
    kept_of : (j : ℕ) (d : Item) → j < i + 1 → (j ≡ i) ⊎ (j ≡ i → ⊥) → Member (get_or xs j d).key (ls ++ x.key ∷ [])
    kept_of j d h (inl e) = subst (λ (y : Item). Member y.key (ls ++ x.key ∷ [])) (sym (ap (λ k. get_or xs k d) e ∙ at d)) (member_last x.key ls)
    kept_of j d h (inr ne) = member_left (get_or xs j d).key ls (x.key ∷ []) (s.kept j d (lower j i h ne))

    from : {z : Key} → Member z ls ⊎ (z ≡ x.key) → HasPlace keys x → Contains keys z
    from {z} (inl m) here = s.no_more z m
    from {z} (inr e) here = (x.place, here.within, here.key z ∙ sym e)

not_less_key : (x a : Item) → is_lt (item_cmp x a) ≡ false → (key_cmp x.key a.key ≡ Less → ⊥)
not_less_key x a e l = let f : is_lt (item_cmp x a) ≡ true = ap (λ o. is_lt (ordering_then o (nat_cmp x.place a.place))) l in cc

same_key : (o : Ordering) (a k : Key) → key_cmp a k ≡ o → (o ≡ Less → ⊥) → (key_cmp k a ≡ Less → ⊥) → a ≡ k
same_key Less a k e forward back = absurd (forward refl)
same_key Equal a k e forward back = key_separates a k e
same_key Greater a k e forward back = absurd (back (key_total.antisymm k a ∙ ap ordering_reverse e))

pub next_same : (keys : List Key) (xs : List Item) (i n : ℕ) (x : Item) (ls : List Key) (rs : List ℕ) → AreItems keys xs → i < length xs → ((d : Item) → get_or xs i d ≡ x) → AreRanked keys xs i n ls rs
    → 0 < i → ((d : Item) → key_cmp (get_or xs (i - 1) d).key x.key ≡ Less → ⊥) → AreRanked keys xs (i + 1) n ls (set rs x.place n)
next_same keys xs i n x ls rs are inside at s lt old =
    let last : (d : Item) → get_or xs (i + 1 - 1) d ≡ x = λ d. ap (λ k. get_or xs k d) (one_back i) ∙ at d in
    let same : (d : Item) → (get_or xs (i - 1) d).key ≡ x.key = λ d.
    same_key (key_cmp (get_or xs (i - 1) d).key x.key) (get_or xs (i - 1) d).key x.key refl (old d)
    (not_less_key x (get_or xs (i - 1) d) (subst (λ y. is_lt (item_cmp y (get_or xs (i - 1) d)) ≡ false) (ap (λ k. get_or xs k d) (up i lt) ∙ at d) (are.sorted (i - 1) d (omega arith) (omega (arith, inside, lt))))) in
    let here : n ≡ place key_cmp x.key ls = s.row x lt ∙ ap (λ k. place key_cmp k ls) (same x) in
    record {
      size = length-set rs x.place n ∙ s.size;
      few = omega (arith, s.few);
      order = s.order;
      empty = λ e. absurd (omega arith);
      top = λ d h. subst (λ k. AllByRecursion (λ l. AtMost l k) ls) (same d ∙ ap (λ (y : Item). y.key) (sym (last d))) (s.top d lt);
      row = λ d h. here ∙ ap (λ (y : Item). place key_cmp y.key ls) (sym (last d));
      kept = λ j d h. kept_of j d h same (cases_eq j i);
      no_more = s.no_more;
      ranks = ranks_step keys xs i n x ls rs are.placed inside at s.size here s.ranks;
    }
  where
    up : (i : ℕ) → 0 < i → i - 1 + 1 ≡ i
    up i h = omega arith

    kept_of : (j : ℕ) (d : Item) → j < i + 1 → ((d : Item) → (get_or xs (i - 1) d).key ≡ x.key) → (j ≡ i) ⊎ (j ≡ i → ⊥) → Member (get_or xs j d).key ls
    kept_of j d h same (inl e) = subst (λ k. Member k ls) (same d ∙ ap (λ (y : Item). y.key) (sym (ap (λ k. get_or xs k d) e ∙ at d))) (s.kept (i - 1) d (omega arith))
    kept_of j d h same (inr ne) = s.kept j d (lower j i h ne)

pub from_first : (xs : List Item) (i : ℕ) (x : Item) → ((d : Item) → get_or xs i d ≡ x) → IsFirst xs i → 0 < i → Before xs i x.key
from_first xs i x at first lt = λ d. subst (λ (y : Item). key_cmp (get_or xs (i - 1) d).key y.key ≡ Less) (at d) (first lt d)

pub not_first_positive : (xs : List Item) (i : ℕ) → (IsFirst xs i → ⊥) → 0 < i
not_first_positive xs i old = by_number (zero_or_more i)
  where
    by_number : (i ≡ 0) ⊎ (0 < i) → 0 < i
    by_number (inl e) = absurd (old (λ lt. absurd (omega arith)))
    by_number (inr lt) = lt

pub not_first : (xs : List Item) (i : ℕ) (x : Item) → i < length xs → ((d : Item) → get_or xs i d ≡ x) → (IsFirst xs i → ⊥) → (d : Item) → key_cmp (get_or xs (i - 1) d).key x.key ≡ Less → ⊥
not_first xs i x inside at old d less =
    old (λ lt e. subst (λ (y : Item). key_cmp (get_or xs (i - 1) e).key y.key ≡ Less) (sym (at e)) (subst (λ (y : Item). key_cmp y.key x.key ≡ Less) (get_or_default xs (i - 1) d e (omega (arith, inside))) less))

pub same_item : (xs : List Item) (i : ℕ) (x e : Item) → i < length xs → x ≡ get_or xs i e → (d : Item) → get_or xs i d ≡ x
same_item xs i x e lt is d = get_or_default xs i d e lt ∙ sym is

pub first_is : (xs : List Item) (i : ℕ) (e : Item) (b : Bool) → 0 < i → i < length xs → b ≡ is_lt (key_cmp (get_or xs (i - 1) e).key (get_or xs i e).key) → (IsTrue b → IsFirst xs i) × (IsFirst xs i → IsTrue b)
first_is xs i e b lt inside is = (
  λ h p d.
      ap₂ (λ (x : Item) (y : Item). key_cmp x.key y.key) (get_or_default xs (i - 1) d e (omega (arith, inside))) (get_or_default xs i d e inside)
      ∙ less (key_cmp (get_or xs (i - 1) e).key (get_or xs i e).key) (sym is ∙ yes b h),
  λ first. back b (is ∙ ap is_lt (first lt e)),
)
  where
    less : (o : Ordering) → is_lt o ≡ true → o ≡ Less
    less Less h = refl
    less Equal h = cc
    less Greater h = cc

    yes : (b : Bool) → IsTrue b → b ≡ true
    yes b h = search rules

    back : (b : Bool) → b ≡ true → IsTrue b
    back b h = search rules

strict_none : {K : Type 0} (R : K → K → Ordering) → IsStrictlySortedBy R []
unfolding IsStrictlySortedBy
strict_none R = tt

pub none_ranked : (keys : List Key) (xs : List Item) (ls : List Key) (rs : List ℕ) → ls ≡ [] → length rs ≡ length keys → AreRanked keys xs 0 0 ls rs
none_ranked keys xs ls rs none size = record {
  size = size;
  few = omega (arith, ap length none);
  order = subst (λ ms. IsStrictlySortedBy key_cmp ms) (sym none) (strict_none key_cmp);
  empty = λ e. none;
  top = λ d lt. absurd (omega arith);
  row = λ d lt. absurd (omega arith);
  kept = λ j d lt. absurd (omega arith);
  no_more = λ z m. absurd (subst (λ ms. Member z ms) none m);
  ranks = λ j d lt. absurd (omega arith);
}

-- ---- all items
pub any_member : (z : Key) (ls : List Key) → Member z ls → Any (λ y. key_cmp z y ≡ Equal) ls
any_member z ls m = let at = contains_from_member ls z m in (at.0, z, at.1, at.2, tied_itself key_total z)

pub all_labels : (keys : List Key) (xs : List Item) (i n : ℕ) (ls : List Key) (rs : List ℕ) → AreItems keys xs → length xs ≤ i → AreRanked keys xs i n ls rs → ls ≡ sorted_set key_cmp keys
all_labels keys xs i n ls rs are all s =
    is_sorted_set key_total key_separates keys ls s.order (λ z h. any_member z ls (found z h)) (λ z h. s.no_more z (member_from_contains ls z h))
  where
    found : (z : Key) → Contains keys z → Member z ls
    found z (p, lt, e) =
        let it : Item = record { key = z; place = p } in
        let at = are.found p z lt (λ d. get_or_default keys p d z lt ∙ e) in
        subst (λ (y : Item). Member y.key ls) at.2 (s.kept at.0 (record { key = z; place = p }) (omega (arith, at.1, all)))

pub all_ranks : (keys : List Key) (xs : List Item) (i n : ℕ) (ls : List Key) (rs : List ℕ) → AreItems keys xs → length xs ≤ i → AreRanked keys xs i n ls rs
    → rs ≡ map (λ k. place key_cmp k (sorted_set key_cmp keys)) keys
all_ranks keys xs i n ls rs are all s =
    ext_get_or 0 rs (map (λ k. place key_cmp k (sorted_set key_cmp keys)) keys) (s.size ∙ sym (length-map keys (λ k. place key_cmp k (sorted_set key_cmp keys)))) each
  where
    key_at : (p : ℕ) (ks : List Key) → p < length ks → (k : Key) × ((d : Key) → get_or ks p d ≡ k)
    key_at p [] lt = absurd (omega (arith, lt))
    key_at zero (k ∷ ks) lt = (k, λ d. refl)
    key_at (suc p) (k ∷ ks) lt = key_at p ks (omega arith)

    mapped : (f : Key → ℕ) (p : ℕ) (ks : List Key) (k : Key) → p < length ks → ((d : Key) → get_or ks p d ≡ k) → get_or (map f ks) p 0 ≡ f k
    mapped f p [] k lt e = absurd (omega (arith, lt))
    mapped f zero (k' ∷ ks) k lt e = ap f (e k')
    mapped f (suc p) (k' ∷ ks) k lt e = mapped f p ks k (omega arith) e

    each : (p : ℕ) → p < length rs → get_or rs p 0 ≡ get_or (map (λ k. place key_cmp k (sorted_set key_cmp keys)) keys) p 0
    each p lt =
        let inside : p < length keys = omega (arith, lt, s.size) in
        let key = key_at p keys inside in
        let at = are.found p key.0 inside key.1 in
        let it : Item = record { key = key.0; place = p } in
        sym (ap (λ (y : Item). get_or rs y.place 0) at.2)
        ∙ s.ranks at.0 (record { key = key.0; place = p }) (omega (arith, at.1, all))
        ∙ ap (λ (y : Item). place key_cmp y.key ls) at.2
        ∙ ap (place key_cmp key.0) (all_labels keys xs i n ls rs are all s)
        ∙ sym (mapped (λ k. place key_cmp k (sorted_set key_cmp keys)) p keys key.0 inside key.1)

-- ---- what is sorted
placed_from : (before keys : List Key) → AllByRecursion (HasPlace (before ++ keys)) (items_from (length before) keys)
placed_from before [] = tt
placed_from before (k ∷ keys) = (
  record { within = omega (arith, length-append before (k ∷ keys)); key = λ d. at before d },
  subst (λ ks. AllByRecursion (HasPlace ks) (items_from (suc (length before)) keys)) (append_assoc before (k ∷ []) keys)
      (subst (λ n. AllByRecursion (HasPlace ((before ++ k ∷ []) ++ keys)) (items_from n keys)) (length-append before (k ∷ []) ∙ add-one (length before)) (placed_from (before ++ k ∷ []) keys)),
)
  where
    at : (before : List Key) (d : Key) → get_or (before ++ k ∷ keys) (length before) d ≡ k
    at [] d = refl
    at (b ∷ before) d = at before d

found_from : (i p : ℕ) (keys : List Key) (k : Key) → p < length keys → ((d : Key) → get_or keys p d ≡ k) → Member (record { key = k; place = i + p }) (items_from i keys)
found_from i p [] k lt e = absurd (omega (arith, lt))
found_from i zero (h ∷ keys) k lt e = inl (ap₂ (λ a b. record { key = a; place = b }) (sym (e h)) (none i))
  where
    none : (i : ℕ) → i + 0 ≡ i
    none i = omega arith
found_from i (suc p) (h ∷ keys) k lt e = inr (subst (λ n. Member (record { key = k; place = n }) (items_from (suc i) keys)) (moved i p) (found_from (suc i) p keys k (omega arith) e))
  where
    moved : (i p : ℕ) → suc i + p ≡ i + suc p
    moved i p = omega arith

pub are_items : (keys : List Key) (made xs : List Item) → made ≡ items_from 0 keys → IsPermutation made xs → IsSorted item_cmp xs → AreItems keys xs
are_items keys made xs is moved sorted = record {
  sorted = sorted;
  placed = All-permutation (HasPlace keys) made xs moved (subst (All (HasPlace keys)) (sym is) (All-from_recursion (HasPlace keys) (items_from 0 keys) (placed_from [] keys)));
  found = λ p k lt e. Contains-permutation made xs (record { key = k; place = p }) moved
      (subst (λ ms. Contains ms (record { key = k; place = p })) (sym is)
      (contains_from_member (items_from 0 keys) (record { key = k; place = p }) (subst (λ n. Member (record { key = k; place = n }) (items_from 0 keys)) (none p) (found_from 0 p keys k lt e))));
}
  where
    none : (p : ℕ) → 0 + p ≡ p
    none p = omega arith

pub item_within : (keys : List Key) (xs : List Item) (i : ℕ) (x e : Item) → AreItems keys xs → i < length xs → x ≡ get_or xs i e → x.place < length keys
item_within keys xs i x e are lt is = (subst (HasPlace keys) (sym is) (are.placed i e lt)).within

pub few_items : (keys : List Key) (made : List Item) → made ≡ items_from 0 keys → length made ≡ length keys
few_items keys made is = ap length is ∙ same 0 keys
  where
    same : (i : ℕ) (keys : List Key) → length (items_from i keys) ≡ length keys
    same i [] = refl
    same i (k ∷ keys) = ap suc (same (suc i) keys)

pub as_made : (keys : List Key) (xs : List Item) (i n m p : ℕ) (ls ms : List Key) (rs : List ℕ) → n ≡ m → ls ≡ ms → AreRanked keys xs i m ms (set rs p m) → AreRanked keys xs i n ls (set rs p n)
as_made keys xs i n m p ls ms rs e f s = subst (λ k. AreRanked keys xs i k ls (set rs p k)) (sym e) (subst (λ ks. AreRanked keys xs i m ks (set rs p m)) (sym f) s)
