-- Tables of elements: equal spaces, numbers, and the element that is added
use Rattle.std.proofs.Common.{◌≡◌, ℕ, suc, ◌+◌, ◌-◌, ◌<◌, ◌≤◌, Bool, true, false, true≢false, if◌then◌else◌, List, [], ◌∷◌, ◌++◌, length, Option, None, Some, slice_get, refl, sym, ap, ap₂, ◌∙◌, subst, length-append, arith}
use Rattle.std.proofs.lemmas.List.{map-append, length-map}
use Rattle.std.proofs.lemmas.Option.{slice_get_within}
use Rattle.spaces.specs.declared.element_tree.ElementTree.{ElementTree}
use Rattle.spaces.specs.Space.{Space, IsLawful}
use Rattle.spaces.specs.Equality.{same_space}
use Rattle.spaces.specs.Reading.{space_of}
use Rattle.spaces.proofs.EqualityLaws.{space_true, spaces_equal}
use Rattle.ufl_tree.specs.Places.{Table, table_of, IsLawfulTable}
use Rattle.ufl_expr.specs.Elements.{number_from, number_of, has_space, AreDistinct, with_element}

-- ---- numbers
-- the table has s at k, counted from n
pub record IsAt (n k : ℕ) (s : Space) (ts : Table) : Type 0 where
  pub from : n ≤ k
  pub here : slice_get ts (k - n) ≡ Some s

at_next : (n k : ℕ) (s t : Space) (ts : Table) → IsAt (suc n) k s ts → IsAt n k s (t ∷ ts)
at_next n k s t ts a =
    let up : suc n ≤ k = a.from in
    let e : k - n ≡ suc (k - suc n) = omega arith in
    record { from = omega arith; here = ap (slice_get (t ∷ ts)) e ∙ a.here }

at_choice : (b : Bool) (n k : ℕ) (s t : Space) (ts : Table) → (b ≡ true → t ≡ s) → (if b then Some n else number_from (suc n) s ts) ≡ Some k
    → (number_from (suc n) s ts ≡ Some k → IsAt (suc n) k s ts) → IsAt n k s (t ∷ ts)
at_choice true n k s t ts same h rest =
    let e : n ≡ k = cc in
    let z : k - n ≡ 0 = omega arith in
    record { from = omega arith; here = ap (slice_get (t ∷ ts)) z ∙ ap (λ x. Some x) (same refl) }
at_choice false n k s t ts same h rest = at_next n k s t ts (rest h)

number_at : (n k : ℕ) (s : Space) (ts : Table) → number_from n s ts ≡ Some k → IsAt n k s ts
number_at n k s [] h = cc
number_at n k s (t ∷ ts) h = at_choice (same_space t s) n k s t ts (space_true t s) h (number_at (suc n) k s ts)

pub found_at : (k : ℕ) (s : Space) (ts : Table) → number_of s ts ≡ Some k → slice_get ts k ≡ Some s
found_at k s ts h = let z : k - 0 ≡ k = omega arith in sym (ap (slice_get ts) z) ∙ (number_at 0 k s ts h).here

pub found_within : (k : ℕ) (s : Space) (es : List ElementTree) → number_of s (table_of es) ≡ Some k → k < length es
found_within k s es h =
    let e : length (table_of es) ≡ length es = length-map es space_of in
    omega (arith, slice_get_within (table_of es) k s (found_at k s (table_of es) h))

has_choice : (b : Bool) (n k : ℕ) (s : Space) (ts : Table) → (if b then Some n else number_from (suc n) s ts) ≡ Some k
    → (number_from (suc n) s ts ≡ Some k → has_space s ts ≡ true) → (if b then true else has_space s ts) ≡ true
has_choice true n k s ts h rest = refl
has_choice false n k s ts h rest = rest h

has_number : (n k : ℕ) (s : Space) (ts : Table) → number_from n s ts ≡ Some k → has_space s ts ≡ true
has_number n k s [] h = cc
has_number n k s (t ∷ ts) h = has_choice (same_space t s) n k s ts h (has_number (suc n) k s ts)

lacks_choice : (b : Bool) (n : ℕ) (s : Space) (ts : Table) → (if b then Some n else number_from (suc n) s ts) ≡ None
    → (number_from (suc n) s ts ≡ None → has_space s ts ≡ false) → (if b then true else has_space s ts) ≡ false
lacks_choice true n s ts h rest = cc
lacks_choice false n s ts h rest = rest h

lacks_number : (n : ℕ) (s : Space) (ts : Table) → number_from n s ts ≡ None → has_space s ts ≡ false
lacks_number n s [] h = refl
lacks_number n s (t ∷ ts) h = lacks_choice (same_space t s) n s ts h (lacks_number (suc n) s ts)

with_either : (b : Bool) (e : ElementTree) (es : List ElementTree) (c : Bool) → b ≡ c → (if b then es else es ++ e ∷ []) ≡ (if c then es else es ++ e ∷ [])
with_either b e es c h = ap (λ x. if x then es else es ++ e ∷ []) h

pub kept_table : (k : ℕ) (e : ElementTree) (es : List ElementTree) → number_of (space_of e) (table_of es) ≡ Some k → es ≡ with_element e es
kept_table k e es h = sym (with_either _ e es true (has_number 0 k (space_of e) (table_of es) h))

pub longer_table : (e : ElementTree) (es : List ElementTree) → number_of (space_of e) (table_of es) ≡ None → es ++ e ∷ [] ≡ with_element e es
longer_table e es h = sym (with_either _ e es false (lacks_number 0 (space_of e) (table_of es) h))

-- ---- the last element
last_at : (ts : Table) (s : Space) → slice_get (ts ++ s ∷ []) (length ts) ≡ Some s
last_at [] s = refl
last_at (t ∷ ts) s = last_at ts s

pub added_at : (es : List ElementTree) (e : ElementTree) (k : ℕ) → k ≡ length es → slice_get (table_of (es ++ e ∷ [])) k ≡ Some (space_of e)
added_at es e k h =
    ap₂ (λ ts n. slice_get ts n) (map-append space_of es (e ∷ [])) (h ∙ sym (length-map es space_of)) ∙ last_at (table_of es) (space_of e)

pub one_more : (e : ElementTree) (es zs us : List ElementTree) → us ≡ es ++ e ∷ [] → es ≡ zs → length zs < 65536 → length us ≤ 65536
one_more e es zs us h same few = omega (arith, ap length h, length-append es (e ∷ []), ap length same, few)

-- ---- distinct elements
not_true : (b : Bool) → (b ≡ true → ⊥) → b ≡ false
not_true true h = absurd (h refl)
not_true false h = refl

turned : (s t : Space) → same_space t s ≡ false → same_space s t ≡ false
turned s t h =
    not_true (same_space s t)
    (λ e. true≢false (sym (subst (λ x. same_space x s ≡ true) (space_true s t e) ((spaces_equal s s).1 refl)) ∙ h))

none_first : (a b : Bool) → (if a then true else b) ≡ false → a ≡ false
none_first true b h = h
none_first false b h = refl

none_second : (a b : Bool) → (if a then true else b) ≡ false → b ≡ false
none_second true b h = absurd (true≢false h)
none_second false b h = h

none_both : (a b : Bool) → a ≡ false → b ≡ false → (if a then true else b) ≡ false
none_both true b h k = h
none_both false b h k = k

lacks_longer : (s t : Space) (ts : Table) → has_space t ts ≡ false → same_space s t ≡ false → has_space t (ts ++ s ∷ []) ≡ false
lacks_longer s t [] h k = none_both (same_space s t) false k refl
lacks_longer s t (x ∷ xs) h k =
    none_both (same_space x t) (has_space t (xs ++ s ∷ [])) (none_first (same_space x t) (has_space t xs) h)
    (lacks_longer s t xs (none_second (same_space x t) (has_space t xs) h) k)

distinct_longer : (s : Space) (ts : Table) → AreDistinct ts → has_space s ts ≡ false → AreDistinct (ts ++ s ∷ [])
distinct_longer s [] d h = (refl, tt)
distinct_longer s (t ∷ ts) d h =
    (lacks_longer s t ts d.0 (turned s t (none_first (same_space t s) (has_space s ts) h)), distinct_longer s ts d.1 (none_second (same_space t s) (has_space s ts) h))

pub distinct_added : (e : ElementTree) (es us : List ElementTree) → number_of (space_of e) (table_of es) ≡ None → us ≡ es ++ e ∷ [] → AreDistinct (table_of es)
    → AreDistinct (table_of us)
distinct_added e es us h same d =
    subst AreDistinct (sym (ap table_of same ∙ map-append space_of es (e ∷ [])))
    (distinct_longer (space_of e) (table_of es) d (lacks_number 0 (space_of e) (table_of es) h))

-- ---- lawful elements
lawful_longer : (s : Space) (ts : Table) → IsLawfulTable ts → IsLawful s → IsLawfulTable (ts ++ s ∷ [])
lawful_longer s [] l h = (h, tt)
lawful_longer s (t ∷ ts) l h = (l.0, lawful_longer s ts l.1 h)

pub lawful_added : (e : ElementTree) (es us : List ElementTree) → us ≡ es ++ e ∷ [] → IsLawfulTable (table_of es) → IsLawful (space_of e)
    → IsLawfulTable (table_of us)
lawful_added e es us same l h =
    subst IsLawfulTable (sym (ap table_of same ∙ map-append space_of es (e ∷ []))) (lawful_longer (space_of e) (table_of es) l h)

pub number_moved : (e f : ElementTree) (es us : List ElementTree) (o : Option ℕ) → e ≡ f → es ≡ us → o ≡ number_of (space_of e) (table_of es)
    → number_of (space_of f) (table_of us) ≡ o
number_moved e f es us o a b h = sym (h ∙ ap₂ (λ x y. number_of (space_of x) (table_of y)) a b)

pub added_new : (es us : List ElementTree) (e : ElementTree) (k : ℕ) → us ≡ es ++ e ∷ [] → k ≡ length es → slice_get (table_of us) k ≡ Some (space_of e)
added_new es us e k h n = ap (λ x. slice_get (table_of x) k) h ∙ added_at es e k n

pub longer_new : (e : ElementTree) (es zs us : List ElementTree) → us ≡ es ++ e ∷ [] → es ≡ zs → number_of (space_of e) (table_of zs) ≡ None → us ≡ with_element e zs
longer_new e es zs us h same none = h ∙ ap (λ x. x ++ e ∷ []) same ∙ longer_table e zs none

-- ---- the number of the last element
later_choice : (b : Bool) (n k : ℕ) (s : Space) (ts us : Table) → (if b then Some n else number_from (suc n) s ts) ≡ None
    → (number_from (suc n) s ts ≡ None → number_from (suc n) s us ≡ Some k) → (if b then Some n else number_from (suc n) s us) ≡ Some k
later_choice true n k s ts us h rest = cc
later_choice false n k s ts us h rest = rest h

number_behind : (n k : ℕ) (s : Space) (ts : Table) → k ≡ n + length ts → number_from n s ts ≡ None → number_from n s (ts ++ s ∷ []) ≡ Some k
number_behind n k s [] e h =
    let m : n ≡ k = omega arith in
    ap (λ b. if b then Some n else None) ((spaces_equal s s).1 refl) ∙ ap (λ x. Some x) m
number_behind n k s (t ∷ ts) e h = later_choice (same_space t s) n k s ts (ts ++ s ∷ []) h (number_behind (suc n) k s ts (omega arith))

pub new_number : (e : ElementTree) (es zs us : List ElementTree) (k : ℕ) → us ≡ es ++ e ∷ [] → es ≡ zs → k ≡ length es
    → number_of (space_of e) (table_of zs) ≡ None → number_of (space_of e) (table_of us) ≡ Some k
new_number e es zs us k h same n none =
    let m : length (table_of es) ≡ length es = length-map es space_of in
    ap (λ x. number_of (space_of e) (table_of x)) h ∙ ap (number_of (space_of e)) (map-append space_of es (e ∷ []))
    ∙ number_behind 0 k (space_of e) (table_of es) (omega arith) (ap (λ x. number_of (space_of e) (table_of x)) same ∙ none)
