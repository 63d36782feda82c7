-- The texts of numbers, and the numbers of texts
use Rattle.std.proofs.Common.{◌≡◌, refl, sym, ◌∙◌, ap, subst, ℕ, zero, suc, ◌-◌, ◌<◌, ◌≤◌, ◌^◌, Bool, true, false, ◌&&◌, ◌||◌, not, ◌==◌, nat_lt, if◌then◌else◌, List, [], ◌∷◌, ◌++◌, length, take, drop, slice_index, Option, Some, None, codes, decimal, arith, inr, ltb-true}
use Rattle.std.specs.Str.{all_ascii_digits}
use Rattle.std.specs.Str.Parse.{digits_value}
use Rattle.std.proofs.lemmas.Bool.{eqb-true, eq-eqb, lt-ltb}
use Rattle.std.proofs.lemmas.List.{length-append}
use Rattle.std.proofs.lemmas.Fmt.{decimal_is_IsNumeral, digits_decimal, digits_value-decimal, decimal-digits_value, first_decimal, length-decimal-le}
use Rattle.std.proofs.Math.Seq.{take-append_seam, get_or-append_seam}
use Rattle.c_text.specs.Lowest.{first, second}
use Rattle.c_text.specs.Numbers.{is_numeral, decimal_below, decimal_value, small_value, half_value, table_value, counter_value}
use Rattle.c_text.proofs.NumberLaws.{own, eqb_ne, decimal_either}

some_digits : (n : ℕ) → n < 2 ^ 64 → 0 < length (decimal n)
some_digits n h = (decimal_is_IsNumeral n h).0.0

or_first : (a b : Bool) → a ≡ true → (a || b) ≡ true
or_first a b h = cc

leading : (n : ℕ) → n < 2 ^ 64 → (length (decimal n) == 1 || not (slice_index (decimal n) 0 == 48)) ≡ true
leading zero h =
    let one : length (decimal 0) ≡ 1 = omega (arith, some_digits 0 h, length-decimal-le 1 0 (omega arith) (omega arith) h) in
    or_first (length (decimal 0) == 1) _ (eq-eqb (length (decimal 0)) 1 one)
leading (suc n) h = decimal_either (decimal (suc n)) (inr (λ e. omega (arith, e, first_decimal (suc n) (omega arith) h)))

all_three : (a b c : Bool) → a ≡ true → b ≡ false → c ≡ true → (a && (not b && c)) ≡ true
all_three a b c p q r = cc

pub numeral_decimal : (n : ℕ) → n < 2 ^ 64 → is_numeral (decimal n) ≡ true
numeral_decimal n h =
    all_three (all_ascii_digits (decimal n)) (length (decimal n) == 0) (length (decimal n) == 1 || not (slice_index (decimal n) 0 == 48))
    (digits_decimal own n h) (eqb_ne (length (decimal n)) 0 (λ e. omega (arith, e, some_digits n h))) (leading n h)

pub below_decimal : (limit n : ℕ) → n < limit → limit ≤ 2 ^ 64 → decimal_below limit (decimal n) ≡ Some n
below_decimal limit n h k =
    let l : n < 2 ^ 64 = omega (arith, h, k) in
    ap (λ b. if b && nat_lt (digits_value 10 (decimal n)) limit then Some (digits_value 10 (decimal n)) else None) (numeral_decimal n l)
    ∙ ap (λ m. if nat_lt m limit then Some m else None) (digits_value-decimal own n l)
    ∙ ap (λ b. if b then Some n else None) (lt-ltb n limit h)

pub small_decimal : (n : ℕ) → n < 2 ^ 32 → small_value (decimal n) ≡ Some n
unfolding small_value
small_decimal n h = below_decimal (2 ^ 32) n h (omega arith)

last_at : (xs : List ℕ) (b : ℕ) → slice_index (xs ++ b ∷ []) (length (xs ++ b ∷ []) - 1) ≡ b
last_at xs b =
    let l : length (xs ++ b ∷ []) - 1 ≡ length xs = let k = length-append xs (b ∷ []) in omega (arith, k) in
    ap (λ i. slice_index (xs ++ b ∷ []) i) l ∙ get_or-append_seam xs b [] 0

all_but_last : (xs : List ℕ) (b : ℕ) → take (length (xs ++ b ∷ []) - 1) (xs ++ b ∷ []) ≡ xs
all_but_last xs b =
    let l : length (xs ++ b ∷ []) - 1 ≡ length xs = let k = length-append xs (b ∷ []) in omega (arith, k) in
    ap (λ i. take i (xs ++ b ∷ [])) l ∙ take-append_seam xs (b ∷ [])

pub half_decimal : (n : ℕ) → n < 2 ^ 64 → half_value (decimal n ++ codes "u") ≡ Some n
unfolding half_value decimal_value
half_decimal n h =
    let ds = decimal n ++ codes "u" in
    ap (λ b. if b == 117 then decimal_below (2 ^ 64) (take (length ds - 1) ds) else None) (last_at (decimal n) 117)
    ∙ ap (decimal_below (2 ^ 64)) (all_but_last (decimal n) 117)
    ∙ below_decimal (2 ^ 64) n h (omega arith)

pub table_decimal : (n : ℕ) → n < 2 ^ 32 → table_value (codes "K" ++ decimal n) ≡ Some n
unfolding table_value
table_decimal n h = small_decimal n h

pub counter_decimal : (n : ℕ) → n < 2 ^ 32 → counter_value (codes "i" ++ decimal n) ≡ Some n
unfolding counter_value
counter_decimal n h = small_decimal n h

-- ---- back from texts

if_some : (b : Bool) (o : Option ℕ) (n : ℕ) → (if b then o else None) ≡ Some n → (b ≡ true) × (o ≡ Some n)
if_some true o n h = (refl, h)
if_some false o n h = cc

not_false : (a : Bool) → not a ≡ true → a ≡ false
not_false true e = sym e
not_false false e = refl

alone : (a b : Bool) → (a || not b) ≡ true → b ≡ true → a ≡ true
alone true b h e = refl
alone false true h e = cc
alone false false h e = cc

some_long : (text : List ℕ) → (length text == 0) ≡ false → 0 < length text
some_long [] h = cc
some_long (b ∷ bs) h = omega arith

pub below_back : (limit : ℕ) (text : List ℕ) (n : ℕ) → limit ≤ 2 ^ 64 → decimal_below limit text ≡ Some n → (text ≡ decimal n) × (n < limit)
below_back limit text n k h =
    let p = if_some (is_numeral text && nat_lt (digits_value 10 text) limit) (Some (digits_value 10 text)) n h in
    let v : digits_value 10 text ≡ n = cc in
    let numeral = first (is_numeral text) _ p.0 in
    let digits = first (all_ascii_digits text) _ numeral in
    let more = second (all_ascii_digits text) _ numeral in
    let some = some_long text (not_false _ (first (not (length text == 0)) _ more)) in
    let lead = second (not (length text == 0)) (length text == 1 || not (slice_index text 0 == 48)) more in
    let below : digits_value 10 text < limit = ltb-true (digits_value 10 text) limit (second (is_numeral text) _ p.0) in (
      sym (decimal-digits_value own text digits some (λ z. eqb-true (length text) 1 (alone _ (slice_index text 0 == 48) lead (eq-eqb (slice_index text 0) 48 z))) (omega (arith, below, k))) ∙ ap decimal v,
      subst (λ m. m < limit) v below,
    )

pub small_back : (text : List ℕ) (n : ℕ) → small_value text ≡ Some n → (text ≡ decimal n) × (n < 2 ^ 32)
unfolding small_value
small_back text n h = below_back (2 ^ 32) text n (omega arith) h

rejoin : (text : List ℕ) (b : ℕ) → 0 < length text → slice_index text (length text - 1) ≡ b → text ≡ take (length text - 1) text ++ b ∷ []
rejoin [] b h e = absurd (omega (arith, h))
rejoin (c ∷ []) b h e = ap (λ x. x ∷ []) e
rejoin (c ∷ d ∷ ds) b h e =
    let l : suc (suc (length ds)) - 1 ≡ suc (length ds) = omega arith in
    let m : suc (length ds) - 1 ≡ length ds = omega arith in
    rw l (ap (λ xs. c ∷ xs) (let k = rejoin (d ∷ ds) b (omega arith) (rw m (rw l at e)) in rw m at k))

nonempty : (text : List ℕ) (b : ℕ) → (slice_index text (length text - 1) == suc b) ≡ true → 0 < length text
nonempty [] b h = let z : 0 ≡ suc b = eqb-true 0 (suc b) h in absurd (omega (arith, z))
nonempty (c ∷ cs) b h = omega arith

pub half_back : (text : List ℕ) (n : ℕ) → half_value text ≡ Some n → (text ≡ decimal n ++ codes "u") × (n < 2 ^ 64)
unfolding half_value decimal_value
half_back text n h =
    let p = if_some (slice_index text (length text - 1) == 117) _ n h in
    let q = below_back (2 ^ 64) (take (length text - 1) text) n (omega arith) p.1 in
    (rejoin text 117 (nonempty text 116 p.0) (eqb-true (slice_index text (length text - 1)) 117 p.0) ∙ ap (λ xs. xs ++ 117 ∷ []) q.0, q.1)

behind : (text ds : List ℕ) (b : ℕ) → (slice_index text 0 == suc b) ≡ true → drop 1 text ≡ ds → text ≡ suc b ∷ ds
behind [] ds b h e = let z : 0 ≡ suc b = eqb-true 0 (suc b) h in absurd (omega (arith, z))
behind (c ∷ cs) ds b h e = ap (λ x. x ∷ cs) (eqb-true c (suc b) h) ∙ ap (λ xs. suc b ∷ xs) e

pub table_back : (text : List ℕ) (n : ℕ) → table_value text ≡ Some n → (text ≡ codes "K" ++ decimal n) × (n < 2 ^ 32)
unfolding table_value
table_back text n h =
    let p = if_some (slice_index text 0 == 75) _ n h in
    let q = small_back (drop 1 text) n p.1 in
    (behind text (decimal n) 74 p.0 q.0, q.1)

pub counter_back : (text : List ℕ) (n : ℕ) → counter_value text ≡ Some n → (text ≡ codes "i" ++ decimal n) × (n < 2 ^ 32)
unfolding counter_value
counter_back text n h =
    let p = if_some (slice_index text 0 == 105) _ n h in
    let q = small_back (drop 1 text) n p.1 in
    (behind text (decimal n) 104 p.0 q.0, q.1)
