-- What the text of a literal says
use Rattle.std.proofs.Common.{◌≡◌, ◌⊎◌, inl, inr, ℕ, ◌<◌, ◌≤◌, nat_lt, nat_le, ◌==◌, ◌&&◌, ◌||◌, Bool, true, false, true≢false, if◌then◌else◌, List, [], ◌∷◌, ◌++◌, length, Option, None, Some, OnSome, refl, sym, ap, ap₂, ◌∙◌, subst, arith, lit<}
use Rattle.std.specs.Prelude.{option_and_then}
use Rattle.std.specs.List.{list_all}
use Rattle.std.proofs.lemmas.Bool.{ltb-true, lt-ltb}
use Rattle.std.proofs.lemmas.Bool.Decides.{nat_tests}
use Rattle.std.specs.Char.{digit_value}
use Rattle.std.specs.Str.Parse.{AllDigits, IsNumeral, digits_value}
use Rattle.algebra.specs.Fraction.{Fraction}
use Rattle.ratio.specs.declared.reduced.Ratio.{Ratio}
use Rattle.ratio.specs.Digits.{BeginsOtherwise, IsFraction}
use Rattle.ratio.specs.NumberText.{Decimal, IsDecimal, IsExponent, IsSignedSize, decimal_value}
use Rattle.ratio.specs.Value.{valued}
use Rattle.ratio.proofs.GrammarLaws.{below_digits, decimal_parts, is_decimal}
use Rattle.ufl_values.specs.Exact.{exact}
use Rattle.ufl_values.proofs.ExactLaws.{exact_at}
use Rattle.ufl_elab.specs.Literals.{is_digit, digits_before, behind_digits, fraction_before, behind_fraction, Power, power_of, signed_power, written_power, decimal_by, decimal_of, literal}

-- ---- digits
pub digits_split : (t : List ℕ) → digits_before t ++ behind_digits t ≡ t
digits_split [] = refl
digits_split (c ∷ cs) = by_test (is_digit c) (digits_split cs)
  where
    by_test : (b : Bool) → digits_before cs ++ behind_digits cs ≡ cs
        → (if b then c ∷ digits_before cs else []) ++ (if b then behind_digits cs else c ∷ cs) ≡ c ∷ cs
    by_test true i = ap (λ l. c ∷ l) i
    by_test false i = refl

pub all_digits : (t : List ℕ) → AllDigits 10 (digits_before t)
all_digits [] = tt
all_digits (c ∷ cs) = by_test (is_digit c) refl (all_digits cs)
  where
    by_test : (b : Bool) → is_digit c ≡ b → AllDigits 10 (digits_before cs) → AllDigits 10 (if b then c ∷ digits_before cs else [])
    by_test true h i = (ltb-true (digit_value c) 10 h, i)
    by_test false h i = tt

no_digit : (c : ℕ) → is_digit c ≡ false → ¬ (digit_value c < 10)
no_digit c h d = true≢false (sym (lt-ltb (digit_value c) 10 d) ∙ h)

pub begins_otherwise : (t : List ℕ) → BeginsOtherwise (behind_digits t)
begins_otherwise [] = tt
begins_otherwise (c ∷ cs) = by_test (is_digit c) refl (begins_otherwise cs)
  where
    by_test : (b : Bool) → is_digit c ≡ b → BeginsOtherwise (behind_digits cs) → BeginsOtherwise (if b then behind_digits cs else c ∷ cs)
    by_test true h i = i
    by_test false h i = no_digit c h

is_same : (a b : ℕ) → (a == b) ≡ true → a ≡ b
is_same a b h = grind (arith, nat_tests)

is_other : (a b : ℕ) → (a == b) ≡ false → a ≡ b → ⊥
is_other a b h e = grind (arith, nat_tests)

heads : (x y : ℕ) (xs ys : List ℕ) → x ∷ xs ≡ y ∷ ys → x ≡ y
heads x y xs ys e = cc

no_point : (b : ℕ) (bs : List ℕ) → [] ≡ b ∷ bs → ⊥
no_point b bs e = cc

pub fraction_is : (t : List ℕ) → IsFraction t (fraction_before t) (behind_fraction t)
fraction_is [] = inr (refl, refl, λ p. no_point 46 p.0 p.1)
fraction_is (c ∷ cs) = by_test (c == 46) refl
  where
    by_test : (b : Bool) → (c == 46) ≡ b → IsFraction (c ∷ cs) (if b then digits_before cs else []) (if b then behind_digits cs else c ∷ cs)
    by_test true h = inl (ap₂ (λ x l. x ∷ l) (is_same c 46 h) (sym (digits_split cs)), all_digits cs, begins_otherwise cs)
    by_test false h = inr (refl, refl, λ p. is_other c 46 h (heads c 46 cs p.0 p.1))

-- ---- powers of ten
both : (a b : Bool) → (a && b) ≡ true → (a ≡ true) × (b ≡ true)
both true true h = (refl, refl)
both true false h = absurd (true≢false (sym h))
both false b h = absurd (true≢false (sym h))

tested_digits : (ds : List ℕ) → list_all is_digit ds ≡ true → AllDigits 10 ds
tested_digits [] h = tt
tested_digits (c ∷ cs) h = let p = both (is_digit c) (list_all is_digit cs) h in (ltb-true (digit_value c) 10 p.0, tested_digits cs p.1)

digits_tested : (ds : List ℕ) → AllDigits 10 ds → list_all is_digit ds ≡ true
digits_tested [] h = refl
digits_tested (c ∷ cs) h = ap₂ (λ a b. a && b) (lt-ltb (digit_value c) 10 h.0) (digits_tested cs h.1)

abbrev is_size : List ℕ → Bool
is_size ds = list_all is_digit ds && (nat_lt 0 (length ds) && nat_le (length ds) 3)

record IsSize (ds : List ℕ) : Type 0 where
  numeral : IsNumeral 10 ds
  short : length ds ≤ 3

abbrev sized : Bool → List ℕ → Power
sized lowered ds = record { lowered = lowered; size = digits_value 10 ds }

at_most_three : (n : ℕ) → nat_le n 3 ≡ true → n ≤ 3
at_most_three n h = grind (arith, nat_tests)

three_tested : (n : ℕ) → n ≤ 3 → nat_le n 3 ≡ true
three_tested n h = grind (arith, nat_tests)

power_is : (lowered : Bool) (ds : List ℕ) (p : Power) → power_of lowered ds ≡ Some p → IsSize ds × (p ≡ sized lowered ds)
power_is lowered ds p = by_test (is_size ds) refl
  where
    by_test : (b : Bool) → is_size ds ≡ b → (if b then Some (sized lowered ds) else None) ≡ Some p → IsSize ds × (p ≡ sized lowered ds)
    by_test true h e =
        let q = both (list_all is_digit ds) (nat_lt 0 (length ds) && nat_le (length ds) 3) h in
        let r = both (nat_lt 0 (length ds)) (nat_le (length ds) 3) q.1 in
        (record { numeral = (ltb-true 0 (length ds) r.0, tested_digits ds q.0); short = at_most_three (length ds) r.1 }, cc)
    by_test false h e = absurd (none_some p e)
      where
        none_some : (x : Power) → ◌≡◌ {A = Option Power} None (Some x) → ⊥
        none_some x k = cc

power_at : (lowered : Bool) (ds : List ℕ) → IsNumeral 10 ds → length ds ≤ 3 → power_of lowered ds ≡ Some (sized lowered ds)
power_at lowered ds n h =
    ap (λ b. if b then Some (sized lowered ds) else None)
    (ap₂ (λ a b. a && b) (digits_tested ds n.1) (ap₂ (λ a b. a && b) (lt-ltb 0 (length ds) n.0) (three_tested (length ds) h)))

size_behind : (text sign ds : List ℕ) (lowered : Bool) (p : Power) → text ≡ sign ++ ds → (lowered ≡ true → sign ≡ 45 ∷ []) → (lowered ≡ false → (sign ≡ []) ⊎ (sign ≡ 43 ∷ []))
    → IsSize ds × (p ≡ sized lowered ds) → IsSignedSize text p.lowered p.size
size_behind text sign ds true p e below above (n, q) =
    subst (λ x. IsSignedSize text x.lowered x.size) (sym q) (record { sign = sign; digits = ds; is_sign = below refl; is_numeral = n.numeral; at_most_three = n.short; size_is = refl; text_is = e })
size_behind text sign ds false p e below above (n, q) =
    subst (λ x. IsSignedSize text x.lowered x.size) (sym q) (record { sign = sign; digits = ds; is_sign = above refl; is_numeral = n.numeral; at_most_three = n.short; size_is = refl; text_is = e })

true_not : {A : Type 0} → true ≡ false → A
true_not h = absurd (true≢false h)

pub signed_is : (t : List ℕ) (p : Power) → signed_power t ≡ Some p → IsSignedSize t p.lowered p.size
signed_is [] p e = absurd (none_some p e)
  where
    none_some : (x : Power) → ◌≡◌ {A = Option Power} None (Some x) → ⊥
    none_some x k = cc
signed_is (c ∷ cs) p e = by_minus (c == 45) refl e
  where
    by_plus : (b : Bool) → (c == 43) ≡ b → (if b then power_of false cs else power_of false (c ∷ cs)) ≡ Some p → IsSignedSize (c ∷ cs) p.lowered p.size
    by_plus true h e =
        size_behind (c ∷ cs) (43 ∷ []) cs false p (ap (λ x. x ∷ cs) (is_same c 43 h)) (λ k. true_not (sym k)) (λ k. inr refl) (power_is false cs p e)
    by_plus false h e = size_behind (c ∷ cs) [] (c ∷ cs) false p refl (λ k. true_not (sym k)) (λ k. inl refl) (power_is false (c ∷ cs) p e)

    by_minus : (b : Bool) → (c == 45) ≡ b → (if b then power_of true cs else (if c == 43 then power_of false cs else power_of false (c ∷ cs))) ≡ Some p → IsSignedSize (c ∷ cs) p.lowered p.size
    by_minus true h e = size_behind (c ∷ cs) (45 ∷ []) cs true p (ap (λ x. x ∷ cs) (is_same c 45 h)) (λ k. refl) (λ k. true_not k) (power_is true cs p e)
    by_minus false h e = by_plus (c == 43) refl e

other_byte : (c b : ℕ) → digit_value c < 10 → b < 48 → (c == b) ≡ false
other_byte c b d h = by_test (c == b) refl
  where
    by_test : (x : Bool) → (c == b) ≡ x → x ≡ false
    by_test false e = refl
    by_test true e = absurd (below_digits b h (subst (λ k. digit_value k < 10) (is_same c b e) d))

unsigned_at : (ds : List ℕ) → IsNumeral 10 ds → length ds ≤ 3 → signed_power ds ≡ Some (sized false ds)
unsigned_at [] n h = absurd (omega (arith, n.0))
unsigned_at (c ∷ cs) n h =
    ap (λ b. if b then power_of true cs else (if c == 43 then power_of false cs else power_of false (c ∷ cs))) (other_byte c 45 n.1.0 (lit< tt))
    ∙ ap (λ b. if b then power_of false cs else power_of false (c ∷ cs)) (other_byte c 43 n.1.0 (lit< tt))
    ∙ power_at false (c ∷ cs) n h

pub signed_at : (t : List ℕ) (lowered : Bool) (size : ℕ) → IsSignedSize t lowered size → signed_power t ≡ Some (record { lowered = lowered; size = size })
signed_at t true size w =
    ap signed_power (w.text_is ∙ ap (λ s. s ++ w.digits) w.is_sign) ∙ power_at true w.digits w.is_numeral w.at_most_three
    ∙ ap (λ n. Some (record { lowered = true; size = n })) (sym w.size_is)
signed_at t false size w = by_sign w.is_sign ∙ ap (λ n. Some (record { lowered = false; size = n })) (sym w.size_is)
  where
    by_sign : (w.sign ≡ []) ⊎ (w.sign ≡ 43 ∷ []) → signed_power t ≡ Some (sized false w.digits)
    by_sign (inl e) = ap signed_power (w.text_is ∙ ap (λ s. s ++ w.digits) e) ∙ unsigned_at w.digits w.is_numeral w.at_most_three
    by_sign (inr e) = ap signed_power (w.text_is ∙ ap (λ s. s ++ w.digits) e) ∙ power_at false w.digits w.is_numeral w.at_most_three

mark_is : (c : ℕ) → (c == 101 || c == 69) ≡ true → (c ≡ 101) ⊎ (c ≡ 69)
mark_is c = by_test (c == 101) refl
  where
    by_test : (b : Bool) → (c == 101) ≡ b → (b || c == 69) ≡ true → (c ≡ 101) ⊎ (c ≡ 69)
    by_test true h e = inl (is_same c 101 h)
    by_test false h e = inr (is_same c 69 e)

pub exponent_is : (t : List ℕ) (p : Power) → written_power t ≡ Some p → IsExponent t p.lowered p.size
exponent_is [] p e =
    let q : p ≡ record { lowered = false; size = 0 } = cc in
    subst (λ x. IsExponent [] x.lowered x.size) (sym q) (inl (refl, refl, refl))
exponent_is (c ∷ cs) p e = by_test (c == 101 || c == 69) refl e
  where
    none_some : (x : Power) → ◌≡◌ {A = Option Power} None (Some x) → ⊥
    none_some x k = cc

    by_test : (b : Bool) → (c == 101 || c == 69) ≡ b → (if b then signed_power cs else None) ≡ Some p → IsExponent (c ∷ cs) p.lowered p.size
    by_test true h e = inr (record { mark = c; rest = cs; is_mark = mark_is c h; is_signed = signed_is cs p e; text_is = refl })
    by_test false h e = absurd (none_some p e)

pub exponent_at : (t : List ℕ) (lowered : Bool) (size : ℕ) → IsExponent t lowered size → written_power t ≡ Some (record { lowered = lowered; size = size })
exponent_at t lowered size (inl h) =
    ap written_power h.0 ∙ ap₂ (λ l n. Some (record { lowered = l; size = n })) (sym h.1) (sym h.2)
exponent_at t lowered size (inr w) = by_mark w.is_mark ∙ signed_at w.rest lowered size w.is_signed
  where
    by_mark : (w.mark ≡ 101) ⊎ (w.mark ≡ 69) → written_power t ≡ signed_power w.rest
    by_mark (inl e) = ap written_power (w.text_is ∙ ap (λ c. c ∷ w.rest) e)
    by_mark (inr e) = ap written_power (w.text_is ∙ ap (λ c. c ∷ w.rest) e)

-- ---- decimals
abbrev decimal_with : List ℕ → List ℕ → Power → Decimal
decimal_with whole fraction p = record { whole = whole; fraction = fraction; lowered = p.lowered; exponent = p.size }

decimal_by_is : (whole fraction : List ℕ) (o : Option Power) (d : Decimal) → decimal_by whole fraction o ≡ Some d
    → (p : Power) × ((o ≡ Some p) × ((0 < length (whole ++ fraction)) × (d ≡ decimal_with whole fraction p)))
decimal_by_is whole fraction None d e = absurd (none_some d e)
  where
    none_some : (x : Decimal) → ◌≡◌ {A = Option Decimal} None (Some x) → ⊥
    none_some x k = cc
decimal_by_is whole fraction (Some p) d e = by_test (nat_lt 0 (length (whole ++ fraction))) refl e
  where
    none_some : (x : Decimal) → ◌≡◌ {A = Option Decimal} None (Some x) → ⊥
    none_some x k = cc

    by_test : (b : Bool) → nat_lt 0 (length (whole ++ fraction)) ≡ b → (if b then Some (decimal_with whole fraction p) else None) ≡ Some d
        → (p2 : Power) × ((Some p ≡ Some p2) × ((0 < length (whole ++ fraction)) × (d ≡ decimal_with whole fraction p2)))
    by_test true h e = (p, (refl, (ltb-true 0 (length (whole ++ fraction)) h, cc)))
    by_test false h e = absurd (none_some d e)

pub decimal_is : (t : List ℕ) (d : Decimal) → decimal_of t ≡ Some d → IsDecimal t d
unfolding decimal_of
decimal_is t d e =
    let whole = digits_before t in
    let behind = behind_digits t in
    let q = decimal_by_is whole (fraction_before behind) (written_power (behind_fraction behind)) d e in
    subst (IsDecimal t) (sym q.1.1.1)
    (is_decimal t whole behind (fraction_before behind) (behind_fraction behind) q.0.lowered q.0.size (digits_split t) (all_digits t) (fraction_is behind) q.1.1.0
    (exponent_is (behind_fraction behind) q.0 q.1.0))

pub decimal_at : (t : List ℕ) (d : Decimal) → IsDecimal t d → decimal_of t ≡ Some d
unfolding decimal_of
decimal_at t d h =
    let whole = digits_before t in
    let behind = behind_digits t in
    let q = decimal_parts t whole behind (fraction_before behind) (behind_fraction behind) d (digits_split t) (all_digits t) (begins_otherwise t) (fraction_is behind) h in
    ap₂ (λ w f. decimal_by w f (written_power (behind_fraction behind))) q.0 q.1
    ∙ ap (decimal_by d.whole d.fraction) (exponent_at (behind_fraction behind) d.lowered d.exponent q.2)
    ∙ ap (λ b. if b then Some d else None) (lt-ltb 0 (length (d.whole ++ d.fraction)) h.is_mantissa.2)

-- ---- values
pub exact_of : (o : Option Ratio) (x : Option Fraction) → valued o ≡ x → option_and_then exact x ≡ o
exact_of None x e = ap (option_and_then exact) (sym e)
exact_of (Some c) x e = ap (option_and_then exact) (sym e) ∙ exact_at c

pub literal_is : (t : List ℕ) (o : Option Ratio) → ((d : Decimal) → IsDecimal t d → valued o ≡ decimal_value d)
    → OnSome o ((d : Decimal) × IsDecimal t d) → o ≡ literal t
unfolding literal
literal_is t o value lawful = by_text (decimal_of t) refl
  where
    none_some : (x : Decimal) → ◌≡◌ {A = Option Decimal} None (Some x) → ⊥
    none_some x k = cc

    undecimal : (r : Option Ratio) → OnSome r ((d : Decimal) × IsDecimal t d) → decimal_of t ≡ None → r ≡ None
    undecimal None l h = refl
    undecimal (Some c) l h = absurd (none_some l.0 (sym h ∙ decimal_at t l.0 l.1))

    by_text : (x : Option Decimal) → decimal_of t ≡ x → o ≡ option_and_then exact (option_and_then decimal_value x)
    by_text None h = undecimal o lawful h
    by_text (Some d) h = sym (exact_of o (decimal_value d) (value d (decimal_is t d h)))

-- what the text says decides the number
pub literal_at : (t : List ℕ) (d : Decimal) → IsDecimal t d → literal t ≡ option_and_then exact (decimal_value d)
unfolding literal
literal_at t d h = ap (λ o. option_and_then exact (option_and_then decimal_value o)) (decimal_at t d h)

pub literal_lawful : (t : List ℕ) → OnSome (literal t) ((d : Decimal) × IsDecimal t d)
unfolding literal
literal_lawful t = by_text (decimal_of t) refl
  where
    some_decimal : (o : Option Ratio) (P : Type 0) → P → OnSome o P
    some_decimal None P p = tt
    some_decimal (Some c) P p = p

    by_text : (x : Option Decimal) → decimal_of t ≡ x → OnSome (option_and_then exact (option_and_then decimal_value x)) ((d : Decimal) × IsDecimal t d)
    by_text None h = tt
    by_text (Some d) h = some_decimal (option_and_then exact (decimal_value d)) ((e : Decimal) × IsDecimal t e) (d, decimal_is t d h)
