-- The number of a text is the one to which the grammar relates it
use Rattle.std.proofs.Common.{◌≡◌, ℕ, ◌<◌, ◌≤◌, Bool, true, false, cond, eqb, leb, List, [], ◌∷◌, ◌++◌, length, Option, Some, None, refl, sym, ap, subst, ◌∙◌, inl, inr, append_assoc, arith}
use Rattle.std.specs.Prelude.{◌&&◌, ◌||◌, ◌⊎◌, OnSome, ⊤}
use Rattle.std.specs.List.{list_all}
use Rattle.std.specs.Char.{digit_value}
use Rattle.std.specs.Str.Parse.{AllDigits, IsNumeral, digits_value}
use Rattle.std.proofs.lemmas.Bool.{ltb-true, leb-true, le-leb, lt-ltb, eqb-true, ne_eqb, and_parts}
use Rattle.algebra.specs.Fraction.{Fraction}
use Rattle.ratio.specs.declared.reduced.Ratio.{Ratio}
use Rattle.ratio.specs.Value.{valued}
use Rattle.ratio.specs.NumberText.{Decimal, Magnitude, Quotient, Point, IsMantissa, IsSignedSize, IsExponent, IsDecimal, IsMagnitude, IsNumber, number_value}
use Rattle.mesh_in.specs.Line.{is_word}
use Rattle.mesh_in.specs.Options.{◌>>=◌}
use Rattle.mesh_in.specs.NumberReading.{is_digit, before_other, split_digits, is_numeral, size_at, signed_size, exponent_at, decimal_at, quotient_at, behind_digits, magnitude_at, signed_at, coordinate_of}

-- ---- digits

digit_lt : (c : ℕ) → is_digit c ≡ true → digit_value c < 10
digit_lt c h = ltb-true (digit_value c) 10 h

pub all_from_test : (ds : List ℕ) → list_all is_digit ds ≡ true → AllDigits 10 ds
all_from_test [] h = tt
all_from_test (c ∷ cs) h = let p = and_parts (is_digit c) (list_all is_digit cs) h in (digit_lt c p.0, all_from_test cs p.1)

pub test_from_all : (ds : List ℕ) → AllDigits 10 ds → list_all is_digit ds ≡ true
test_from_all [] h = refl
test_from_all (c ∷ cs) h = rw (lt-ltb (digit_value c) 10 h.0, test_from_all cs h.1) refl

-- no digit begins the text
pub Begins : List ℕ → Type 0
Begins [] = ⊤
Begins (c ∷ cs) = is_digit c ≡ false

pub split_joined : (ds rest : List ℕ) → AllDigits 10 ds → Begins rest → split_digits (ds ++ rest) ≡ (ds, rest)
unfolding Begins
split_joined [] [] h other = refl
split_joined [] (c ∷ cs) h other = rw other refl
split_joined (d ∷ ds) rest h other = rw (lt-ltb (digit_value d) 10 h.0) (ap (λ (s : List ℕ × List ℕ). (d ∷ s.0, s.1)) (split_joined ds rest h.1 other))

-- what the digits in front and the rest are
pub record IsSplit (text digits rest : List ℕ) : Type 0 where
  pub joined : text ≡ digits ++ rest
  pub digits_only : AllDigits 10 digits

one_split : (c : ℕ) (cs : List ℕ) (digit : Bool) → is_digit c ≡ digit → IsSplit cs (split_digits cs).0 (split_digits cs).1 → IsSplit (c ∷ cs) (before_other c digit (split_digits cs) cs).0 (before_other c digit (split_digits cs) cs).1
one_split c cs true h s = record { joined = ap (λ t. c ∷ t) s.joined; digits_only = (digit_lt c h, s.digits_only) }
one_split c cs false h s = record { joined = refl; digits_only = tt }

pub is_split : (text : List ℕ) → IsSplit text (split_digits text).0 (split_digits text).1
is_split [] = record { joined = refl; digits_only = tt }
is_split (c ∷ cs) = one_split c cs (is_digit c) refl (is_split cs)

word_from_test : (ds : List ℕ) → is_word ds ≡ true → 0 < length ds
word_from_test [] h = absurd cc
word_from_test (d ∷ ds) h = omega arith

test_from_word : (ds : List ℕ) → 0 < length ds → is_word ds ≡ true
test_from_word [] h = absurd (omega arith)
test_from_word (d ∷ ds) h = refl

numeral_from_test : (ds : List ℕ) → is_numeral ds ≡ true → IsNumeral 10 ds
numeral_from_test ds h = let p = and_parts (is_word ds) (list_all is_digit ds) h in (word_from_test ds p.0, all_from_test ds p.1)

test_from_numeral : (ds : List ℕ) → IsNumeral 10 ds → is_numeral ds ≡ true
test_from_numeral ds h = rw (test_from_word ds h.0, test_from_all ds h.1) refl

-- a byte that is no digit
other_byte : (c : ℕ) (b : ℕ) → is_digit c ≡ true → is_digit b ≡ false → eqb c b ≡ false
other_byte c b digit other = ne_eqb c b (λ e. let clash : true ≡ false = sym digit ∙ ap is_digit e ∙ other in cc)

-- ---- tests that hold

if_some : {A : Type 0} (b : Bool) (o : Option A) (y : A) → cond b o None ≡ Some y → (b ≡ true) × (o ≡ Some y)
if_some true o y e = (refl, e)
if_some false o y e = absurd cc

bind_some : {A B : Type 0} (o : Option A) (f : A → Option B) (y : B) → (o >>= f) ≡ Some y → (x : A) × (o ≡ Some x) × (f x ≡ Some y)
bind_some None f y e = absurd cc
bind_some (Some x) f y e = (x, refl, e)

some_is : {A : Type 0} (x y : A) → Some x ≡ Some y → x ≡ y
some_is x y e = cc

-- ---- the exponent

size_again : (lowered : Bool) (ds : List ℕ) → IsNumeral 10 ds → length ds ≤ 3 → size_at lowered ds ≡ Some (lowered, digits_value 10 ds)
size_again lowered ds numeral short = rw (test_from_numeral ds numeral, le-leb (length ds) 3 short) refl

unsigned : (ds : List ℕ) → IsNumeral 10 ds → length ds ≤ 3 → signed_size ds ≡ Some (false, digits_value 10 ds)
unsigned [] numeral short = absurd (omega (arith, numeral.0))
unsigned (d ∷ ds) numeral short =
    let digit : is_digit d ≡ true = lt-ltb (digit_value d) 10 numeral.1.0 in
    rw (other_byte d 45 digit refl, other_byte d 43 digit refl) (size_again false (d ∷ ds) numeral short)

signed_again : (text : List ℕ) (lowered : Bool) (size : ℕ) → IsSignedSize text lowered size → signed_size text ≡ Some (lowered, size)
signed_again text true size s =
    let e : text ≡ 45 ∷ s.digits = s.text_is ∙ ap (λ sign. sign ++ s.digits) s.is_sign in
    rw (e, s.size_is) (size_again true s.digits s.is_numeral s.at_most_three)
signed_again text false size s = elim s.is_sign [
  | inl none ↦ rw (s.text_is, none, s.size_is) (unsigned s.digits s.is_numeral s.at_most_three)
  | inr plus ↦ rw (s.text_is, plus, s.size_is) (size_again false s.digits s.is_numeral s.at_most_three)
]

mark_again : (mark : ℕ) → (mark ≡ 101) ⊎ (mark ≡ 69) → (eqb mark 101 || eqb mark 69) ≡ true
mark_again mark (inl e) = rw e refl
mark_again mark (inr e) = rw e refl

exponent_again : (text : List ℕ) (lowered : Bool) (size : ℕ) → IsExponent text lowered size → exponent_at text ≡ Some (lowered, size)
exponent_again text lowered size (inl none) = rw (none.0, none.1, none.2) refl
exponent_again text lowered size (inr e) = rw (e.text_is, mark_again e.mark e.is_mark) (signed_again e.rest lowered size e.is_signed)

mark_is_no_digit : (mark : ℕ) → (mark ≡ 101) ⊎ (mark ≡ 69) → is_digit mark ≡ false
mark_is_no_digit mark (inl e) = rw e refl
mark_is_no_digit mark (inr e) = rw e refl

exponent_begins : (text : List ℕ) (lowered : Bool) (size : ℕ) → IsExponent text lowered size → Begins text
unfolding Begins
exponent_begins text lowered size (inl none) = rw none.0 tt
exponent_begins text lowered size (inr e) = rw e.text_is (mark_is_no_digit e.mark e.is_mark)

-- ---- decimals and quotients

decimal_again : (whole fraction behind : List ℕ) (lowered : Bool) (exponent : ℕ) → 0 < length (whole ++ fraction) → IsExponent behind lowered exponent
    → decimal_at whole fraction behind ≡ Some (Point (record { whole = whole; fraction = fraction; lowered = lowered; exponent = exponent }))
decimal_again whole fraction behind lowered exponent some e = rw (test_from_word (whole ++ fraction) some, exponent_again behind lowered exponent e) refl

not_slash : (c : ℕ) → (c ≡ 101) ⊎ (c ≡ 69) → eqb c 47 ≡ false
not_slash c (inl e) = rw e refl
not_slash c (inr e) = rw e refl

not_point : (c : ℕ) → (c ≡ 101) ⊎ (c ≡ 69) → eqb c 46 ≡ false
not_point c (inl e) = rw e refl
not_point c (inr e) = rw e refl

behind_whole : (whole behind : List ℕ) (lowered : Bool) (exponent : ℕ) → IsExponent behind lowered exponent → behind_digits whole behind ≡ decimal_at whole [] behind
behind_whole whole behind lowered exponent (inl none) = rw none.0 refl
behind_whole whole behind lowered exponent (inr e) = rw (e.text_is, not_slash e.mark e.is_mark, not_point e.mark e.is_mark) refl

at_split : (text digits rest : List ℕ) → split_digits text ≡ (digits, rest) → magnitude_at text ≡ behind_digits digits rest
at_split text digits rest e = ap (λ (s : List ℕ × List ℕ). behind_digits s.0 s.1) e

point_again : (text : List ℕ) (d : Decimal) → IsDecimal text d → magnitude_at text ≡ Some (Point d)
unfolding Begins
point_again text d is = elim is.is_mantissa.3 [
  | inl plain ↦
      let e : text ≡ d.whole ++ is.behind = is.text_is ∙ ap (λ m. m ++ is.behind) plain.0 in
      let some : 0 < length (d.whole ++ []) = subst (λ f. 0 < length (d.whole ++ f)) plain.1 is.is_mantissa.2 in
      at_split text d.whole is.behind (ap split_digits e ∙ split_joined d.whole is.behind is.is_mantissa.0 (exponent_begins is.behind d.lowered d.exponent is.is_exponent))
      ∙ behind_whole d.whole is.behind d.lowered d.exponent is.is_exponent
      ∙ decimal_again d.whole [] is.behind d.lowered d.exponent some is.is_exponent
      ∙ ap (λ (f : List ℕ). Some (Point (record { whole = d.whole; fraction = f; lowered = d.lowered; exponent = d.exponent }))) (sym plain.1)
  | inr pointed ↦
      let e : text ≡ d.whole ++ (46 ∷ (d.fraction ++ is.behind)) = is.text_is ∙ ap (λ m. m ++ is.behind) pointed ∙ append_assoc d.whole (46 ∷ d.fraction) is.behind in
      let split : split_digits (d.fraction ++ is.behind) ≡ (d.fraction, is.behind) = split_joined d.fraction is.behind is.is_mantissa.1 (exponent_begins is.behind d.lowered d.exponent is.is_exponent) in
      at_split text d.whole (46 ∷ (d.fraction ++ is.behind)) (ap split_digits e ∙ split_joined d.whole (46 ∷ (d.fraction ++ is.behind)) is.is_mantissa.0 refl)
      ∙ ap (λ (s : List ℕ × List ℕ). decimal_at d.whole s.0 s.1) split
      ∙ decimal_again d.whole d.fraction is.behind d.lowered d.exponent is.is_mantissa.2 is.is_exponent
]

quotient_again : (text above below : List ℕ) → IsNumeral 10 above → IsNumeral 10 below → text ≡ above ++ 47 ∷ below → magnitude_at text ≡ Some (Quotient above below)
unfolding Begins
quotient_again text above below top bottom e =
    at_split text above (47 ∷ below) (ap split_digits e ∙ split_joined above (47 ∷ below) top.1 refl)
    ∙ rw (test_from_word above top.0, test_from_numeral below bottom) refl

magnitude_again : (text : List ℕ) (m : Magnitude) → IsMagnitude text m → magnitude_at text ≡ Some m
magnitude_again text (Quotient above below) is = quotient_again text above below is.0 is.1 is.2
magnitude_again text (Point d) is = point_again text d is

-- ---- the sign

-- a magnitude begins with a digit or a point
abbrev Unsigned : List ℕ → Type 0
Unsigned text = (c : ℕ) × (cs : List ℕ) × (text ≡ c ∷ cs) × (eqb c 45 ≡ false)

digits_unsigned : (ds rest : List ℕ) → IsNumeral 10 ds → Unsigned (ds ++ rest)
digits_unsigned [] rest h = absurd (omega (arith, h.0))
digits_unsigned (d ∷ ds) rest h = (d, ds ++ rest, refl, other_byte d 45 (lt-ltb (digit_value d) 10 h.1.0) refl)

mantissa_unsigned : (whole fraction mantissa rest : List ℕ) → IsMantissa mantissa whole fraction → Unsigned (mantissa ++ rest)
mantissa_unsigned [] fraction mantissa rest (whole_digits, digits, some, inl plain) = absurd (omega (arith, subst (λ f. 0 < length f) plain.1 some))
mantissa_unsigned [] fraction mantissa rest (whole_digits, digits, some, inr pointed) = rw pointed (46, fraction ++ rest, refl, refl)
mantissa_unsigned (d ∷ ds) fraction mantissa rest (whole_digits, digits, some, inl plain) = rw plain.0 (d, ds ++ rest, refl, other_byte d 45 (lt-ltb (digit_value d) 10 whole_digits.0) refl)
mantissa_unsigned (d ∷ ds) fraction mantissa rest (whole_digits, digits, some, inr pointed) = rw pointed (d, (ds ++ 46 ∷ fraction) ++ rest, refl, other_byte d 45 (lt-ltb (digit_value d) 10 whole_digits.0) refl)

magnitude_unsigned : (text : List ℕ) (m : Magnitude) → IsMagnitude text m → Unsigned text
magnitude_unsigned text (Quotient above below) is = rw is.2 (digits_unsigned above (47 ∷ below) is.0)
magnitude_unsigned text (Point d) is = rw is.text_is (mantissa_unsigned d.whole d.fraction is.mantissa is.behind is.is_mantissa)

unsigned_number : (text : List ℕ) → Unsigned text → coordinate_of text ≡ signed_at false (magnitude_at text)
unfolding coordinate_of
unsigned_number text u = rw (u.2, u.3) refl

pub number_again : (text : List ℕ) (below_zero : Bool) (m : Magnitude) → IsNumber text below_zero m → coordinate_of text ≡ number_value below_zero m
unfolding coordinate_of
number_again text true m (size, parts) = rw parts.0 (ap (signed_at true) (magnitude_again size m parts.1))
number_again text false m (size, parts) = rw parts.0 (unsigned_number size (magnitude_unsigned size m parts.1) ∙ ap (signed_at false) (magnitude_again size m parts.1))

-- ---- and back: what is read is related

size_is : (lowered : Bool) (ds : List ℕ) (e : Bool × ℕ) → size_at lowered ds ≡ Some e → IsNumeral 10 ds × (length ds ≤ 3) × ((lowered, digits_value 10 ds) ≡ e)
size_is lowered ds e h =
    let p = if_some (is_numeral ds && leb (length ds) 3) (Some (lowered, digits_value 10 ds)) e h in
    let q = and_parts (is_numeral ds) (leb (length ds) 3) p.0 in
    (numeral_from_test ds q.0, leb-true (length ds) 3 q.1, some_is (lowered, digits_value 10 ds) e p.1)

signed_is : (c : ℕ) (cs : List ℕ) (e : Bool × ℕ) (minus plus : Bool) → eqb c 45 ≡ minus → eqb c 43 ≡ plus → cond minus (size_at true cs) (cond plus (size_at false cs) (size_at false (c ∷ cs))) ≡ Some e → IsSignedSize (c ∷ cs) e.0 e.1
signed_is c cs e true plus is_minus is_plus h =
    let q = size_is true cs e h in
    subst (λ (e : Bool × ℕ). IsSignedSize (c ∷ cs) e.0 e.1) q.2
    (record { sign = 45 ∷ []; digits = cs; is_sign = refl; is_numeral = q.0; at_most_three = q.1; size_is = refl; text_is = ap (λ b. b ∷ cs) (eqb-true c 45 is_minus) })
signed_is c cs e false true is_minus is_plus h =
    let q = size_is false cs e h in
    subst (λ (e : Bool × ℕ). IsSignedSize (c ∷ cs) e.0 e.1) q.2
    (record { sign = 43 ∷ []; digits = cs; is_sign = inr refl; is_numeral = q.0; at_most_three = q.1; size_is = refl; text_is = ap (λ b. b ∷ cs) (eqb-true c 43 is_plus) })
signed_is c cs e false false is_minus is_plus h =
    let q = size_is false (c ∷ cs) e h in
    subst (λ (e : Bool × ℕ). IsSignedSize (c ∷ cs) e.0 e.1) q.2
    (record { sign = []; digits = c ∷ cs; is_sign = inl refl; is_numeral = q.0; at_most_three = q.1; size_is = refl; text_is = refl })

signed_size_is : (text : List ℕ) (e : Bool × ℕ) → signed_size text ≡ Some e → IsSignedSize text e.0 e.1
signed_size_is [] e h = absurd cc
signed_size_is (c ∷ cs) e h = signed_is c cs e (eqb c 45) (eqb c 43) refl refl h

is_mark : (c : ℕ) (large small : Bool) → eqb c 101 ≡ small → eqb c 69 ≡ large → (small || large) ≡ true → (c ≡ 101) ⊎ (c ≡ 69)
is_mark c large true is_small is_large h = inl (eqb-true c 101 is_small)
is_mark c true false is_small is_large h = inr (eqb-true c 69 is_large)
is_mark c false false is_small is_large h = absurd cc

exponent_is : (text : List ℕ) (e : Bool × ℕ) → exponent_at text ≡ Some e → IsExponent text e.0 e.1
exponent_is [] e h = subst (λ (e : Bool × ℕ). IsExponent [] e.0 e.1) (some_is (false, 0) e h) (inl (refl, refl, refl))
exponent_is (c ∷ cs) e h =
    let p = if_some (eqb c 101 || eqb c 69) (signed_size cs) e h in
    inr (record { mark = c; rest = cs; is_mark = is_mark c (eqb c 69) (eqb c 101) refl refl p.0; is_signed = signed_size_is cs e p.1; text_is = refl })

decimal_is : (text whole fraction mantissa behind : List ℕ) (m : Magnitude) → decimal_at whole fraction behind ≡ Some m → AllDigits 10 whole → AllDigits 10 fraction
    → ((mantissa ≡ whole) × (fraction ≡ [])) ⊎ (mantissa ≡ whole ++ 46 ∷ fraction) → text ≡ mantissa ++ behind → IsMagnitude text m
decimal_is text whole fraction mantissa behind m h front back shape parts =
    let p = if_some (is_word (whole ++ fraction)) (exponent_at behind >>= λ e. Some (Point (record { whole = whole; fraction = fraction; lowered = e.0; exponent = e.1 }))) m h in
    let q = bind_some (exponent_at behind) (λ e. Some (Point (record { whole = whole; fraction = fraction; lowered = e.0; exponent = e.1 }))) m p.1 in
    subst (λ m. IsMagnitude text m) (some_is (Point (record { whole = whole; fraction = fraction; lowered = q.0.0; exponent = q.0.1 })) m q.2)
    (record {
      mantissa = mantissa;
      behind = behind;
      is_mantissa = (front, back, word_from_test (whole ++ fraction) p.0, shape);
      is_exponent = exponent_is behind q.0 q.1;
      text_is = parts;
    })

quotient_is : (text above below : List ℕ) (m : Magnitude) → quotient_at above below ≡ Some m → AllDigits 10 above → text ≡ above ++ 47 ∷ below → IsMagnitude text m
quotient_is text above below m h digits parts =
    let p = if_some (is_word above && is_numeral below) (Some (Quotient above below)) m h in
    let q = and_parts (is_word above) (is_numeral below) p.0 in
    subst (λ m. IsMagnitude text m) (some_is (Quotient above below) m p.1) ((word_from_test above q.0, digits), numeral_from_test below q.1, parts)

behind_is : (text whole : List ℕ) (c : ℕ) (cs : List ℕ) (m : Magnitude) (slash point : Bool) → eqb c 47 ≡ slash → eqb c 46 ≡ point → text ≡ whole ++ c ∷ cs → AllDigits 10 whole
    → cond slash (quotient_at whole cs) (cond point (decimal_at whole (split_digits cs).0 (split_digits cs).1) (decimal_at whole [] (c ∷ cs))) ≡ Some m → IsMagnitude text m
behind_is text whole c cs m true point is_slash is_point parts digits h =
    quotient_is text whole cs m h digits (parts ∙ ap (λ b. whole ++ b ∷ cs) (eqb-true c 47 is_slash))
behind_is text whole c cs m false true is_slash is_point parts digits h =
    let s = is_split cs in
    let f = (split_digits cs).0 in
    let r = (split_digits cs).1 in
    decimal_is text whole f (whole ++ 46 ∷ f) r m h digits s.digits_only (inr refl)
    (parts ∙ ap (λ b. whole ++ b ∷ cs) (eqb-true c 46 is_point) ∙ ap (λ t. whole ++ 46 ∷ t) s.joined ∙ sym (append_assoc whole (46 ∷ f) r))
behind_is text whole c cs m false false is_slash is_point parts digits h = decimal_is text whole [] whole (c ∷ cs) m h digits tt (inl (refl, refl)) parts

rest_is : (text whole rest : List ℕ) (m : Magnitude) → text ≡ whole ++ rest → AllDigits 10 whole → behind_digits whole rest ≡ Some m → IsMagnitude text m
rest_is text whole [] m parts digits h = decimal_is text whole [] whole [] m h digits tt (inl (refl, refl)) parts
rest_is text whole (c ∷ cs) m parts digits h = behind_is text whole c cs m (eqb c 47) (eqb c 46) refl refl parts digits h

magnitude_is : (text : List ℕ) (m : Magnitude) → magnitude_at text ≡ Some m → IsMagnitude text m
magnitude_is text m h = let s = is_split text in rest_is text (split_digits text).0 (split_digits text).1 m s.joined s.digits_only h

signed_number : (c : ℕ) (cs : List ℕ) (x : Fraction) (minus : Bool) → eqb c 45 ≡ minus → cond minus (signed_at true (magnitude_at cs)) (signed_at false (magnitude_at (c ∷ cs))) ≡ Some x
    → (below_zero : Bool) × (m : Magnitude) × IsNumber (c ∷ cs) below_zero m
signed_number c cs x true is_minus h =
    let p = bind_some (magnitude_at cs) (λ m. number_value true m) x h in
    (true, p.0, (cs, (ap (λ b. b ∷ cs) (eqb-true c 45 is_minus), magnitude_is cs p.0 p.1)))
signed_number c cs x false is_minus h =
    let p = bind_some (magnitude_at (c ∷ cs)) (λ m. number_value false m) x h in
    (false, p.0, (c ∷ cs, (refl, magnitude_is (c ∷ cs) p.0 p.1)))

pub number_is : (text : List ℕ) (x : Fraction) → coordinate_of text ≡ Some x → (below_zero : Bool) × (m : Magnitude) × IsNumber text below_zero m
unfolding coordinate_of
number_is [] x h = absurd cc
number_is (c ∷ cs) x h = signed_number c cs x (eqb c 45) refl h

none_read : (text : List ℕ) (o : Option Fraction) → coordinate_of text ≡ o → ((below_zero : Bool) (m : Magnitude) → IsNumber text below_zero m → None ≡ number_value below_zero m) → None ≡ o
none_read text None e value = refl
none_read text (Some x) e value = let n = number_is text x e in value n.0 n.1 n.2 ∙ sym (number_again text n.0 n.1 n.2) ∙ e

-- the answer of a call that goes by the grammar
pub read_is : (text : List ℕ) (r : Option Ratio) → ((below_zero : Bool) (m : Magnitude) → IsNumber text below_zero m → valued r ≡ number_value below_zero m)
    → OnSome r ((below_zero : Bool) × ((m : Magnitude) × IsNumber text below_zero m)) → valued r ≡ coordinate_of text
read_is text (Some x) value lawful = value lawful.0 lawful.1.0 lawful.1.1 ∙ sym (number_again text lawful.0 lawful.1.0 lawful.1.1)
read_is text None value lawful = none_read text (coordinate_of text) refl value
