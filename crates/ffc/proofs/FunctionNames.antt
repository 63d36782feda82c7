-- The names of functions: they are names of C, and those of different forms or markers differ
use Rattle.std.proofs.Common.{◌≡◌, ◌≢◌, ℕ, zero, suc, ◌<◌, ◌^◌, ◌==◌, Bool, true, false, ◌||◌, ◌&&◌, List, [], ◌∷◌, ◌++◌, Option, None, Some, codes, decimal, refl, sym, ◌∙◌, ap, ap₂, subst, arith}
use Rattle.std.proofs.lemmas.Fmt.{decimal_injective}
use Rattle.std.proofs.lemmas.List.{append_cancel_left}
use Rattle.std.proofs.lemmas.List.Elements.{recursion_from_All}
use Rattle.std.specs.List.{AllByRecursion}
use Rattle.slices.specs.CTable.{is_letter, is_digit, is_inside_word}
use Rattle.c_text.specs.Lawful.{is_name, all_inside}
use Rattle.c_text.proofs.Lexing.{all_digits, decimal_digits, decimal_inside}
use Rattle.form_files.specs.Names.{IsIdentifier}
use Rattle.form_kernels.specs.Kernels.{plain_name, marked_name}

-- ---- identifiers are names of C
pub both_true : (a b : Bool) → a ≡ true → b ≡ true → (a && b) ≡ true
both_true a b e f = rw (e, f) refl

first_true : (a b : Bool) → (a && b) ≡ true → a ≡ true
first_true true b h = refl
first_true false b h = cc

second_true : (a b : Bool) → (a && b) ≡ true → b ≡ true
second_true true b h = h
second_true false b h = cc

pass_inside : (bs : List ℕ) → AllByRecursion (λ b. is_inside_word b ≡ true) bs → all_inside bs ≡ true
pass_inside [] h = refl
pass_inside (b ∷ bs) h = both_true (is_inside_word b) (all_inside bs) h.0 (pass_inside bs h.1)

letter_inside : (letter digit : Bool) → letter ≡ true → (letter || digit) ≡ true
letter_inside letter digit e = rw e refl

pub identifier_inside : (name : List ℕ) → IsIdentifier name → all_inside name ≡ true
identifier_inside [] h = absurd h
identifier_inside (b ∷ bs) h =
    both_true (is_inside_word b) (all_inside bs) (letter_inside (is_letter b) (is_digit b) h.0) (pass_inside bs (recursion_from_All _ bs h.1))

inside_more : (bs cs : List ℕ) → all_inside bs ≡ true → all_inside cs ≡ true → all_inside (bs ++ cs) ≡ true
inside_more [] cs h k = k
inside_more (b ∷ bs) cs h k =
    both_true (is_inside_word b) (all_inside (bs ++ cs)) (first_true (is_inside_word b) (all_inside bs) h) (inside_more bs cs (second_true (is_inside_word b) (all_inside bs) h) k)

pub plain_is_name : (name : List ℕ) → IsIdentifier name → is_name (plain_name name) ≡ true
plain_is_name name h = identifier_inside name h

pub marked_is_name : (marker : ℕ) (name : List ℕ) → marker < 2 ^ 64 → IsIdentifier name → is_name (marked_name marker name) ≡ true
marked_is_name marker name small h = inside_more (decimal marker) (codes "_" ++ name) (decimal_inside marker small) (identifier_inside name h)

-- ---- keys
-- a function by its marker, if it has one, and the name of its form
pub record Key : Type 0 where
  pub marker : Option ℕ
  pub name : List ℕ

abbrev pub key : Option ℕ → List ℕ → Key
key x n = record { marker = x; name = n }

abbrev pub key_name : Option ℕ → List ℕ → List ℕ
key_name None name = plain_name name
key_name (Some k) name = marked_name k name

abbrev pub name_by : Key → List ℕ
name_by k = key_name k.marker k.name

-- what stands behind digits that end at the same sign
record SameParts (xs ys ns ms : List ℕ) : Type 0 where
  digits : xs ≡ ys
  rest : ns ≡ ms

no_digit : is_digit 95 ≡ true → ⊥
no_digit h = cc

same_head : (a b : ℕ) (xs ys : List ℕ) → a ∷ xs ≡ b ∷ ys → a ≡ b
same_head a b xs ys h = cc

same_tail : (a b : ℕ) (xs ys : List ℕ) → a ∷ xs ≡ b ∷ ys → xs ≡ ys
same_tail a b xs ys h = cc

digits_apart : (xs ys ns ms : List ℕ) → all_digits xs ≡ true → all_digits ys ≡ true → xs ++ 95 ∷ ns ≡ ys ++ 95 ∷ ms → SameParts xs ys ns ms
digits_apart [] [] ns ms d e h = record { digits = refl; rest = same_tail 95 95 ns ms h }
digits_apart [] (y ∷ ys) ns ms d e h =
    absurd (no_digit (subst (λ b. is_digit b ≡ true) (sym (same_head 95 y ns (ys ++ 95 ∷ ms) h)) (first_true (is_digit y) (all_digits ys) e)))
digits_apart (x ∷ xs) [] ns ms d e h =
    absurd (no_digit (subst (λ b. is_digit b ≡ true) (same_head x 95 (xs ++ 95 ∷ ns) ms h) (first_true (is_digit x) (all_digits xs) d)))
digits_apart (x ∷ xs) (y ∷ ys) ns ms d e h =
    let p = digits_apart xs ys ns ms (second_true (is_digit x) (all_digits xs) d) (second_true (is_digit y) (all_digits ys) e) (same_tail x y (xs ++ 95 ∷ ns) (ys ++ 95 ∷ ms) h) in
    record { digits = ap₂ (λ a rest. a ∷ rest) (same_head x y (xs ++ 95 ∷ ns) (ys ++ 95 ∷ ms) h) p.digits; rest = p.rest }

abbrev pub IsSmall : Option ℕ → Type 0
IsSmall None = Unit {0}
IsSmall (Some k) = k < 2 ^ 64

third : (a b c x y z : ℕ) (xs ys : List ℕ) → a ∷ b ∷ c ∷ xs ≡ x ∷ y ∷ z ∷ ys → c ≡ z
third a b c x y z xs ys h = cc

not_equal : ◌≡◌ {A = ℕ} 99 109 → ⊥
not_equal h = omega (arith, h)

plain_marked : (k : ℕ) (n m : List ℕ) → plain_name n ≡ marked_name k m → ⊥
plain_marked k n m h = not_equal (third 102 102 99 102 102 109 (95 ∷ n) (decimal k ++ (codes "_" ++ m)) h)

-- one name has one key
pub one_key : (x y : Option ℕ) (n m : List ℕ) → IsSmall x → IsSmall y → key_name x n ≡ key_name y m → key x n ≡ key y m
one_key None None n m a b h = ap (key None) (append_cancel_left (codes "ffc_") n m h)
one_key None (Some k) n m a b h = absurd (plain_marked k n m h)
one_key (Some j) None n m a b h = absurd (plain_marked j m n (sym h))
one_key (Some j) (Some k) n m a b h =
    let p = digits_apart (decimal j) (decimal k) n m (decimal_digits j a) (decimal_digits k b) (append_cancel_left (codes "ffm") (decimal j ++ 95 ∷ n) (decimal k ++ 95 ∷ m) h) in
    ap₂ (λ u v. key (Some u) v) (decimal_injective j k a b p.digits) p.rest
