-- Multiples of rows, and rows over their first items that aren't 0
use Rattle.std.proofs.Common.{◌≡◌, List, [], ◌∷◌, map, Bool, true, false, ◌&&◌, ◌||◌, if◌then◌else◌, refl, sym, ap, ap₂, ◌∙◌}
use Rattle.algebra.specs.Fraction.{Fraction, add, fractions, inverse, is_zero_fraction, mul, mul_assoc, mul_comm, mul_inverse, mul_one, negative, add_negative, one_fraction, zero_fraction}
use Rattle.algebra.specs.RingLaws as L
use Rattle.algebra.proofs.InverseLaws.{inverse-mul, is_zero-mul, zero_is_zero}
use Rattle.algebra.proofs.OrderLaws.{zero_from_test}
use Rattle.refint.proofs.Lists.{map_map, map_same}
use Rattle.kernel_statements.specs.Counted.{is_multiple, is_same, is_scaled, is_zero_row, leading, multiplier, shape}

-- ---- tests
apart : {A : Type 0} → true ≡ false → A
apart e = absurd (cc)

both : (a b : Bool) → a && b ≡ true → (a ≡ true) × (b ≡ true)
both true true e = (refl, refl)
both true false e = apart (sym e)
both false b e = apart (sym e)

pub same_from_test : (x y : Fraction) → is_same x y ≡ true → x ≡ y
same_from_test x y e = L.same_from_difference fractions x y (zero_from_test (add x (negative y)) e)

pub same_test : (x y : Fraction) → x ≡ y → is_same x y ≡ true
same_test x y e = ap (λ z. is_zero_fraction (add z (negative y))) e ∙ ap is_zero_fraction (add_negative y) ∙ zero_is_zero

-- ---- what a multiple is
pub from_scaled : (k : Fraction) (xs ys : List Fraction) → is_scaled k xs ys ≡ true → map (mul k) xs ≡ ys
from_scaled k [] [] e = refl
from_scaled k [] (y ∷ ys) e = apart (sym e)
from_scaled k (x ∷ xs) [] e = apart (sym e)
from_scaled k (x ∷ xs) (y ∷ ys) e =
    let h = both (is_same (mul k x) y) (is_scaled k xs ys) e in
    ap₂ ◌∷◌ (same_from_test (mul k x) y h.0) (from_scaled k xs ys h.1)

pub to_scaled : (k : Fraction) (xs ys : List Fraction) → map (mul k) xs ≡ ys → is_scaled k xs ys ≡ true
to_scaled k xs ys e = ap (is_scaled k xs) (sym e) ∙ itself k xs
  where
    itself : (k : Fraction) (xs : List Fraction) → is_scaled k xs (map (mul k) xs) ≡ true
    itself k [] = refl
    itself k (x ∷ xs) = ap₂ ◌&&◌ (same_test (mul k x) (mul k x) refl) (itself k xs)

undone : (k x : Fraction) → is_zero_fraction x ≡ false → mul (mul k x) (inverse x) ≡ k
undone k x h = mul_assoc k x (inverse x) ∙ ap (mul k) (mul_inverse x h) ∙ mul_one k

pub multiplier_of : (k : Fraction) (xs : List Fraction) → is_zero_row xs ≡ false → multiplier xs (map (mul k) xs) ≡ k
multiplier_of k [] h = apart h
multiplier_of k (x ∷ xs) h = go (is_zero_fraction x) refl h (multiplier_of k xs)
  where
    go : (b : Bool) → is_zero_fraction x ≡ b → b && is_zero_row xs ≡ false → (is_zero_row xs ≡ false → multiplier xs (map (mul k) xs) ≡ k)
        → (if b then multiplier xs (map (mul k) xs) else mul (mul k x) (inverse x)) ≡ k
    go true e h rest = rest h
    go false e h rest = undone k x e

pub multiple_from : (k : Fraction) (xs ys : List Fraction) → is_zero_row xs ≡ false → map (mul k) xs ≡ ys → is_multiple xs ys ≡ true
multiple_from k xs ys h e = to_scaled (multiplier xs ys) xs ys (ap (λ l. map (mul l) xs) (ap (multiplier xs) (sym e) ∙ multiplier_of k xs h) ∙ e)

pub multiple_is : (xs ys : List Fraction) → is_multiple xs ys ≡ true → map (mul (multiplier xs ys)) xs ≡ ys
multiple_is xs ys e = from_scaled (multiplier xs ys) xs ys e

-- ---- first items that aren't 0
zero_left : (k x : Fraction) → is_zero_fraction x ≡ true → mul k x ≡ zero_fraction
zero_left k x e = ap (mul k) (zero_from_test x e) ∙ L.mul-zero fractions k

pub leading_some : (xs : List Fraction) → is_zero_row xs ≡ false → is_zero_fraction (leading xs) ≡ false
leading_some [] h = apart h
leading_some (x ∷ xs) h = go (is_zero_fraction x) refl h (leading_some xs)
  where
    go : (b : Bool) → is_zero_fraction x ≡ b → b && is_zero_row xs ≡ false → (is_zero_row xs ≡ false → is_zero_fraction (leading xs) ≡ false)
        → is_zero_fraction (if b then leading xs else x) ≡ false
    go true e h rest = rest h
    go false e h rest = e

-- that of a multiple
pub leading_scaled : (k : Fraction) (xs : List Fraction) → leading (map (mul k) xs) ≡ mul k (leading xs)
leading_scaled k [] = sym (L.mul-zero fractions k)
leading_scaled k (x ∷ xs) = go (is_zero_fraction k) (is_zero_fraction x) refl refl (leading_scaled k xs)
  where
    nothing : (k : Fraction) (xs : List Fraction) → is_zero_fraction k ≡ true → leading (map (mul k) xs) ≡ zero_fraction
    nothing k [] e = refl
    nothing k (x ∷ xs) e =
        ap (λ b. if b then leading (map (mul k) xs) else mul k x) (is_zero-mul k x ∙ ap (λ b. b || is_zero_fraction x) e) ∙ nothing k xs e

    go : (a b : Bool) → is_zero_fraction k ≡ a → is_zero_fraction x ≡ b → leading (map (mul k) xs) ≡ mul k (leading xs)
        → (if is_zero_fraction (mul k x) then leading (map (mul k) xs) else mul k x) ≡ mul k (if is_zero_fraction x then leading xs else x)
    go true b e f rest =
        nothing k (x ∷ xs) e ∙ sym (ap (λ z. mul z (leading (x ∷ xs))) (zero_from_test k e) ∙ mul_comm zero_fraction (leading (x ∷ xs)) ∙ L.mul-zero fractions (leading (x ∷ xs)))
    go false true e f rest =
        ap (λ t. if t then leading (map (mul k) xs) else mul k x) (is_zero-mul k x ∙ ap₂ ◌||◌ e f) ∙ rest
        ∙ ap (λ t. mul k (if t then leading xs else x)) (sym f)
    go false false e f rest =
        ap (λ t. if t then leading (map (mul k) xs) else mul k x) (is_zero-mul k x ∙ ap₂ ◌||◌ e f)
        ∙ ap (λ t. mul k (if t then leading xs else x)) (sym f)

-- a multiple that isn't zero comes from a row and a number that aren't
pub zero_scaled : (k : Fraction) (xs : List Fraction) → is_zero_fraction k ≡ true → is_zero_row (map (mul k) xs) ≡ true
zero_scaled k [] e = refl
zero_scaled k (x ∷ xs) e = ap₂ ◌&&◌ (is_zero-mul k x ∙ ap (λ b. b || is_zero_fraction x) e) (zero_scaled k xs e)

some_factor : (k : Fraction) (xs : List Fraction) → is_zero_row (map (mul k) xs) ≡ false → is_zero_fraction k ≡ false
some_factor k xs h = go (is_zero_fraction k) refl
  where
    go : (b : Bool) → is_zero_fraction k ≡ b → b ≡ false
    go true e = apart (sym (zero_scaled k xs e) ∙ h)
    go false e = refl

-- the multiplier from the first items
pub multiplier_leading : (xs ys : List Fraction) → is_zero_row xs ≡ false → is_multiple xs ys ≡ true → multiplier xs ys ≡ mul (leading ys) (inverse (leading xs))
multiplier_leading xs ys h e =
    sym (undone (multiplier xs ys) (leading xs) (leading_some xs h))
    ∙ ap (λ y. mul y (inverse (leading xs))) (sym (leading_scaled (multiplier xs ys) xs) ∙ ap leading (multiple_is xs ys e))

-- ---- shapes
unshaped : (xs : List Fraction) → is_zero_row xs ≡ false → map (mul (leading xs)) (shape xs) ≡ xs
unshaped xs h =
    map_map (mul (leading xs)) (λ x. mul x (inverse (leading xs))) xs ∙ map_same _ (λ x. x) (λ x. back x) xs ∙ whole xs
  where
    back : (x : Fraction) → mul (leading xs) (mul x (inverse (leading xs))) ≡ x
    back x = mul_comm (leading xs) (mul x (inverse (leading xs))) ∙ mul_assoc x (inverse (leading xs)) (leading xs)
        ∙ ap (mul x) (mul_comm (inverse (leading xs)) (leading xs) ∙ mul_inverse (leading xs) (leading_some xs h)) ∙ mul_one x

    whole : (xs : List Fraction) → map (λ x. x) xs ≡ xs
    whole [] = refl
    whole (x ∷ xs) = ap (λ l. x ∷ l) (whole xs)

pub multiple_by_shape : (xs ys : List Fraction) → is_zero_row xs ≡ false → is_zero_row ys ≡ false → shape xs ≡ shape ys → is_multiple xs ys ≡ true
multiple_by_shape xs ys h g e =
    multiple_from (mul (leading ys) (inverse (leading xs))) xs ys h
    (map_same _ _ (λ x. turned x) xs ∙ sym (map_map (mul (leading ys)) (λ x. mul x (inverse (leading xs))) xs) ∙ ap (map (mul (leading ys))) e ∙ unshaped ys g)
  where
    turned : (x : Fraction) → mul (mul (leading ys) (inverse (leading xs))) x ≡ mul (leading ys) (mul x (inverse (leading xs)))
    turned x = mul_assoc (leading ys) (inverse (leading xs)) x ∙ ap (mul (leading ys)) (mul_comm (inverse (leading xs)) x)

pub shape_of_multiple : (xs ys : List Fraction) → is_zero_row xs ≡ false → is_zero_row ys ≡ false → is_multiple xs ys ≡ true → shape xs ≡ shape ys
shape_of_multiple xs ys h g e =
    sym (map_same _ _ (λ x. cancelled x) xs)
    ∙ sym (map_map (λ y. mul y (inverse (leading (map (mul k) xs)))) (mul k) xs)
    ∙ ap shape (multiple_is xs ys e)
  where
    k : Fraction
    k = multiplier xs ys

    some : is_zero_fraction k ≡ false
    some = some_factor k xs (ap is_zero_row (multiple_is xs ys e) ∙ g)

    inverted : inverse (leading (map (mul k) xs)) ≡ mul (inverse k) (inverse (leading xs))
    inverted = ap inverse (leading_scaled k xs) ∙ inverse-mul k (leading xs)

    cancelled : (x : Fraction) → mul (mul k x) (inverse (leading (map (mul k) xs))) ≡ mul x (inverse (leading xs))
    cancelled x =
        ap₂ mul (mul_comm k x) inverted ∙ mul_assoc x k (mul (inverse k) (inverse (leading xs)))
        ∙ ap (mul x) (sym (mul_assoc k (inverse k) (inverse (leading xs))) ∙ ap (λ z. mul z (inverse (leading xs))) (mul_inverse k some) ∙ mul_comm one_fraction (inverse (leading xs)) ∙ mul_one (inverse (leading xs)))

-- ---- which rows are zero
pub scaled_zero : (k : Fraction) (xs : List Fraction) → is_zero_row xs ≡ true → is_zero_row (map (mul k) xs) ≡ true
scaled_zero k [] h = refl
scaled_zero k (x ∷ xs) h =
    let t = both (is_zero_fraction x) (is_zero_row xs) h in
    ap₂ ◌&&◌ (ap is_zero_fraction (zero_left k x t.0) ∙ zero_is_zero) (scaled_zero k xs t.1)

-- a row that has the shape of one that isn't zero isn't zero, and nor is one that has it as a multiple
some_shape : (xs ys : List Fraction) → is_zero_row ys ≡ false → shape xs ≡ shape ys → is_zero_row xs ≡ false
some_shape xs ys h e = go (is_zero_row xs) refl
  where
    zero_shape : is_zero_row xs ≡ true → is_zero_row (shape xs) ≡ true
    zero_shape z = ap is_zero_row (map_same _ _ (λ x. mul_comm x (inverse (leading xs))) xs) ∙ scaled_zero (inverse (leading xs)) xs z

    go : (b : Bool) → is_zero_row xs ≡ b → b ≡ false
    go true z = apart (sym (scaled_zero (leading ys) (shape ys) (ap is_zero_row (sym e) ∙ zero_shape z)) ∙ ap is_zero_row (unshaped ys h) ∙ h)
    go false z = refl

some_base : (xs ys : List Fraction) → is_zero_row ys ≡ false → is_multiple xs ys ≡ true → is_zero_row xs ≡ false
some_base xs ys h e = go (is_zero_row xs) refl
  where
    go : (b : Bool) → is_zero_row xs ≡ b → b ≡ false
    go true z = apart (sym (scaled_zero (multiplier xs ys) xs z) ∙ ap is_zero_row (multiple_is xs ys e) ∙ h)
    go false z = refl

-- of a row that isn't zero: it is a multiple exactly of those of its shape
pub same_shape : (xs ys : List Fraction) → is_zero_row ys ≡ false → shape xs ≡ shape ys → is_multiple xs ys ≡ true
same_shape xs ys h e = multiple_by_shape xs ys (some_shape xs ys h e) h e

pub shape_same : (xs ys : List Fraction) → is_zero_row ys ≡ false → is_multiple xs ys ≡ true → shape xs ≡ shape ys
shape_same xs ys h e = shape_of_multiple xs ys (some_base xs ys h e) h e

pub multiplier_is : (xs ys : List Fraction) → is_zero_row ys ≡ false → is_multiple xs ys ≡ true → multiplier xs ys ≡ mul (leading ys) (inverse (leading xs))
multiplier_is xs ys h e = multiplier_leading xs ys (some_base xs ys h e) e

pub leading_nonzero : (xs ys : List Fraction) → is_zero_row ys ≡ false → is_multiple xs ys ≡ true → is_zero_fraction (leading xs) ≡ false
leading_nonzero xs ys h e = leading_some xs (some_base xs ys h e)

-- a row that isn't zero is a multiple of itself
pub multiple_itself : (xs : List Fraction) → is_zero_row xs ≡ false → is_multiple xs xs ≡ true
multiple_itself xs h = same_shape xs xs h refl
