-- What the columns, rows and entries of a kernel are
use Rattle.std.proofs.Common.{◌≡◌, ℕ, refl, sym, ◌∙◌, ap, ap₂, List, [], ◌∷◌, ◌++◌, map, append-nil}
use Rattle.std.specs.List.{flat_map}
use Rattle.std.proofs.lemmas.List.{map-append}
use Rattle.std.proofs.lemmas.List.Folds.{flat_map-map}
use Rattle.std.proofs.lemmas.Grind.{flat_map-append}
use Rattle.std.proofs.lemmas.Simd.{map-map}
use Rattle.algebra.specs.Fraction.{Fraction, fractions, zero_fraction, one_fraction, add, mul, absolute, mul_assoc, mul_one, add_zero, add_assoc}
use Rattle.algebra.specs.RingLaws as L
use Rattle.algebra.specs.Solver.{at, ◌⊕◌, ◌⊗◌}
use Rattle.algebra.specs.Sound.{ring}
use Rattle.algebra.specs.Sums.{total}
use Rattle.calculus.specs.Simplex.{Simplex, volume}
use Rattle.room.specs.Columns.{extended, repeated, grown, weighted, column_values}
use Rattle.refint.specs.Digits.{columns, dot}
use Rattle.refint.specs.Reference.{growths}
use Rattle.room.specs.Adding.{Adding, Term, Plus, onto, added}
use Rattle.room.specs.Rows.{EntryPart, row_products, sum_of, part_products, part_value, entry_from, entry_sum}

-- ---- lists of lists
map_same : {A B : Type 0} (f g : A → B) → ((x : A) → f x ≡ g x) → (xs : List A) → map f xs ≡ map g xs
map_same f g h [] = refl
map_same f g h (x ∷ xs) = ap₂ (λ y ys. y ∷ ys) (h x) (map_same f g h xs)

flat_same : {A B : Type 0} (f g : A → List B) → ((x : A) → f x ≡ g x) → (xs : List A) → flat_map f xs ≡ flat_map g xs
flat_same f g h [] = refl
flat_same f g h (x ∷ xs) = ap₂ ◌++◌ (h x) (flat_same f g h xs)

map_of_flat : {A B C : Type 0} (f : B → C) (g : A → List B) (xs : List A) → map f (flat_map g xs) ≡ flat_map (λ x. map f (g x)) xs
map_of_flat f g [] = refl
map_of_flat f g (x ∷ xs) = map-append f (g x) (flat_map g xs) ∙ ap (λ ys. map f (g x) ++ ys) (map_of_flat f g xs)

flat_of_flat : {A B C : Type 0} (f : B → List C) (g : A → List B) (xs : List A) → flat_map f (flat_map g xs) ≡ flat_map (λ x. flat_map f (g x)) xs
flat_of_flat f g [] = refl
flat_of_flat f g (x ∷ xs) = flat_map-append f (g x) (flat_map g xs) ∙ ap (λ ys. flat_map f (g x) ++ ys) (flat_of_flat f g xs)

-- ---- columns
by_one : (xs : List Fraction) → xs ≡ flat_map (λ x. map (mul x) (one_fraction ∷ [])) xs
by_one [] = refl
by_one (x ∷ xs) = ap₂ (λ y ys. y ∷ ys) (sym (mul_one x)) (by_one xs)

pub grown_is : (xs : List Fraction) (fs : List (List Fraction)) → grown xs fs ≡ flat_map (λ x. map (mul x) (columns fs)) xs
grown_is xs [] = by_one xs
grown_is xs (f ∷ fs) =
    grown_is (extended xs f) fs
    ∙ flat_of_flat (λ z. map (mul z) (columns fs)) (λ x. map (λ y. mul x y) f) xs
    ∙ flat_same (λ x. flat_map (λ z. map (mul z) (columns fs)) (map (λ y. mul x y) f)) (λ x. map (mul x) (flat_map (λ y. map (mul y) (columns fs)) f)) one xs
  where
    one : (x : Fraction) → flat_map (λ z. map (mul z) (columns fs)) (map (λ y. mul x y) f) ≡ map (mul x) (flat_map (λ y. map (mul y) (columns fs)) f)
    one x =
        flat_map-map (λ z. map (mul z) (columns fs)) (λ y. mul x y) f
        ∙ flat_same (λ y. map (mul (mul x y)) (columns fs)) (λ y. map (mul x) (map (mul y) (columns fs)))
        (λ y. map_same (mul (mul x y)) (λ z. mul x (mul y z)) (λ z. mul_assoc x y z) (columns fs) ∙ sym (map-map (mul x) (mul y) (columns fs))) f
        ∙ sym (map_of_flat (mul x) (λ y. map (mul y) (columns fs)) f)

pub weighted_is : (a : Fraction) (fs gs : List (List Fraction)) → weighted (map (mul a) (columns fs)) gs ≡ map (mul a) (columns (gs ++ fs))
weighted_is a fs [] = refl
weighted_is a fs (g ∷ gs) =
    ap (λ xs. repeated xs g) (weighted_is a fs gs)
    ∙ flat_same (λ y. map (λ x. mul x y) (map (mul a) (columns (gs ++ fs)))) (λ y. map (mul a) (map (mul y) (columns (gs ++ fs)))) one g
    ∙ sym (map_of_flat (mul a) (λ y. map (mul y) (columns (gs ++ fs))) g)
  where
    one : (y : Fraction) → map (λ x. mul x y) (map (mul a) (columns (gs ++ fs))) ≡ map (mul a) (map (mul y) (columns (gs ++ fs)))
    one y =
        map-map (λ x. mul x y) (mul a) (columns (gs ++ fs))
        ∙ map_same (λ x. mul (mul a x) y) (λ x. mul a (mul y x)) (λ x. ring fractions (a ∷ x ∷ y ∷ []) (at 0 ⊗ at 1 ⊗ at 2) (at 0 ⊗ (at 2 ⊗ at 1)) refl) (columns (gs ++ fs))
        ∙ sym (map-map (mul a) (mul y) (columns (gs ++ fs)))

-- the columns of a monomial, coefficients before derivatives in the order of its factors
pub column_values_are : (d : ℕ) (v : Simplex) (is : List ℕ) (ws : List (List Fraction)) → column_values d v is ws ≡ map (mul (absolute (volume v))) (columns (ws ++ map (growths d v) is))
column_values_are d v is ws =
    ap (λ xs. weighted xs ws) (grown_is (absolute (volume v) ∷ []) (map (growths d v) is) ∙ append-nil (map (mul (absolute (volume v))) (columns (map (growths d v) is))))
    ∙ weighted_is (absolute (volume v)) (map (growths d v) is) ws

-- ---- rows
onto_total : (zs : List Fraction) (t : Adding) → added (onto t zs) ≡ add (added t) (total zs)
onto_total [] t = sym (add_zero (added t))
onto_total (z ∷ zs) t = onto_total zs (Plus t (Term z)) ∙ add_assoc (added t) z (total zs)

sum_total : (zs : List Fraction) → added (sum_of zs) ≡ total zs
sum_total [] = refl
sum_total (z ∷ zs) = onto_total zs (Term z)

row_dot : (a : Fraction) (xs cs : List Fraction) → total (row_products xs (map (mul a) cs)) ≡ mul a (dot cs xs)
row_dot a [] [] = sym (L.mul-zero fractions a)
row_dot a [] (c ∷ cs) = sym (L.mul-zero fractions a)
row_dot a (x ∷ xs) [] = sym (L.mul-zero fractions a)
row_dot a (x ∷ xs) (c ∷ cs) =
    ap (add (mul x (mul a c))) (row_dot a xs cs)
    ∙ ring fractions (a ∷ x ∷ c ∷ dot cs xs ∷ []) (at 1 ⊗ (at 0 ⊗ at 2) ⊕ at 0 ⊗ at 3) (at 0 ⊗ (at 2 ⊗ at 1 ⊕ at 3)) refl

pub part_is : (d : ℕ) (v : Simplex) (p : EntryPart) → added (sum_of (part_products d v p)) ≡ part_value d v p
part_is d v p =
    sum_total (part_products d v p)
    ∙ ap (λ ys. total (row_products p.items ys)) (column_values_are d v p.directions p.values)
    ∙ row_dot (absolute (volume v)) p.items (columns (p.values ++ map (growths d v) p.directions))

-- ---- entries
from_is : (d : ℕ) (v : Simplex) (ps : List EntryPart) (t : Adding) → added (entry_from d v t ps) ≡ add (added t) (total (map (part_value d v) ps))
from_is d v [] t = sym (add_zero (added t))
from_is d v (p ∷ ps) t =
    from_is d v ps (Plus t (sum_of (part_products d v p)))
    ∙ ap (λ x. add (add (added t) x) (total (map (part_value d v) ps))) (part_is d v p)
    ∙ add_assoc (added t) (part_value d v p) (total (map (part_value d v) ps))

pub entry_is : (d : ℕ) (v : Simplex) (ps : List EntryPart) → added (entry_sum d v ps) ≡ total (map (part_value d v) ps)
entry_is d v ps = from_is d v ps (Term zero_fraction) ∙ L.zero-add fractions (total (map (part_value d v) ps))
