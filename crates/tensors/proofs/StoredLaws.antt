-- Rows one after the other: which stands at which place
use Rattle.std.proofs.Common.{◌≡◌, ℕ, zero, suc, ◌+◌, ◌*◌, ◌/◌, ◌%◌, ◌<◌, ◌≤◌, Bool, true, false, ◌&&◌, nat_le, nat_lt, ◌-◌, if◌then◌else◌, Option, None, Some, List, [], ◌∷◌, length, map, take, drop, refl, sym, ap, ◌∙◌, subst, arith}
use Rattle.std.specs.Prelude.{slice_index_or, option_and_then}
use Rattle.std.specs.List.{flat_map}
use Rattle.std.proofs.Math.Nat.{div-add-mod, div-lt_iff_lt-mul}
use Rattle.std.proofs.lemmas.Bool.Decides.{nat_tests}
use Rattle.std.proofs.lemmas.List.{length-take-le, length-drop}
use Rattle.std.proofs.lemmas.Nat.{mul-add-lt}
use Rattle.ratio.specs.declared.reduced.Ratio.{Ratio}
use Rattle.refint.specs.Local.{numbers_below}
use Rattle.refint.proofs.Lists.{as_flat}
use Rattle.refint.proofs.Combined.{map_length}
use Rattle.basis_products.specs.Order.{piece}
use Rattle.basis_products.proofs.Lists.{flat_length}
use Rattle.basis_products.proofs.OrderLaws.{below_length, piece_within}
use Rattle.monomial_products.specs.declared.support.Support.{Support}
use Rattle.monomial_products.specs.declared.support.Support.TheVariants.{Everywhere, OnPart, Nowhere}
use Rattle.monomial_products.specs.Supports.{places_at, place_at}
use Rattle.monomial_products.proofs.Pieces.{piece_at}
use Rattle.monomial_products.proofs.PartLaws.{some_is, none_some}
use Rattle.tensors.specs.Stored.{kept_place, kept_or_zeros, stored_row, stored_rows, IsStored}

-- ---- item k of lists of equal length
taken_one : {A : Type 0} (k : ℕ) (xs : List A) (y d : A) → take 1 (drop k xs) ≡ y ∷ [] → slice_index_or xs k d ≡ y
taken_one zero [] y d e = cc
taken_one (suc k) [] y d e = cc
taken_one zero (x ∷ xs) y d e = cc
taken_one (suc k) (x ∷ xs) y d e = taken_one k xs y d e

pub row_at : {A : Type 0} (f : ℕ → ℕ → A) (r q a b : ℕ) (d : A) → a < r → b < q
    → slice_index_or (flat_map (λ i. map (f i) (numbers_below q)) (numbers_below r)) (q * a + b) d ≡ f a b
row_at f r q a b d h m =
    taken_one (q * a + b) (flat_map (λ i. map (f i) (numbers_below q)) (numbers_below r)) (f a b) d
    (ap (λ k. take 1 (drop k (flat_map (λ i. map (f i) (numbers_below q)) (numbers_below r)))) (place q a b)
    ∙ piece_at 1 q r a b (λ i. map (f i) (numbers_below q)) (λ t. map_length (f t) (numbers_below q) ∙ below_length q ∙ one q) h m
    ∙ ap (piece 1 b) (as_flat (f a) (numbers_below q))
    ∙ ap (λ k. piece 1 k (flat_map (λ x. f a x ∷ []) (numbers_below q))) (same b)
    ∙ piece_at 1 1 q b 0 (λ x. f a x ∷ []) (λ t. refl) m (omega arith))
  where
    place : (q a b : ℕ) → q * a + b ≡ (a * q + b) * 1
    place q a b = omega arith

    one : (q : ℕ) → q ≡ q * 1
    one q = omega arith

    same : (b : ℕ) → b ≡ b * 1 + 0
    same b = omega arith

pub rows_length : {A : Type 0} (f : ℕ → ℕ → A) (r q : ℕ) → length (flat_map (λ i. map (f i) (numbers_below q)) (numbers_below r)) ≡ r * q
rows_length f r q = flat_length (λ i. map (f i) (numbers_below q)) q (λ i. map_length (f i) (numbers_below q) ∙ below_length q) r

-- ---- kept rows
pub place_below : (s : Support) (a t : ℕ) → place_at s a ≡ Some t → t < places_at s
place_below Everywhere a t e = omega (arith, some_is _ t e)
place_below (OnPart p) a t e = go (nat_le p.offset a) (nat_lt (a - p.offset) p.nodes) refl e
  where
    go : (b c : Bool) → nat_lt (a - p.offset) p.nodes ≡ c → (if b && c then Some (a - p.offset) else None) ≡ Some t → t < p.nodes
    go true true h e = subst (λ k. k < p.nodes) (some_is _ t e) (grind (arith, nat_tests))
    go true false h e = absurd (none_some t e)
    go false c h e = absurd (none_some t e)
place_below Nowhere a t e = absurd (none_some t e)

-- a row that is kept is that of a place of each support
pub record IsKeptAt (tests trials : Support) (a b p : ℕ) : Type 0 where
  pub t : ℕ
  pub u : ℕ
  pub test : place_at tests a ≡ Some t
  pub trial : place_at trials b ≡ Some u
  pub place : p ≡ t * places_at trials + u

pub kept_at : (tests trials : Support) (a b p : ℕ) → kept_place tests trials a b ≡ Some p → IsKeptAt tests trials a b p
kept_at tests trials a b p e = go (place_at tests a) (place_at trials b) refl refl e
  where
    go : (o i : Option ℕ) → place_at tests a ≡ o → place_at trials b ≡ i
        → option_and_then (λ t. option_and_then (λ u. Some (t * places_at trials + u)) i) o ≡ Some p → IsKeptAt tests trials a b p
    go None i h g e = absurd (none_some p e)
    go (Some t) None h g e = absurd (none_some p e)
    go (Some t) (Some u) h g e = record { t = t; u = u; test = h; trial = g; place = sym (some_is _ p e) }

pub place_within : (tests trials : Support) (a b p : ℕ) → kept_place tests trials a b ≡ Some p → p < places_at tests * places_at trials
place_within tests trials a b p e =
    let w = kept_at tests trials a b p e in
    subst (λ k. k < places_at tests * places_at trials) (sym w.place)
    (omega (arith, mul-add-lt w.t (places_at trials) w.u (places_at tests) (place_below tests a w.t w.test) (place_below trials b w.u w.trial)))

-- ---- the rows of a tensor
module _ (tests trials : Support) (rows cols columns : ℕ) (items zeros : List Ratio) where
  pub stored_length : length (stored_rows tests trials rows cols columns items zeros) ≡ rows * cols
  unfolding stored_rows
  stored_length = rows_length (stored_row tests trials columns items zeros) rows cols

  at : (a b : ℕ) → a < rows → b < cols → slice_index_or (stored_rows tests trials rows cols columns items zeros) (cols * a + b) [] ≡ stored_row tests trials columns items zeros a b
  unfolding stored_rows
  at a b h g = row_at (stored_row tests trials columns items zeros) rows cols a b [] h g

  pub stored_at : (k : ℕ) → 0 < cols → k < length (stored_rows tests trials rows cols columns items zeros)
      → slice_index_or (stored_rows tests trials rows cols columns items zeros) k [] ≡ stored_row tests trials columns items zeros (k / cols) (k % cols)
  stored_at k some h =
      ap (λ n. slice_index_or (stored_rows tests trials rows cols columns items zeros) n []) (sym (div-add-mod k cols))
      ∙ at (k / cols) (k % cols) ((div-lt_iff_lt-mul some).1 (subst (λ n. k < n) stored_length h)) (omega arith)

  pub stored_fits : IsStored tests trials rows cols columns items zeros → (a b p : ℕ) → kept_place tests trials a b ≡ Some p → suc p * columns ≤ length items
  stored_fits s a b p e = omega (arith, s.kept, piece_within columns p (places_at tests * places_at trials) (place_within tests trials a b p e))

  pub stored_size : IsStored tests trials rows cols columns items zeros → (a b : ℕ) → length (stored_row tests trials columns items zeros a b) ≡ columns
  stored_size s a b = go (kept_place tests trials a b) refl
    where
      go : (o : Option ℕ) → kept_place tests trials a b ≡ o → length (kept_or_zeros columns items zeros o) ≡ columns
      go None e = s.zero_row
      go (Some p) e = length-take-le columns (drop (p * columns) items) (omega (arith, stored_fits s a b p e, length-drop (p * columns) items))
