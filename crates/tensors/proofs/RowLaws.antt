-- The rows of a tensor: which there are, and that they are those that it keeps
use Rattle.std.proofs.Common.{◌≡◌, ℕ, zero, suc, ◌+◌, ◌-◌, ◌*◌, ◌^◌, ◌<◌, ◌≤◌, Bool, true, false, ◌==◌, ◌&&◌, ◌||◌, not, nat_le, nat_lt, if◌then◌else◌, List, [], ◌∷◌, Option, None, Some, length, map, take, drop, refl, sym, ap, ap₂, ◌∙◌, subst, lit≤, arith}
use Rattle.std.specs.Prelude.{slice_get, slice_index_or, option_and_then}
use Rattle.std.specs.List.{flat_map, AllByRecursion}
use Rattle.std.proofs.lemmas.Bool.Decides.{nat_tests}
use Rattle.std.proofs.lemmas.List.{take-map, drop-map}
use native.Mathlib.Nat as N
use Rattle.algebra.specs.Fraction.{Fraction, zero_fraction, is_zero_fraction}
use Rattle.algebra.proofs.OrderLaws.{zero_from_test}
use Rattle.ratio.specs.declared.reduced.Ratio.{Ratio}
use Rattle.ratio.specs.Value.{fraction_of}
use Rattle.spaces.specs.declared.parts.Part.{Part}
use Rattle.ufl_tree.specs.declared.function.Role.{Role}
use Rattle.ufl_tree.specs.declared.function.Role.TheVariants.{Test, Trial}
use Rattle.monos.specs.declared.layout.Layout.{Layout}
use Rattle.monos.specs.declared.mono.Atom.{Atom}
use Rattle.monos.specs.Layout.{IsLawfulLayout, role_parts}
use Rattle.monos.specs.Monomial.{Monomial}
use Rattle.refint.specs.Local.{numbers_below, entries_of}
use Rattle.refint.specs.Reference.{items, digit_lists, node_counts}
use Rattle.refint.proofs.Combined.{map_length}
use Rattle.refint.proofs.Lists.{map_map, map_same, flat_same, map_flat}
use Rattle.basis_products.specs.Order.{piece}
use Rattle.basis_products.proofs.Lists.{flat_length}
use Rattle.monomial_products.specs.declared.support.Support.{Support}
use Rattle.monomial_products.specs.declared.support.Support.TheVariants.{Everywhere, OnPart, Nowhere}
use Rattle.monomial_products.specs.Supports.{is_role, narrowed, support_from, support_of, places_at, place_at, node_at}
use Rattle.monomial_products.specs.Products.{are_alive, has_role}
use Rattle.monomial_products.proofs.JoinedLaws.{inner, inner_same}
use Rattle.monomial_products.proofs.PartLaws.{some_is, none_some}
use Rattle.monomial_products.proofs.Pieces.{piece_at}
use Rattle.monomial_items.specs.Integrals.{integrals_of}
use Rattle.monomial_items.specs.Kept.{tests_of, kept_items}
use Rattle.monomial_items.proofs.ItemLaws.{items_are}
use Rattle.monomial_items.proofs.ZeroLaws.{number_zero}
use Rattle.monomial_weights.specs.Columns.{column_count}
use Rattle.monomial_weights.proofs.ColumnLaws.{items_counted}
use Rattle.tensors.specs.Rows.{rows_of, fractions_of, AreZero}
use Rattle.tensors.specs.Stored.{kept_place, kept_or_zeros, stored_row, stored_rows, IsStored}
use Rattle.tensors.proofs.EntryLaws.{entries_few, entries_some}
use Rattle.tensors.proofs.ExhaustedLaws.{dead_zero}
use Rattle.tensors.proofs.OutsideLaws.{outside_tests, outside_trials}
use Rattle.tensors.proofs.StoredLaws.{row_at, rows_length, place_below, kept_at}

pub rows_at : (l : Layout) (m : Monomial) (a b : ℕ) → a < entries_of l.rows → b < entries_of l.cols → slice_index_or (rows_of l m) (entries_of l.cols * a + b) [] ≡ items l m a b
unfolding rows_of
rows_at l m a b h g = row_at (items l m) (entries_of l.rows) (entries_of l.cols) a b [] h g

pub rows_counted : (l : Layout) (m : Monomial) → length (rows_of l m) ≡ entries_of l.rows * entries_of l.cols
unfolding rows_of
rows_counted l m = rows_length (items l m) (entries_of l.rows) (entries_of l.cols)

-- ---- nodes that rows don't depend on
items_same : (l : Layout) (m : Monomial) (a b c e : ℕ) → (has_role Test m.atoms ≡ true → a ≡ c) → (has_role Trial m.atoms ≡ true → b ≡ e) → items l m a b ≡ items l m c e
items_same l m a b c e h g =
    items_are l m a b
    ∙ ap (λ ps. integrals_of l.d m.c ps) (flat_same (inner l a b m.atoms) (inner l c e m.atoms) (inner_same l a b c e m.atoms h g) (digit_lists (node_counts l m.atoms)))
    ∙ sym (items_are l m c e)

narrowed_less : (s : Support) (o : Option Part) → narrowed s o ≡ Everywhere → ⊥
narrowed_less Everywhere None e = cc
narrowed_less Everywhere (Some p) e = cc
narrowed_less (OnPart q) None e = cc
narrowed_less (OnPart q) (Some p) e = go (q.offset == p.offset) e
  where
    go : (b : Bool) → (if b then OnPart q else Nowhere) ≡ Everywhere → ⊥
    go true e = cc
    go false e = cc
narrowed_less Nowhere None e = cc
narrowed_less Nowhere (Some p) e = cc

module _ (l : Layout) (r : Role) where
  stays_less : (s : Support) (xs : List Atom) → (s ≡ Everywhere → ⊥) → support_from s l r xs ≡ Everywhere → ⊥
  stays_less s [] h e = h e
  stays_less s (x ∷ xs) h e = go (is_role x.f.role r) e (λ n. stays_less n xs)
    where
      go : (b : Bool) → support_from (if b then narrowed s (slice_get (role_parts l r) x.component) else s) l r xs ≡ Everywhere
          → ((n : Support) → (n ≡ Everywhere → ⊥) → support_from n l r xs ≡ Everywhere → ⊥) → ⊥
      go true e rest = rest (narrowed s (slice_get (role_parts l r) x.component)) (narrowed_less s (slice_get (role_parts l r) x.component)) e
      go false e rest = rest s h e

  everywhere_none : (xs : List Atom) → support_of l r xs ≡ Everywhere → has_role r xs ≡ true → ⊥
  everywhere_none [] e h = apart h
    where
      apart : false ≡ true → ⊥
      apart e = cc
  everywhere_none (x ∷ xs) e h = go (is_role x.f.role r) e h (everywhere_none xs)
    where
      go : (b : Bool) → support_from (if b then narrowed Everywhere (slice_get (role_parts l r) x.component) else Everywhere) l r xs ≡ Everywhere → (b || has_role r xs) ≡ true
          → (support_of l r xs ≡ Everywhere → has_role r xs ≡ true → ⊥) → ⊥
      go true e h rest =
          stays_less (narrowed Everywhere (slice_get (role_parts l r) x.component)) xs (narrowed_less Everywhere (slice_get (role_parts l r) x.component)) e
      go false e h rest = rest e h

-- a place's node is the node that it is of
node_is : (s : Support) (a t : ℕ) → place_at s a ≡ Some t → (s ≡ Everywhere → ⊥) → node_at s t ≡ a
node_is Everywhere a t e h = absurd (h refl)
node_is (OnPart p) a t e h = go (nat_le p.offset a) (nat_lt (a - p.offset) p.nodes) refl e
  where
    back : (o a t : ℕ) → nat_le o a ≡ true → a - o ≡ t → o + t ≡ a
    back o a t g f = grind (arith, nat_tests)

    go : (b c : Bool) → nat_le p.offset a ≡ b → (if b && c then Some (a - p.offset) else None) ≡ Some t → p.offset + t ≡ a
    go true true g e = back p.offset a t g (some_is _ t e)
    go true false g e = absurd (none_some t e)
    go false c g e = absurd (none_some t e)
node_is Nowhere a t e h = absurd (none_some t e)

chosen_everywhere : (b : Bool) (s : Support) → (if b then s else Nowhere) ≡ Everywhere → s ≡ Everywhere
chosen_everywhere true s e = e
chosen_everywhere false s e = absurd (apart e)
  where
    apart : Nowhere ≡ Everywhere → ⊥
    apart e = cc

-- ---- a piece of the kept items
whole_take : {A : Type 0} (n : ℕ) (xs : List A) → length xs ≡ n → take n xs ≡ xs
whole_take zero [] e = refl
whole_take zero (x ∷ xs) e = absurd (omega (arith, e))
whole_take (suc n) [] e = refl
whole_take (suc n) (x ∷ xs) e = ap (λ r. x ∷ r) (whole_take n xs (omega (arith, e)))

whole_piece : {A : Type 0} (n : ℕ) (xs : List A) → length xs ≡ n → piece n 0 xs ≡ xs
whole_piece n xs e = ap (λ k. take n (drop k xs)) (N.zero-mul n) ∙ ap (take n) (whole xs) ∙ whole_take n xs e
  where
    whole : {A : Type 0} (xs : List A) → drop 0 xs ≡ xs
    whole [] = refl
    whole (x ∷ xs) = refl

abbrev kept_row : Layout → Support → Support → Monomial → ℕ → ℕ → List Fraction
kept_row l tests trials m i j = items l m (node_at tests i) (node_at trials j)

kept_piece : (l : Layout) (tests trials : Support) (m : Monomial) (t u : ℕ) → t < places_at tests → u < places_at trials
    → piece (column_count l m.atoms) (t * places_at trials + u) (kept_items l tests trials m) ≡ items l m (node_at tests t) (node_at trials u)
kept_piece l tests trials m t u h g =
    piece_at (column_count l m.atoms) (places_at trials) (places_at tests) t u (λ i. flat_map (kept_row l tests trials m i) (numbers_below (places_at trials)))
    (λ i. flat_length (kept_row l tests trials m i) (column_count l m.atoms) (λ j. items_counted l m (node_at tests i) (node_at trials j)) (places_at trials)) h g
    ∙ ap (λ k. piece (column_count l m.atoms) k (flat_map (kept_row l tests trials m t) (numbers_below (places_at trials)))) (same u)
    ∙ piece_at (column_count l m.atoms) 1 (places_at trials) u 0 (kept_row l tests trials m t)
    (λ j. items_counted l m (node_at tests t) (node_at trials j) ∙ one (column_count l m.atoms)) g (omega arith)
    ∙ whole_piece (column_count l m.atoms) (kept_row l tests trials m t u) (items_counted l m (node_at tests t) (node_at trials u))
  where
    same : (u : ℕ) → u ≡ u * 1 + 0
    same u = omega arith

    one : (q : ℕ) → q ≡ 1 * q
    one q = omega arith

kept_counted : (l : Layout) (tests trials : Support) (m : Monomial) (kept : List Ratio) → map fraction_of kept ≡ kept_items l tests trials m
    → length kept ≡ places_at tests * places_at trials * column_count l m.atoms
kept_counted l tests trials m kept e =
    sym (map_length fraction_of kept) ∙ ap length e
    ∙ flat_length (λ i. flat_map (kept_row l tests trials m i) (numbers_below (places_at trials))) (places_at trials * column_count l m.atoms)
    (λ i. flat_length (kept_row l tests trials m i) (column_count l m.atoms) (λ j. items_counted l m (node_at tests i) (node_at trials j)) (places_at trials)) (places_at tests)
    ∙ sym (N.mul_assoc (places_at tests) (places_at trials) (column_count l m.atoms))

-- ---- zeros
both_zero : (xs ys : List Fraction) → AreZero xs → AreZero ys → length xs ≡ length ys → xs ≡ ys
both_zero [] [] h g e = refl
both_zero [] (y ∷ ys) h g e = absurd (omega (arith, e))
both_zero (x ∷ xs) [] h g e = absurd (omega (arith, e))
both_zero (x ∷ xs) (y ∷ ys) h g e = ap₂ ◌∷◌ (h.0 ∙ sym g.0) (both_zero xs ys h.1 g.1 (omega (arith, e)))

mapped_zero : (xs : List Ratio) → AllByRecursion (λ x. fraction_of x ≡ zero_fraction) xs → AreZero (map fraction_of xs)
mapped_zero [] h = tt
mapped_zero (x ∷ xs) h = (h.0, mapped_zero xs h.1)

-- ---- what is kept of a monomial
pub record AreKept (l : Layout) (m : Monomial) (tests trials : Support) (columns : ℕ) (kept zeros : List Ratio) : Type 0 where
  pub tests_are : tests ≡ tests_of l m
  pub trials_are : trials ≡ support_of l Trial m.atoms
  pub columns_are : columns ≡ column_count l m.atoms
  pub kept_are : map fraction_of kept ≡ kept_items l tests trials m
  pub are_zeros : AllByRecursion (λ x. fraction_of x ≡ zero_fraction) zeros
  pub count : length zeros ≡ columns

module _ (l : Layout) (m : Monomial) (tests trials : Support) (columns : ℕ) (kept zeros : List Ratio) (lawful : IsLawfulLayout l) (k : AreKept l m tests trials columns kept zeros) where
  outside : (a b : ℕ) → place_at tests a ≡ None → AreZero (items l m a b)
  outside a b e = go (is_zero_fraction m.c) (are_alive l m.atoms) refl refl (ap (λ s. place_at s a) (sym k.tests_are) ∙ e)
    where
      go : (z v : Bool) → is_zero_fraction m.c ≡ z → are_alive l m.atoms ≡ v → place_at (if not z && v then support_of l Test m.atoms else Nowhere) a ≡ None → AreZero (items l m a b)
      go true v h g e = number_zero l m (zero_from_test m.c h) a b
      go false true h g e = outside_tests l lawful m a b e
      go false false h g e = dead_zero l lawful m g a b

  zeros_are : (a b : ℕ) → AreZero (items l m a b) → map fraction_of zeros ≡ items l m a b
  zeros_are a b h = both_zero (map fraction_of zeros) (items l m a b) (mapped_zero zeros k.are_zeros) h (map_length fraction_of zeros ∙ k.count ∙ k.columns_are ∙ sym (items_counted l m a b))

  piece_is : (a b p : ℕ) → kept_place tests trials a b ≡ Some p → map fraction_of (piece columns p kept) ≡ items l m a b
  piece_is a b p e =
      let w = kept_at tests trials a b p e in
      sym (take-map fraction_of columns (drop (p * columns) kept))
      ∙ ap (take columns) (sym (drop-map fraction_of (p * columns) kept))
      ∙ ap (piece columns p) k.kept_are
      ∙ ap₂ (λ n i. piece n i (kept_items l tests trials m)) k.columns_are w.place
      ∙ kept_piece l tests trials m w.t w.u (place_below tests a w.t w.test) (place_below trials b w.u w.trial)
      ∙ items_same l m (node_at tests w.t) (node_at trials w.u) a b
      (λ h. node_is tests a w.t w.test (λ g. everywhere_none l Test m.atoms (chosen_everywhere (not (is_zero_fraction m.c) && are_alive l m.atoms) (support_of l Test m.atoms) (sym k.tests_are ∙ g)) h))
      (λ h. node_is trials b w.u w.trial (λ g. everywhere_none l Trial m.atoms (sym k.trials_are ∙ g) h))

  row_is : (a b : ℕ) → map fraction_of (stored_row tests trials columns kept zeros a b) ≡ items l m a b
  row_is a b = go (place_at tests a) (place_at trials b) refl refl (kept_place tests trials a b) refl
    where
      both : (s t : Option ℕ) → place_at tests a ≡ s → place_at trials b ≡ t → kept_place tests trials a b ≡ option_and_then (λ i. option_and_then (λ j. Some (i * places_at trials + j)) t) s
      both s t h g = ap₂ (λ s t. option_and_then (λ i. option_and_then (λ j. Some (i * places_at trials + j)) t) s) h g

      go : (s t : Option ℕ) → place_at tests a ≡ s → place_at trials b ≡ t → (o : Option ℕ) → kept_place tests trials a b ≡ o → map fraction_of (kept_or_zeros columns kept zeros o) ≡ items l m a b
      go s t h g (Some p) e = piece_is a b p e
      go None t h g None e = zeros_are a b (outside a b h)
      go (Some i) None h g None e = zeros_are a b (outside_trials l lawful m a b (ap (λ s. place_at s b) (sym k.trials_are) ∙ g))
      go (Some i) (Some j) h g None e = absurd (none_some (i * places_at trials + j) (sym e ∙ both (Some i) (Some j) h g))

  rows_are : fractions_of (stored_rows tests trials (entries_of l.rows) (entries_of l.cols) columns kept zeros) ≡ rows_of l m
  unfolding stored_rows rows_of
  rows_are =
      map_flat (map fraction_of) (λ a. map (stored_row tests trials columns kept zeros a) (numbers_below (entries_of l.cols))) (numbers_below (entries_of l.rows))
      ∙ flat_same _ _ (λ a.
      map_map (map fraction_of) (stored_row tests trials columns kept zeros a) (numbers_below (entries_of l.cols))
      ∙ map_same _ (items l m a) (row_is a) (numbers_below (entries_of l.cols))) (numbers_below (entries_of l.rows))

  -- so they are a tensor
  is_stored : columns ≤ 2 ^ 20 → IsStored tests trials (entries_of l.rows) (entries_of l.cols) columns kept zeros
  is_stored few = record {
    some = entries_some lawful.0 l.cols lawful.1.cols;
    few_rows = N.le_trans (entries_few lawful.0 l.rows lawful.1.rows) (lit≤ tt);
    few_cols = N.le_trans (entries_few lawful.0 l.cols lawful.1.cols) (lit≤ tt);
    few_columns = few;
    kept = kept_counted l tests trials m kept k.kept_are ∙ ap (λ n. places_at tests * places_at trials * n) (sym k.columns_are);
    zero_row = k.count;
  }

  module _ (rows cols : ℕ) (e : rows ≡ entries_of l.rows) (f : cols ≡ entries_of l.cols) where
    pub all_stored : columns ≤ 2 ^ 20 → IsStored tests trials rows cols columns kept zeros
    all_stored few =
        subst (λ r. IsStored tests trials r cols columns kept zeros) (sym e)
        (subst (λ q. IsStored tests trials (entries_of l.rows) q columns kept zeros) (sym f) (is_stored few))

    pub all_rows : fractions_of (stored_rows tests trials rows cols columns kept zeros) ≡ rows_of l m
    all_rows = ap₂ (λ r q. fractions_of (stored_rows tests trials r q columns kept zeros)) e f ∙ rows_are
