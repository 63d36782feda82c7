-- From the sums of the rows to those of the whole matrix
use Rattle.std.proofs.Common.{◌≡◌, ◌≢◌, ℕ, ◌+◌, ◌<◌, ◌≤◌, ◌==◌, ◌⊎◌, Bool, true, false, List, [], ◌∷◌, ◌++◌, Option, Some, if◌then◌else◌, refl, sym, ◌∙◌, ap, arith, subst, inl, inr, ⊎_elim}
use Rattle.std.proofs.lemmas.Bool.{cases_eq, cases_lt}
use Rattle.std.proofs.lemmas.Bool.Decides.{nat_tests}
use Rattle.std.specs.Prelude.{IsSome}
use Rattle.std.specs.List.{AllByRecursion}
use Rattle.algebra.specs.Fraction.{Fraction, zero_fraction}
use Rattle.assembly.specs.Sums.{Entry, is_at, values_at, added, entry_at, IsBefore, AreOrdered, AreSums, PassesFirst}
use Rattle.dofs.specs.Rows.{Numbering}
use Rattle.assembly.specs.Assembly.{row_count, entries_from, IsMapOf}
use Rattle.assembly.specs.Stored.{AreAllRows, of_row}
use Rattle.assembly.proofs.StoredLaws.{all_both, none_of_row}

-- the sums of the rows below n
pub record AreSumsBelow (values : List Entry) (n : ℕ) (sums : List Entry) : Type 0 where
  pub below : AllByRecursion (λ (e : Entry). e.row < n) sums
  pub ordered : AreOrdered sums
  pub nonzero : AllByRecursion (λ (e : Entry). e.value ≢ zero_fraction) sums
  pub exact : (row col : ℕ) → row < n → added (values_at values row col) ≡ Some (entry_at sums row col)

pub no_sums : (values : List Entry) → AreSumsBelow values 0 []
no_sums values = record { below = tt; ordered = tt; nonzero = tt; exact = λ row col h. absurd (omega arith) }

other_test : (m row r : ℕ) → (m == row) ≡ true → r ≢ row → (m == r) ≡ false
other_test m row r t n = grind (arith, nat_tests)

own_value : (row col : ℕ) (e : Entry) (es fs : List Entry) (b : Bool) → (e.row == row) ≡ b → values_at es row col ≡ values_at fs row col
    → values_at (if b then e ∷ es else es) row col ≡ values_at (e ∷ fs) row col
own_value row col e es fs true t h = rw t (ap (λ (xs : List Fraction). if e.col == col then e.value ∷ xs else xs) h)
own_value row col e es fs false t h = rw t h

own_values : (row col : ℕ) (values : List Entry) → values_at (of_row row values) row col ≡ values_at values row col
own_values row col [] = refl
own_values row col (e ∷ es) = own_value row col e (of_row row es) es (e.row == row) refl (own_values row col es)

-- ---- entries of one row behind those of rows before it

absent_row : (r c : ℕ) (P : ℕ → Type 0) (es : List Entry) → ((m : ℕ) → P m → (m == r) ≡ false) → AllByRecursion (λ (e : Entry). P e.row) es → entry_at es r c ≡ zero_fraction
absent_row r c P [] f a = refl
absent_row r c P (e ∷ es) f a = rw (f e.row a.0) (absent_row r c P es f a.1)

entry_before : (r c : ℕ) (ts es : List Entry) → entry_at es r c ≡ zero_fraction → entry_at (ts ++ es) r c ≡ entry_at ts r c
entry_before r c [] es z = z
entry_before r c (t ∷ ts) es z = ap (λ (x : Fraction). if is_at r c t then t.value else x) (entry_before r c ts es z)

entry_behind : (r c : ℕ) (ts es : List Entry) → AllByRecursion (λ (e : Entry). e.row < r) ts → entry_at (ts ++ es) r c ≡ entry_at es r c
entry_behind r c [] es a = refl
entry_behind r c (t ∷ ts) es a = let f : (t.row == r) ≡ false = below_test t.row r a.0 in rw f (entry_behind r c ts es a.1)
  where
    below_test : (m r : ℕ) → m < r → (m == r) ≡ false
    below_test m r h = grind (arith, nat_tests)

before_all : (n : ℕ) (t : Entry) (es : List Entry) → t.row < n → AllByRecursion (λ (e : Entry). e.row ≡ n) es → AllByRecursion (λ (f : Entry). IsBefore t.row t.col f.row f.col) es
before_all n t [] h a = tt
before_all n t (e ∷ es) h a = (inl (subst (λ (m : ℕ). t.row < m) (sym a.0) h), before_all n t es h a.1)

ordered_both : (n : ℕ) (ts es : List Entry) → AllByRecursion (λ (e : Entry). e.row < n) ts → AllByRecursion (λ (e : Entry). e.row ≡ n) es → AreOrdered ts → AreOrdered es → AreOrdered (ts ++ es)
ordered_both n [] es b o p q = q
ordered_both n (t ∷ ts) es b o p q =
    (all_both (λ (f : Entry). IsBefore t.row t.col f.row f.col) ts es p.0 (before_all n t es b.0 o), ordered_both n ts es b.1 o p.1 q)

weaker_below : (n : ℕ) (ts : List Entry) → AllByRecursion (λ (e : Entry). e.row < n) ts → AllByRecursion (λ (e : Entry). e.row < n + 1) ts
weaker_below n [] a = tt
weaker_below n (t ∷ ts) a = (omega (arith, a.0), weaker_below n ts a.1)

own_below : (n : ℕ) (es : List Entry) → AllByRecursion (λ (e : Entry). e.row ≡ n) es → AllByRecursion (λ (e : Entry). e.row < n + 1) es
own_below n [] a = tt
own_below n (e ∷ es) a = (omega (arith, a.0), own_below n es a.1)

-- one more row
pub sums_more : (values : List Entry) (n : ℕ) (ts es : List Entry) → AreSumsBelow values n ts → AllByRecursion (λ (e : Entry). e.row ≡ n) es → AreSums (of_row n values) es → AreSumsBelow values (n + 1) (ts ++ es)
sums_more values n ts es s own row = record {
  below = all_both (λ (e : Entry). e.row < n + 1) ts es (weaker_below n ts s.below) (own_below n es own);
  ordered = ordered_both n ts es s.below own s.ordered row.ordered;
  nonzero = all_both (λ (e : Entry). e.value ≢ zero_fraction) ts es s.nonzero row.nonzero;
  exact = λ r c h. ⊎_elim
      (λ (e : r ≡ n). subst (λ (m : ℕ). added (values_at values m c) ≡ Some (entry_at (ts ++ es) m c)) (sym e)
      (ap added (sym (own_values n c values)) ∙ row.exact n c ∙ ap Some (sym (entry_behind n c ts es s.below))))
      (λ (ne : r ≡ n → ⊥).
      let less : r < n = omega (arith, ne) in
      s.exact r c less ∙ ap Some (sym (entry_before r c ts es (absent_row r c (λ m. m ≡ n) es (λ m e. greater_test m n r e less) own))))
      (cases_eq r n);
}
  where
    greater_test : (m n r : ℕ) → m ≡ n → r < n → (m == r) ≡ false
    greater_test m n r e h = grind (arith, nat_tests)

-- no row is left
pub sums_all : (values : List Entry) (n : ℕ) (ts : List Entry) → AreSumsBelow values n ts → ((r c : ℕ) → n ≤ r → values_at values r c ≡ []) → AreSums values ts
sums_all values n ts s none = record {
  ordered = s.ordered;
  nonzero = s.nonzero;
  exact = λ r c. ⊎_elim (λ (h : r < n). s.exact r c h)
      (λ (h : n ≤ r). ap added (none r c h) ∙ ap Some (sym (absent_row r c (λ m. m < n) ts (λ m k. less_test m n r k h) s.below)))
      (split r n);
}
  where
    less_test : (m n r : ℕ) → m < n → n ≤ r → (m == r) ≡ false
    less_test m n r h k = grind (arith, nat_tests)

    split : (r n : ℕ) → (r < n) ⊎ (n ≤ r)
    split r n = cases_lt r n

-- the sum of the row passes first
pub passes_whole : (values : List Entry) (n col : ℕ) (ts : List Entry) → AreSumsBelow values n ts → PassesFirst (of_row n values) n col → PassesFirst values n col
passes_whole values n col ts s p = record {
  passes = ap added (sym (own_values n col values)) ∙ p.passes;
  earlier = λ r c b. ⊎_elim
      (λ (h : r < n). subst IsSome (sym (s.exact r c h)) refl)
      (λ (h : (r ≡ n) × (c < col)). subst (λ (m : ℕ). IsSome (added (values_at values m c))) (sym h.0)
      (subst (λ xs. IsSome (added xs)) (own_values n c values) (p.earlier n c (inr (refl, h.1)))))
      b;
}

-- no value is of a row behind the last
pub none_beyond : (rows cols : Option Numbering) (tensor : ℕ → List Fraction) (cells height width : ℕ) → IsMapOf cells height rows → IsMapOf cells width cols → AreAllRows rows
    → (row col : ℕ) → row_count rows ≤ row → values_at (entries_from rows cols tensor 0 cells) row col ≡ []
none_beyond rows cols tensor cells height width m w all row col h =
    sym (own_values row col (entries_from rows cols tensor 0 cells))
    ∙ ap (λ es. values_at es row col) (none_of_row rows cols tensor cells height width row m w all h)
