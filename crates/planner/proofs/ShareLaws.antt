-- What planned kernels add up to: the local shares of their monomials
use Rattle.std.proofs.Common.{◌≡◌, ℕ, suc, Bool, true, false, if◌then◌else◌, List, [], ◌∷◌, ◌++◌, length, map, replicate, refl, sym, ap, ap₂, ◌∙◌, subst, arith}
use Rattle.std.specs.Prelude.{Contains}
use Rattle.std.specs.List.{AllByRecursion}
use Rattle.algebra.specs.Fraction.{Fraction, absolute, add, add_assoc, add_zero, fractions, is_zero_fraction, mul, zero_fraction}
use Rattle.algebra.specs.RingLaws as L
use Rattle.algebra.specs.Sums.{total}
use Rattle.calculus.specs.Simplex.{IsCell, Simplex, dimension, volume}
use Rattle.monos.specs.declared.layout.Layout.{Layout}
use Rattle.monos.specs.declared.weight.Weight.{Weight}
use Rattle.monos.specs.Layout.{IsLawfulLayout}
use Rattle.monos.specs.Monomial.{Monomial}
use Rattle.refint.specs.Digits.{columns, dot}
use Rattle.refint.specs.Local.{entries_of, local_shares}
use Rattle.refint.specs.Reference.{factors, items, share_of, shares_of}
use Rattle.refint.proofs.Lists.{map_map, map_same}
use Rattle.refint.proofs.SharesLaw.{monos_shares}
use Rattle.tensors.specs.Rows.{rows_of}
use Rattle.c_unit.specs.declared.unit.CFun.{CFun}
use Rattle.c_unit.specs.Meaning.{ran}
use Rattle.kernel.specs.Ends.{Ends}
use Rattle.kernel.proofs.Rules.{ends_weaker}
use Rattle.kernel_runs.specs.Strips.{EntriesWithin, HaveRows, list_sum, map_plan, mono_values, monos_onto}
use Rattle.kernel_runs.specs.Preamble.{coordinates}
use Rattle.kernel_runs.specs.Body.{digit_values, plans_on}
use Rattle.kernel_runs.specs.declared.digit.Digit.{Digit}
use Rattle.kernel_runs.specs.declared.digit.Digit.TheVariants.{Growth}
use Rattle.kernel_runs.proofs.AnySteps.{planned_share}
use Rattle.kernel_runs.proofs.SharesAre.{factors_mapped, mono_values_are, no_dot}
use Rattle.kernel_statements.specs.Counted.{counted_from, counted_rows, is_zero_row}
use Rattle.kernel_statements.specs.Digits.{coefficient_digits, direction_digits}
use Rattle.kernel_statements.specs.Statements.{most_columns, most_rows, row_list}
use Rattle.kernel_statements.specs.declared.contraction.Contraction.{Contraction}
use Rattle.kernel_statements.proofs.CountedLaws.{first_contained, from_more}
use Rattle.planner.specs.Contractions.{AreContractionsOf, IsContractionOf, IsKernelOf, more, none, without}
use Rattle.planner.specs.Kernels.{AreWithin, GivesShares, entry_number, monos_density}
use Rattle.planner.proofs.ContractionLaws.{entries_known, row_list_is}
use Rattle.planner.proofs.BodyLaws.{is_body}
use Rattle.planner.proofs.DigitLaws.{factor_values}
use Rattle.planner.proofs.GridLaws.{constant_map, each_pair, list_sum_maps, pair_count, pairs}
use Rattle.planner.proofs.HaveRowLaws.{standings_rows, zero_items}
use Rattle.planner.proofs.PlanLaws.{plan_of, plans_of}

-- ---- where no row is counted, each is zero
not_in_none : (row : List Fraction) → Contains [] row → ⊥
not_in_none row c = let l = c.1 in absurd (omega arith)

pub zero_rows : (rows : List (List Fraction)) → counted_rows rows ≡ [] → AllByRecursion (λ r. is_zero_row r ≡ true) rows
zero_rows [] e = tt
zero_rows (row ∷ rows) e = go (is_zero_row row) refl e (zero_rows rows)
  where
    go : (t : Bool) → is_zero_row row ≡ t → counted_from (if t then [] else row ∷ []) rows ≡ []
        → (counted_rows rows ≡ [] → AllByRecursion (λ r. is_zero_row r ≡ true) rows) → (is_zero_row row ≡ true) × AllByRecursion (λ r. is_zero_row r ≡ true) rows
    go true z k rest = (z, rest k)
    go false z k rest = absurd (not_in_none row (subst (λ fs. Contains fs row) k (from_more (row ∷ []) rows row (first_contained row []))))

pub of_map : {A B : Type 0} (P : B → Type 0) (f : A → B) (xs : List A) → AllByRecursion P (map f xs) → AllByRecursion (λ x. P (f x)) xs
of_map P f [] h = tt
of_map P f (x ∷ xs) h = (h.0, of_map P f xs h.1)

pub same_members : {A : Type 0} (f g : A → Fraction) (P : A → Type 0) → ((x : A) → P x → f x ≡ g x) → (xs : List A) → AllByRecursion P xs → map f xs ≡ map g xs
same_members f g P h [] k = refl
same_members f g P h (x ∷ xs) k = ap₂ ◌∷◌ (h x k.0) (same_members f g P h xs k.1)

module _ (l : Layout) (lawful : IsLawfulLayout l) (v : Simplex) (cell : IsCell v) (e : dimension v ≡ l.d) (values : List Fraction) where
  abbrev pub grid : List (ℕ × ℕ)
  grid = pairs (entries_of l.rows) (entries_of l.cols)

  -- of a monomial, at a pair of nodes
  abbrev pub summand : Monomial → (ℕ × ℕ) → Fraction
  summand m p = mul (absolute (volume v)) (dot (columns (factors l v values m.atoms)) (items l m p.0 p.1))

  pub rows_on_grid : (m : Monomial) → rows_of l m ≡ map (λ (p : ℕ × ℕ). items l m p.0 p.1) grid
  unfolding rows_of
  rows_on_grid m = each_pair (entries_of l.rows) (entries_of l.cols) (items l m)

  abbrev pub on_cell : Digit → List Fraction
  on_cell = digit_values (dimension v) v values

  columns_values : (m : Monomial) (c : Contraction) → IsContractionOf l m c
      → map on_cell c.coefficients.items ++ map on_cell (map (λ i. Growth i) c.directions.items) ≡ factors l v values m.atoms
  columns_values m c h =
      ap₂ (λ gs is. map on_cell gs ++ map on_cell (map (λ i. Growth i) is)) h.coefficients h.directions
      ∙ ap (λ d. map (digit_values d v values) (coefficient_digits l m.atoms) ++ map (digit_values d v values) (direction_digits m.atoms)) e
      ∙ factor_values l v values lawful cell e m.atoms

  pub plan_values : (m : Monomial) (c : Contraction) (h : IsContractionOf l m c) (n table : ℕ)
      → mono_values (absolute (volume v)) (map_plan on_cell (plan_of n table c h.entries.0)) ≡ map (summand m) grid
  plan_values m c h n table =
      let a = absolute (volume v) in
      let cs = map on_cell c.coefficients.items in
      let ds = map on_cell (map (λ i. Growth i) c.directions.items) in
      let list = sym (row_list_is l m c h) in
      let known : EntriesWithin (length (row_list c)) h.entries.0 = subst (λ rows. EntriesWithin (length rows) h.entries.0) list (entries_known l m c h) in
      let have : HaveRows (row_list c) h.entries.0 (rows_of l m) = subst (λ rows. HaveRows rows h.entries.0 (rows_of l m)) list (standings_rows (rows_of l m) h.entries.0 h.entries.1) in
      mono_values_are a (map_plan on_cell (plan_of n table c h.entries.0)) cs ds (rows_of l m)
      (factors_mapped on_cell c.coefficients.items (map (λ i. Growth i) c.directions.items)) known have
      ∙ ap₂ (λ fs rows. map (λ row. mul a (dot (columns fs) row)) rows) (columns_values m c h) (rows_on_grid m)
      ∙ map_map (λ row. mul a (dot (columns (factors l v values m.atoms)) row)) (λ (p : ℕ × ℕ). items l m p.0 p.1) grid

  pub no_summand : (m : Monomial) (p : ℕ × ℕ) → is_zero_row (items l m p.0 p.1) ≡ true → summand m p ≡ zero_fraction
  no_summand m p z =
      ap (mul (absolute (volume v))) (no_dot (columns (factors l v values m.atoms)) (items l m p.0 p.1) (zero_items (items l m p.0 p.1) z))
      ∙ L.mul-zero fractions (absolute (volume v))

  -- onto any values
  onto : (n table : ℕ) {ms : List Monomial} {cs : List Contraction} (r : AreContractionsOf l ms cs) (f : (ℕ × ℕ) → Fraction)
      → monos_onto (absolute (volume v)) (map f grid) (map (map_plan on_cell) (plans_of l n table r)) ≡ map (λ p. add (f p) (total (map (λ m. summand m p) ms))) grid
  onto n table none f = map_same f (λ p. add (f p) zero_fraction) (λ p. sym (add_zero (f p))) grid
  onto n table (without {m = m} {ms = ms} k r) f =
      onto n table r f
      ∙ same_members (λ p. add (f p) (total (map (λ m. summand m p) ms))) (λ p. add (f p) (add (summand m p) (total (map (λ m. summand m p) ms))))
      (λ p. is_zero_row (items l m p.0 p.1) ≡ true)
      (λ p z. ap (add (f p)) (sym (ap (λ x. add x (total (map (λ m. summand m p) ms))) (no_summand m p z) ∙ L.zero-add fractions (total (map (λ m. summand m p) ms)))))
      grid (of_map (λ row. is_zero_row row ≡ true) (λ (p : ℕ × ℕ). items l m p.0 p.1) grid (subst (AllByRecursion (λ row. is_zero_row row ≡ true)) (rows_on_grid m) (zero_rows (rows_of l m) k)))
  onto n table (more {m = m} {ms = ms} {c = c} h r) f =
      ap (λ acc. monos_onto (absolute (volume v)) acc (map (map_plan on_cell) (plans_of l n (suc table) r)))
      (ap (list_sum (map f grid)) (plan_values m c h n table) ∙ list_sum_maps f (summand m) grid)
      ∙ onto n (suc table) r (λ p. add (f p) (summand m p))
      ∙ map_same _ _ (λ p. add_assoc (f p) (summand m p) (total (map (λ m. summand m p) ms))) grid

  on_zeros : (n table : ℕ) {ms : List Monomial} {cs : List Contraction} (r : AreContractionsOf l ms cs)
      → monos_onto (absolute (volume v)) (replicate (entry_number l) zero_fraction) (map (map_plan on_cell) (plans_of l n table r)) ≡ shares_of l v values ms
  unfolding shares_of
  on_zeros n table {ms = ms} r =
      ap (λ acc. monos_onto (absolute (volume v)) acc (map (map_plan on_cell) (plans_of l n table r)))
      (ap (λ k. replicate k zero_fraction) (sym (pair_count (entries_of l.rows) (entries_of l.cols))) ∙ sym (constant_map zero_fraction grid))
      ∙ onto n table r (λ p. zero_fraction)
      ∙ map_same (λ p. add zero_fraction (total (map (λ m. summand m p) ms))) (λ (p : ℕ × ℕ). share_of l v values ms p.0 p.1)
      (λ p. L.zero-add fractions (total (map (λ m. summand m p) ms))) grid
      ∙ sym (each_pair (entries_of l.rows) (entries_of l.cols) (share_of l v values ms))

  -- what a run ends with, by its plans, is what it ends with, by its monomials
  module _ (Q : Type 0) (f : CFun) {ms : List Monomial} {cs : List Contraction} (r : AreContractionsOf l ms cs) (k : IsKernelOf l cs f) where
    pub ends_shares :
        Ends Q (is_zero_fraction (volume v) ≡ true)
        (λ s. (is_zero_fraction (volume v) ≡ false) × (s.a ≡ monos_onto (absolute (volume v)) (replicate f.a zero_fraction) (plans_on v values (plans_of l (entry_number l) 0 r))))
        (ran f (coordinates (dimension v) v) values)
        → GivesShares Q (monos_density ms) l v values (ran f (coordinates l.d v) values)
    ends_shares h =
        subst (λ d. GivesShares Q (monos_density ms) l v values (ran f (coordinates d v) values)) e
        (ends_weaker Q (is_zero_fraction (volume v) ≡ true) _
        (λ s. (is_zero_fraction (volume v) ≡ false) × (s.a ≡ local_shares (monos_density ms) l v values))
        (ran f (coordinates (dimension v) v) values) h
        (λ s i. (
          i.0,
          i.1
              ∙ ap (λ n. monos_onto (absolute (volume v)) (replicate n zero_fraction) (plans_on v values (plans_of l (entry_number l) 0 r))) k.a
              ∙ on_zeros (entry_number l) 0 r
              ∙ sym (monos_shares l v cell e i.0 values ms),
        )))

pub share : (l : Layout) (lawful : IsLawfulLayout l) (w : Weight) {ms : List Monomial} {cs : List Contraction} → AreWithin l w ms → (r : AreContractionsOf l ms cs)
    → (f : CFun) → IsKernelOf l cs f → (v : Simplex) (values : List Fraction) → IsCell v → dimension v ≡ l.d
    → GivesShares (Unit {0}) (monos_density ms) l v values (ran f (coordinates l.d v) values)
share l lawful w {cs = cs} within r f k v values cell e =
    ends_shares l lawful v cell e values (Unit {0}) f r k
    (planned_share f v values (most_columns cs) (most_rows cs) (plans_of l (entry_number l) 0 r) cell (is_body l lawful w within r f k v e))
