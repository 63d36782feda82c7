-- Where no step of a kernel passes on a cell, its run gives the local shares
use Rattle.std.proofs.Common.{◌≡◌, ℕ, zero, suc, ◌<◌, true, false, None, List, [], ◌∷◌, ◌++◌, length, map, replicate, refl, sym, ap, ap₂, ◌∙◌, subst, arith}
use Rattle.std.specs.Prelude.{Contains, slice_index_or}
use Rattle.std.specs.List.{AllByRecursion, flat_map}
use Rattle.algebra.specs.Fraction.{Fraction, absolute, add, add_zero, is_zero_fraction, mul, zero_fraction}
use Rattle.algebra.specs.Steps.{sum}
use Rattle.ratio.specs.Value.{fraction_of}
use Rattle.calculus.specs.Simplex.{IsCell, Simplex, dimension, volume}
use Rattle.monos.specs.declared.layout.Layout.{Layout}
use Rattle.monos.specs.declared.weight.Weight.{Weight}
use Rattle.monos.specs.Layout.{IsLawfulLayout}
use Rattle.monos.specs.Monomial.{Monomial, directions}
use Rattle.refint.specs.Digits.{columns, dot}
use Rattle.refint.specs.Local.{entries_of, numbers_below}
use Rattle.refint.specs.Reference.{growths, items, value_lists}
use Rattle.refint.proofs.Lists.{flat_append, map_map, map_same}
use Rattle.room.specs.Adding.{Adding, Plus, Term, added, adding_steps}
use Rattle.room.specs.Columns.{column_steps, column_values}
use Rattle.room.specs.Rows.{EntryPart, entry_from, entry_part, part_products, products_steps, row_steps, sum_of}
use Rattle.room.specs.Steps.{Product, StepFits, StepsFit, Sum}
use Rattle.room.proofs.ColumnValues.{column_values_are, part_is}
use Rattle.room.proofs.Lists.{all_append, all_below, all_left, all_right}
use Rattle.basis_products.proofs.Lists.{all_get, all_weaken}
use Rattle.tensors.specs.Rows.{rows_of}
use Rattle.c_unit.specs.declared.unit.CFun.{CFun}
use Rattle.c_unit.specs.Meaning.{ran}
use Rattle.kernel_runs.specs.Strips.{EntriesWithin, EntryWithin, HasRow, HaveRows, MonoPlan, factors_in, list_sum, map_plan, mono_columns, mono_values, with_factors}
use Rattle.kernel_runs.specs.Fit.{EntriesFit, EntryFits, FactorsFit, MonoFits, RowFits, RowsFit, StepsFit as PlanFits}
use Rattle.kernel_runs.specs.Preamble.{coordinates}
use Rattle.kernel_runs.specs.Body.{digit_values, plans_on}
use Rattle.kernel_runs.specs.declared.digit.Digit.TheVariants.{Growth}
use Rattle.kernel_runs.specs.declared.entry.Entry.{Entry}
use Rattle.kernel_runs.specs.declared.entry.Entry.TheVariants.{Counted, Multiple, NoRow}
use Rattle.kernel_runs.proofs.BodyRun.{planned_shares}
use Rattle.kernel_runs.proofs.ColumnsAre.{columns_are}
use Rattle.kernel_runs.proofs.RowsRun.{dots_at}
use Rattle.kernel_runs.proofs.SharesAre.{dot_scaled, factors_mapped, scaled_dot}
use Rattle.kernel_statements.specs.Counted.{counted_rows, is_zero_row}
use Rattle.kernel_statements.specs.Digits.{coefficient_digits}
use Rattle.kernel_statements.specs.Statements.{most_columns, most_rows, row_list}
use Rattle.kernel_statements.specs.declared.contraction.Contraction.{Contraction}
use Rattle.kernel_statements.proofs.CountedLaws.{counted_nonzero, first_contained, later_contained}
use Rattle.kernel_statements.proofs.StandingLaws.{counted_each}
use Rattle.planner.specs.Contractions.{AreContractionsOf, IsContractionOf, IsKernelOf, more, none, without}
use Rattle.planner.specs.Kernels.{AreWithin, GivesShares, NoStepPasses, entry_number, monos_density}
use Rattle.planner.proofs.BodyLaws.{is_body}
use Rattle.planner.proofs.ContractionLaws.{entries_known, row_list_is}
use Rattle.planner.proofs.DigitLaws.{coefficient_values}
use Rattle.planner.proofs.GridLaws.{constant_map, list_sum_maps, pair_count, pairs}
use Rattle.planner.proofs.HaveRowLaws.{standings_rows}
use Rattle.planner.proofs.PlanLaws.{plan_of, plans_of}
use Rattle.planner.proofs.ShareLaws.{ends_shares, grid, no_summand, of_map, on_cell, plan_values, rows_on_grid, same_members, summand, zero_rows}
use Rattle.planner.proofs.StepLaws.{Fits, factors_fit, preamble_fits, product_fits, row_fits, sum_fits}

-- ---- lists
flat_below : {X : Type 0} (P : X → Type 0) (f : ℕ → List X) (n : ℕ) → ((i : ℕ) → i < n → AllByRecursion P (f i)) → AllByRecursion P (flat_map f (numbers_below n))
flat_below P f zero h = tt
flat_below P f (suc n) h =
    subst (AllByRecursion P) (sym (flat_append f (numbers_below n) (n ∷ [])))
    (all_append P (flat_map f (numbers_below n)) (f n ++ []) (flat_below P f n (λ i g. h i (omega arith))) (all_append P (f n) [] (h n (omega arith)) tt))

to_map : {A B : Type 0} (P : B → Type 0) (f : A → B) (xs : List A) → AllByRecursion (λ x. P (f x)) xs → AllByRecursion P (map f xs)
to_map P f [] h = tt
to_map P f (x ∷ xs) h = (h.0, to_map P f xs h.1)

each_contained : {X : Type 0} (P : X → Type 0) (xs : List X) → ((x : X) → Contains xs x → P x) → AllByRecursion P xs
each_contained P [] h = tt
each_contained P (x ∷ xs) h = (h x (first_contained x xs), each_contained P xs (λ y c. h y (later_contained x y xs c)))

some_of : {X : Type 0} (C : Type 0) (xs : List X) → 0 < length xs → AllByRecursion (λ x. C) xs → C
some_of C [] p h = absurd (omega (arith, p))
some_of C (x ∷ xs) p h = h.0

all_rows : (cs : List Fraction) (rows : List (List Fraction)) → AllByRecursion (RowFits ⊥ cs) rows → RowsFit ⊥ cs rows
all_rows cs [] h = tt
all_rows cs (row ∷ rows) h = (h.0, all_rows cs rows h.1)

abbrev OnGrid : Layout → (ℕ × ℕ) → Type 0
OnGrid l p = (p.0 < entries_of l.rows) × (p.1 < entries_of l.cols)

on_grid : (l : Layout) → AllByRecursion (OnGrid l) (pairs (entries_of l.rows) (entries_of l.cols))
on_grid l =
    flat_below (OnGrid l) (λ a. map (λ b. (a, b)) (numbers_below (entries_of l.cols))) (entries_of l.rows)
    (λ a h. all_below (OnGrid l) (λ b. (a, b)) (entries_of l.cols) (λ b g. (h, g)))

-- a sum that goes on began with its first parts
entry_front : (d : ℕ) (v : Simplex) (t : Adding) (ps : List EntryPart) → StepsFit (adding_steps (entry_from d v t ps)) → StepsFit (adding_steps t)
entry_front d v t [] h = h
entry_front d v t (p ∷ ps) h = all_left StepFits (adding_steps t) _ (entry_front d v (Plus t (sum_of (part_products d v p))) ps h)

module _ (l : Layout) (lawful : IsLawfulLayout l) (v : Simplex) (cell : IsCell v) (e : dimension v ≡ l.d) (values : List Fraction) where
  abbrev part : (ℕ × ℕ) → Monomial → EntryPart
  part p m = entry_part l v values p.0 p.1 m

  abbrev summed : Monomial → (ℕ × ℕ) → Adding
  summed m p = sum_of (part_products l.d v (part p m))

  summed_is : (m : Monomial) (p : ℕ × ℕ) → added (summed m p) ≡ summand l lawful v cell e values m p
  summed_is m p = part_is l.d v (part p m)

  -- ---- the steps of an entry, added onto what is there so far
  record PairFits (ms : List Monomial) (t : (ℕ × ℕ) → Adding) (p : ℕ × ℕ) : Type 0 where
    products : StepsFit (products_steps l.d v (map (part p) ms))
    sums : StepsFit (adding_steps (entry_from l.d v (t p) (map (part p) ms)))

  -- those of one monomial
  record Here (m : Monomial) (t : (ℕ × ℕ) → Adding) (p : ℕ × ℕ) : Type 0 where
    formed : StepsFit (column_steps l.d v (flat_map directions m.atoms) (value_lists l v values m.atoms))
    row : StepsFit (row_steps (items l m p.0 p.1) (column_values l.d v (flat_map directions m.atoms) (value_lists l v values m.atoms)))
    sums : StepsFit (adding_steps (summed m p))
    last : StepFits (Sum (added (t p)) (added (summed m p)))

  here : (m : Monomial) (ms : List Monomial) (t : (ℕ × ℕ) → Adding) (p : ℕ × ℕ) → PairFits (m ∷ ms) t p → Here m t p
  here m ms t p h =
      let is = flat_map directions m.atoms in
      let ws = value_lists l v values m.atoms in
      let behind = all_right StepFits (column_steps l.d v is ws) _ h.products in
      let front = entry_front l.d v (Plus (t p) (summed m p)) (map (part p) ms) h.sums in
      let own = all_right StepFits (adding_steps (t p)) _ front in
      record {
        formed = all_left StepFits (column_steps l.d v is ws) _ h.products;
        row = all_left StepFits (row_steps (items l m p.0 p.1) (column_values l.d v is ws)) _ behind;
        sums = all_left StepFits (adding_steps (summed m p)) _ own;
        last = (all_right StepFits (adding_steps (summed m p)) _ own).0;
      }

  rest : (m : Monomial) (ms : List Monomial) (t : (ℕ × ℕ) → Adding) (p : ℕ × ℕ) → PairFits (m ∷ ms) t p → PairFits ms (λ q. Plus (t q) (summed m q)) p
  rest m ms t p h =
      let is = flat_map directions m.atoms in
      let ws = value_lists l v values m.atoms in
      record {
        products = all_right StepFits (row_steps (items l m p.0 p.1) (column_values l.d v is ws)) _ (all_right StepFits (column_steps l.d v is ws) _ h.products);
        sums = h.sums;
      }

  -- a value of a row that isn't zero times the multiplier of a multiple of it
  abbrev MultiplesFit : Monomial → Type 0
  MultiplesFit m =
      (p q : ℕ × ℕ) → OnGrid l p → OnGrid l q → is_zero_row (items l m p.0 p.1) ≡ false → (k : Fraction) → map (mul k) (items l m p.0 p.1) ≡ items l m q.0 q.1
      → StepFits (Product k (added (summed m p)))

  -- ---- one monomial
  module _ (m : Monomial) (c : Contraction) (h : IsContractionOf l m c) (n table : ℕ) (t : (ℕ × ℕ) → Adding) (fit : AllByRecursion (Here m t) (grid l lawful v cell e values)) (multiples : MultiplesFit m) where
    abbrev size : Fraction
    size = absolute (volume v)

    abbrev is : List ℕ
    is = flat_map directions m.atoms

    abbrev ws : List (List Fraction)
    ws = value_lists l v values m.atoms

    abbrev plan : MonoPlan (List Fraction)
    plan = map_plan (on_cell l lawful v cell e values) (plan_of n table c h.entries.0)

    plan_factors : plan.factors ≡ factors_in ws (map (growths l.d v) is)
    plan_factors =
        factors_mapped (on_cell l lawful v cell e values) c.coefficients.items (map (λ i. Growth i) c.directions.items)
        ∙ ap₂ factors_in
        (ap (map (digit_values (dimension v) v values)) h.coefficients ∙ ap (λ d. map (digit_values d v values) (coefficient_digits l m.atoms)) e
        ∙ coefficient_values l v values lawful cell e m.atoms)
        (map_map (digit_values (dimension v) v values) (λ i. Growth i) c.directions.items ∙ ap₂ (λ d js. map (growths d v) js) e h.directions)

    -- the columns
    abbrev cols : List Fraction
    cols = column_values l.d v is ws

    cols_scaled : cols ≡ map (mul size) (columns (ws ++ map (growths l.d v) is))
    cols_scaled = column_values_are l.d v is ws

    plan_columns : mono_columns size plan ≡ cols
    plan_columns = ap (with_factors (size ∷ [])) plan_factors ∙ columns_are size ws (map (growths l.d v) is) ∙ sym cols_scaled

    list : row_list c ≡ counted_rows (rows_of l m)
    list = row_list_is l m c h

    -- what holds of the row of each pair holds of each counted one
    each_counted : (P : List Fraction → Type 0) → AllByRecursion (λ (p : ℕ × ℕ). P (items l m p.0 p.1)) (grid l lawful v cell e values) → AllByRecursion P (row_list c)
    each_counted P a =
        subst (AllByRecursion P) (sym list)
        (counted_each P (rows_of l m) (subst (AllByRecursion P) (sym (rows_on_grid l lawful v cell e values m)) (to_map P (λ (p : ℕ × ℕ). items l m p.0 p.1) (grid l lawful v cell e values) a)))

    columns_fit : FactorsFit ⊥ (size ∷ []) plan.factors
    columns_fit =
        let formed = some_of _ (row_list c) (omega (arith, ap length list, h.rows, h.some)) (each_counted (λ row. StepsFit (column_steps l.d v is ws)) (all_weaken _ _ (λ p k. k.formed) (grid l lawful v cell e values) fit)) in
        subst (FactorsFit ⊥ (size ∷ [])) (sym plan_factors) (factors_fit (size ∷ []) ws (map (growths l.d v) is) formed)

    rows_fit : RowsFit ⊥ (mono_columns size plan) (row_list c)
    rows_fit =
        subst (λ cs. RowsFit ⊥ cs (row_list c)) (sym plan_columns)
        (all_rows cols (row_list c) (each_counted (RowFits ⊥ cols) (all_weaken _ _ (λ p k. row_fits cols (items l m p.0 p.1) k.row k.sums) (grid l lawful v cell e values) fit)))

    -- the product of the columns and the items of an entry
    product_is : (p : ℕ × ℕ) → dot cols (items l m p.0 p.1) ≡ added (summed m p)
    product_is p =
        ap (λ cs. dot cs (items l m p.0 p.1)) cols_scaled ∙ dot_scaled size (columns (ws ++ map (growths l.d v) is)) (items l m p.0 p.1)
        ∙ sym (summed_is m p)

    abbrev row_values : List Fraction
    row_values = map (dot cols) (row_list c)

    -- a pair that has a counted row
    record BaseAt (row : List Fraction) : Type 0 where
      at : ℕ × ℕ
      inside : OnGrid l at
      same : items l m at.0 at.1 ≡ row

    bases : AllByRecursion BaseAt (row_list c)
    bases = each_counted BaseAt (all_weaken (OnGrid l) (λ p. BaseAt (items l m p.0 p.1)) (λ p k. record { at = p; inside = k; same = refl }) (grid l lawful v cell e values) (on_grid l))

    entry_fits : (x : Entry) (p : ℕ × ℕ) → OnGrid l p → Here m t p → EntryWithin (length (row_list c)) x → HasRow (row_list c) x (items l m p.0 p.1) → EntryFits ⊥ row_values (added (t p)) x
    entry_fits NoRow p g k w r = tt
    entry_fits (Counted b) p g k w r =
        subst (λ y. sum (added (t p)) y ≡ None → ⊥) (sym (dots_at cols (row_list c) b w ∙ ap (dot cols) r ∙ product_is p))
        (sum_fits (added (t p)) (added (summed m p)) k.last)
    entry_fits (Multiple lam b) p g k w r =
        let factor = fraction_of lam in
        let row = slice_index_or (row_list c) b [] in
        let base = all_get BaseAt (row_list c) b [] w bases in
        let nonzero = all_get (λ row. is_zero_row row ≡ false) (row_list c) b [] w (subst (AllByRecursion (λ row. is_zero_row row ≡ false)) (sym list) (counted_nonzero (rows_of l m))) in
        let value = dots_at cols (row_list c) b w in
        let times = multiples base.at p base.inside g (ap is_zero_row base.same ∙ nonzero) factor (ap (map (mul factor)) base.same ∙ r) in (
          subst (λ y. Fits (mul factor y)) (sym (product_is base.at) ∙ ap (dot cols) base.same ∙ sym value) (product_fits factor (added (summed m base.at)) times),
          subst (λ y. sum (added (t p)) y ≡ None → ⊥) (sym (ap (mul factor) value ∙ sym (scaled_dot factor cols row) ∙ ap (dot cols) r ∙ product_is p))
              (sum_fits (added (t p)) (added (summed m p)) k.last),
        )

    walk : (es : List Entry) (ps : List (ℕ × ℕ)) → EntriesWithin (length (row_list c)) es → HaveRows (row_list c) es (map (λ (p : ℕ × ℕ). items l m p.0 p.1) ps)
        → AllByRecursion (OnGrid l) ps → AllByRecursion (Here m t) ps → EntriesFit ⊥ row_values (map (λ p. added (t p)) ps) es
    walk es [] w r g k = tt
    walk [] (p ∷ ps) w r g k = tt
    walk (x ∷ es) (p ∷ ps) w r g k = (entry_fits x p g.0 k.0 w.0 r.0, walk es ps w.1 r.1 g.1 k.1)

    mono_fits : MonoFits ⊥ size (map (λ p. added (t p)) (grid l lawful v cell e values)) plan
    mono_fits =
        let known : EntriesWithin (length (row_list c)) h.entries.0 = subst (λ rows. EntriesWithin (length rows) h.entries.0) (sym list) (entries_known l m c h) in
        let have : HaveRows (row_list c) h.entries.0 (rows_of l m) = subst (λ rows. HaveRows rows h.entries.0 (rows_of l m)) (sym list) (standings_rows (rows_of l m) h.entries.0 h.entries.1) in
        record {
          factors = columns_fit;
          rows = rows_fit;
          entries =
              subst (λ cs. EntriesFit ⊥ (map (dot cs) (row_list c)) (map (λ p. added (t p)) (grid l lawful v cell e values)) h.entries.0) (sym plan_columns)
              (walk h.entries.0 (grid l lawful v cell e values) known (subst (HaveRows (row_list c) h.entries.0) (rows_on_grid l lawful v cell e values m) have) (on_grid l) fit);
        }

    -- what is there with it
    onto_next : list_sum (map (λ p. added (t p)) (grid l lawful v cell e values)) (mono_values size plan) ≡ map (λ p. added (Plus (t p) (summed m p))) (grid l lawful v cell e values)
    onto_next =
        ap (list_sum (map (λ p. added (t p)) (grid l lawful v cell e values))) (plan_values l lawful v cell e values m c h n table)
        ∙ list_sum_maps (λ p. added (t p)) (summand l lawful v cell e values m) (grid l lawful v cell e values)
        ∙ map_same _ _ (λ p. ap (add (added (t p))) (sym (summed_is m p))) (grid l lawful v cell e values)

  -- ---- all of them
  plans_fit : (n table : ℕ) {ms : List Monomial} {cs : List Contraction} (r : AreContractionsOf l ms cs) (t : (ℕ × ℕ) → Adding)
      → AllByRecursion (PairFits ms t) (grid l lawful v cell e values) → AllByRecursion MultiplesFit ms
      → PlanFits ⊥ (absolute (volume v)) (map (λ p. added (t p)) (grid l lawful v cell e values)) (map (map_plan (on_cell l lawful v cell e values)) (plans_of l n table r))
  plans_fit n table none t a k = tt
  plans_fit n table (without {m = m} {ms = ms} i r) t a k =
      subst (λ acc. PlanFits ⊥ (absolute (volume v)) acc (map (map_plan (on_cell l lawful v cell e values)) (plans_of l n table r)))
      (same_members (λ p. added (Plus (t p) (summed m p))) (λ p. added (t p)) (λ p. is_zero_row (items l m p.0 p.1) ≡ true)
      (λ p z. ap (add (added (t p))) (summed_is m p ∙ no_summand l lawful v cell e values m p z) ∙ add_zero (added (t p)))
      (grid l lawful v cell e values)
      (of_map (λ row. is_zero_row row ≡ true) (λ (p : ℕ × ℕ). items l m p.0 p.1) (grid l lawful v cell e values)
      (subst (AllByRecursion (λ row. is_zero_row row ≡ true)) (rows_on_grid l lawful v cell e values m) (zero_rows (rows_of l m) i))))
      (plans_fit n table r (λ p. Plus (t p) (summed m p)) (all_weaken _ _ (rest m ms t) (grid l lawful v cell e values) a) k.1)
  plans_fit n table (more {m = m} {ms = ms} {c = c} h r) t a k =
      let now = all_weaken _ _ (here m ms t) (grid l lawful v cell e values) a in (
        mono_fits m c h n table t now k.0,
        subst (λ acc. PlanFits ⊥ (absolute (volume v)) acc (map (map_plan (on_cell l lawful v cell e values)) (plans_of l n (suc table) r))) (sym (onto_next m c h n table t now k.0))
            (plans_fit n (suc table) r (λ p. Plus (t p) (summed m p)) (all_weaken _ _ (rest m ms t) (grid l lawful v cell e values) a) k.1),
      )

  pub all_fit : (n : ℕ) {ms : List Monomial} {cs : List Contraction} (r : AreContractionsOf l ms cs) → NoStepPasses l ms v values → is_zero_fraction (volume v) ≡ false
      → PlanFits ⊥ (absolute (volume v)) (replicate (entry_number l) zero_fraction) (map (map_plan (on_cell l lawful v cell e values)) (plans_of l n 0 r))
  all_fit n {ms = ms} r s nz =
      subst (λ acc. PlanFits ⊥ (absolute (volume v)) acc (map (map_plan (on_cell l lawful v cell e values)) (plans_of l n 0 r)))
      (constant_map zero_fraction (grid l lawful v cell e values) ∙ ap (λ k. replicate k zero_fraction) (pair_count (entries_of l.rows) (entries_of l.cols)))
      (plans_fit n 0 r (λ p. Term zero_fraction)
      (all_weaken (OnGrid l) (PairFits ms (λ p. Term zero_fraction))
      (λ p g. let steps = s.entries nz p.0 p.1 g.0 g.1 in record {
        products = all_left StepFits (products_steps l.d v (map (part p) ms)) _ steps;
        sums = all_right StepFits (products_steps l.d v (map (part p) ms)) _ steps;
      })
      (grid l lawful v cell e values) (on_grid l))
      (each_contained MultiplesFit ms (λ m c p q g k z f i. s.multiples nz m c p.0 p.1 q.0 q.1 g.0 g.1 k.0 k.1 z f i)))

pub fitting : (l : Layout) (lawful : IsLawfulLayout l) (w : Weight) {ms : List Monomial} {cs : List Contraction} → AreWithin l w ms → (r : AreContractionsOf l ms cs)
    → (f : CFun) → IsKernelOf l cs f → (v : Simplex) (values : List Fraction) → IsCell v → dimension v ≡ l.d → NoStepPasses l ms v values
    → GivesShares ⊥ (monos_density ms) l v values (ran f (coordinates l.d v) values)
fitting l lawful w {cs = cs} within r f k v values cell e s =
    ends_shares l lawful v cell e values ⊥ f r k
    (planned_shares ⊥ f v values (most_columns cs) (most_rows cs) (plans_of l (entry_number l) 0 r) cell (is_body l lawful w within r f k v e)
    (preamble_fits l.d v cell e s.first s.growths)
    (λ nz. subst (λ n. PlanFits ⊥ (absolute (volume v)) (replicate n zero_fraction) (plans_on v values (plans_of l (entry_number l) 0 r))) (sym k.a) (all_fit l lawful v cell e values (entry_number l) r s nz)))
