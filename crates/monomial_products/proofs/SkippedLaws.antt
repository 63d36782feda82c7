-- An atom of degree 0 leaves the products as they are, and any other one multiplies them
use Rattle.std.proofs.Common.{◌≡◌, ℕ, zero, suc, ◌+◌, ◌-◌, ◌*◌, ◌^◌, ◌<◌, ◌≤◌, ◌⊎◌, inl, inr, Bool, true, false, ◌||◌, if◌then◌else◌, List, [], ◌∷◌, Some, map, refl, sym, ap, ap₂, ◌∙◌, subst, arith}
use Rattle.std.specs.Prelude.{slice_get, slice_index_or}
use Rattle.std.specs.List.{flat_map}
use Rattle.std.proofs.Math.Nat.{pow-zero}
use Rattle.algebra.specs.RingLaws as L
use Rattle.calculus.specs.Polynomial.{Polynomial, one, times, polynomials}
use Rattle.calculus.specs.Simplex.{reference}
use Rattle.calculus.specs.LocalFunction.{degree_of as weights_of, factorial}
use Rattle.calculus.proofs.LocalFunctions.{degree_zero}
use Rattle.lagrange.specs.Bounds.{basis_bound}
use Rattle.polyalg.specs.Terms.{value_of}
use Rattle.polyalg.specs.declared.term.Term.{Term}
use Rattle.spaces.specs.declared.cell.Cell.{Cell}
use Rattle.spaces.specs.declared.cell.Cell.TheVariants.{Interval, Triangle, Tetrahedron}
use Rattle.spaces.specs.declared.parts.Part.{Part}
use Rattle.spaces.specs.Family.{node_count}
use Rattle.spaces.specs.Nodes.{nodes_of, weight_sum}
use Rattle.spaces.proofs.NodeLaws.{node_at as node_on}
use Rattle.ufl_tree.specs.declared.function.Role.{Role}
use Rattle.ufl_tree.specs.declared.function.Role.TheVariants.{Test, Trial, Position, Coefficient}
use Rattle.monos.specs.declared.layout.Layout.{Layout}
use Rattle.monos.specs.declared.mono.Atom.{Atom}
use Rattle.monos.specs.Layout.{IsLawfulLayout, role_parts}
use Rattle.monos.specs.Monomial.{derivative_count, derivatives}
use Rattle.refint.specs.Local.{numbers_below, node_function, cell_in}
use Rattle.refint.specs.Reference.{digit_lists, node_counts}
use Rattle.refint.proofs.Lists.{append_nothing, flat_same}
use Rattle.basis_products.specs.declared.factor.Factor.{Factor}
use Rattle.basis_products.specs.declared.factor.Source.{Source}
use Rattle.basis_products.specs.declared.factor.Source.TheVariants as source
use Rattle.basis_products.specs.declared.products.Products.{Products}
use Rattle.basis_products.specs.declared.products.Sizes.{Sizes}
use Rattle.basis_products.specs.Functions.{all_along, derived_functions, AreBounded}
use Rattle.basis_products.specs.Order.{first_row, row_count, with_factor, pairs_of, joined, Fit}
use Rattle.monomial_products.specs.declared.support.Support.{Support}
use Rattle.monomial_products.specs.Supports.{places_at, node_at, is_role, AreOn}
use Rattle.monomial_products.specs.Products.{products_at, has_role, own_places, products_of, sizes_of, source_of, is_alive, degree_in, degree_at, degree_left, denominator, coefficient_bound, AreProductsBounded, IsSmall}
use Rattle.monomial_products.specs.Formed.{IsFactorOf, AreProductsOf}
use Rattle.monomial_products.proofs.Pieces.{flat_below}
use Rattle.monomial_products.proofs.JoinedLaws.{inner, crossed}
use Rattle.monomial_products.proofs.NextLaws.{RowsAt, rows_are, row_within, next_sizes, next_products}
use Rattle.monomial_products.proofs.PartLaws.{IsPartOn, lawful_part, some_is}
use Rattle.monomial_products.proofs.FormedLaws.{alive_within, fits, fits_role}

-- ---- a part of one node
single_degree : (c : Cell) (q : ℕ) → q ≤ 3 → node_count c q ≤ 1 → (q ≡ 0) × (node_count c q ≡ 1)
single_degree Interval zero h g = (refl, refl)
single_degree Triangle zero h g = (refl, refl)
single_degree Tetrahedron zero h g = (refl, refl)
single_degree Interval (suc zero) h g = absurd (omega arith)
single_degree Interval (suc (suc zero)) h g = absurd (omega arith)
single_degree Interval (suc (suc (suc zero))) h g = absurd (omega arith)
single_degree Triangle (suc zero) h g = absurd (omega arith)
single_degree Triangle (suc (suc zero)) h g = absurd (omega arith)
single_degree Triangle (suc (suc (suc zero))) h g = absurd (omega arith)
single_degree Tetrahedron (suc zero) h g = absurd (omega arith)
single_degree Tetrahedron (suc (suc zero)) h g = absurd (omega arith)
single_degree Tetrahedron (suc (suc (suc zero))) h g = absurd (omega arith)
single_degree c (suc (suc (suc (suc q)))) h g = absurd (omega arith)

sums_same : (ws : List ℕ) → weights_of ws ≡ weight_sum ws
sums_same [] = refl
sums_same (w ∷ ws) = ap (λ n. w + n) (sums_same ws)

one_function : (d : ℕ) (p : Part) → IsPartOn (cell_in d) p → p.degree ≡ 0 → p.nodes ≡ 1 → node_function d (reference d) p 0 ≡ one
one_function d p h e n =
    degree_zero (reference d) (slice_index_or (nodes_of (cell_in d) p.degree) 0 [])
    (sums_same _ ∙ (node_on (cell_in d) p.degree 0 h.degree (omega (arith, h.nodes, n))).sum ∙ e)

none : (n : ℕ) → n ≡ 0 - 0 + n
none n = omega arith

once_more : (n : ℕ) → n ≡ 1 * n
once_more n = omega arith

twice : (n : ℕ) → n ≡ 1 * 1 * n
twice n = omega arith

-- ---- an atom whose function is 1
pub record IsOne (l : Layout) (x : Atom) (p : Part) : Type 0 where
  pub degree : p.degree ≡ 0
  pub nodes : p.nodes ≡ 1
  pub count : derivative_count x ≡ 0
  pub function : node_function l.d (reference l.d) p 0 ≡ one

pub is_one : (l : Layout) → IsLawfulLayout l → (x : Atom) (p : Part) → slice_get (role_parts l x.f.role) x.component ≡ Some p → is_alive l x ≡ true → p.nodes ≤ 1 → IsOne l x p
is_one l h x p e a n =
    let part = lawful_part l h x.f.role x.component p e in
    let single = single_degree (cell_in l.d) p.degree part.degree (omega (arith, part.nodes)) in
    let nodes : p.nodes ≡ 1 = part.nodes ∙ single.1 in
    record {
      degree = single.0;
      nodes = nodes;
      count = omega (arith, single.0, alive_within _ p (derivative_count x) e a);
      function = one_function l.d p part single.0 nodes;
    }

times_one : (ps : List Polynomial) → map (times one) ps ≡ ps
times_one [] = refl
times_one (p ∷ ps) = ap₂ ◌∷◌ (L.one-mul polynomials p) (times_one ps)

crossed_one : (d k : ℕ) (f : Polynomial) (ps : List Polynomial) → k ≡ 0 → f ≡ one → crossed (all_along d k f) ps ≡ ps
crossed_one d k f ps e h = ap₂ (λ m g. crossed (all_along d m g) ps) e h ∙ append_nothing (map (times one) ps) ∙ times_one ps

row_single : (src : Source) (n : ℕ) → n ≡ 1 → row_count src n ≡ 1
row_single source.Test n e = refl
row_single source.Trial n e = refl
row_single source.Summed n e = e

rows_one : (l : Layout) (x : Atom) (xs : List Atom) (p : Part) → IsOne l x p → (a b t u : ℕ) (src : Source) → ((k : ℕ) → k < row_count src p.nodes → first_row src t u + k < p.nodes)
    → RowsAt l p x xs a b src t u ≡ products_at l a b xs
rows_one l x xs p o a b t u src r =
    ap (λ n. flat_map (λ i. flat_map (λ ns. crossed (all_along l.d (derivative_count x) (node_function l.d (reference l.d) p (first_row src t u + i))) (inner l a b xs ns)) (digit_lists (node_counts l xs))) (numbers_below n)) (row_single src p.nodes o.nodes)
    ∙ append_nothing _
    ∙ flat_same _ _ (λ ns. crossed_one l.d (derivative_count x) _ (inner l a b xs ns) o.count
    (ap (node_function l.d (reference l.d) p) (first (r 0 (omega (arith, row_single src p.nodes o.nodes)))) ∙ o.function)) (digit_lists (node_counts l xs))
  where
    first : first_row src t u + 0 < p.nodes → first_row src t u + 0 ≡ 0
    first h = omega (arith, o.nodes)

own_skip : (s : Support) (r : Role) (x : Atom) (xs : List Atom) → (is_role x.f.role r ≡ true → places_at s ≡ 1) → own_places s r (x ∷ xs) ≡ own_places s r xs
own_skip s r x xs h = go (is_role x.f.role r) (has_role r xs) h
  where
    go : (c b : Bool) → (c ≡ true → places_at s ≡ 1) → (if c || b then places_at s else 1) ≡ (if b then places_at s else 1)
    go true true h = refl
    go true false h = h refl
    go false b h = refl

same_role : (r q : Role) → (is_role r Test ≡ true → r ≡ Test) × (is_role r Trial ≡ true → r ≡ Trial)
same_role Test q = ((λ e. refl), λ e. absurd (apart e))
  where
    apart : false ≡ true → ⊥
    apart e = cc
same_role Trial q = ((λ e. absurd (apart e)), λ e. refl)
  where
    apart : false ≡ true → ⊥
    apart e = cc
same_role Position q = ((λ e. absurd (apart e)), λ e. absurd (apart e))
  where
    apart : false ≡ true → ⊥
    apart e = cc
same_role (Coefficient n) q = ((λ e. absurd (apart e)), λ e. absurd (apart e))
  where
    apart : false ≡ true → ⊥
    apart e = cc

module _ (l : Layout) (tests trials : Support) (x : Atom) (xs : List Atom) (p : Part) (e : slice_get (role_parts l x.f.role) x.component ≡ Some p)
    (on : AreOn l Test tests (x ∷ xs)) (too : AreOn l Trial trials (x ∷ xs)) (o : IsOne l x p) where
  tests_one : is_role x.f.role Test ≡ true → places_at tests ≡ 1
  tests_one h =
      let w = on.0 h in
      let q : w.0 ≡ p = some_is w.0 p (sym w.2 ∙ ap (λ r. slice_get (role_parts l r) x.component) (sym ((same_role x.f.role x.f.role).0 h)) ∙ e) in
      ap places_at w.1 ∙ ap (λ (z : Part). z.nodes) q ∙ o.nodes

  trials_one : is_role x.f.role Trial ≡ true → places_at trials ≡ 1
  trials_one h =
      let w = too.0 h in
      let q : w.0 ≡ p = some_is w.0 p (sym w.2 ∙ ap (λ r. slice_get (role_parts l r) x.component) (sym ((same_role x.f.role x.f.role).1 h)) ∙ e) in
      ap places_at w.1 ∙ ap (λ (z : Part). z.nodes) q ∙ o.nodes

  pub skipped_items : products_of l tests trials (x ∷ xs) ≡ products_of l tests trials xs
  skipped_items =
      flat_below _ (λ t. flat_map (λ u. products_at l (node_at tests t) (node_at trials u) xs) (numbers_below (own_places trials Trial (x ∷ xs)))) (own_places tests Test (x ∷ xs)) (λ t m.
      flat_below _ (λ u. products_at l (node_at tests t) (node_at trials u) xs) (own_places trials Trial (x ∷ xs)) (λ u n.
      sym (rows_are l tests trials x xs p t u x.f.role e on.0 too.0 m n)
      ∙ rows_one l x xs p o (node_at tests t) (node_at trials u) t u (source_of x.f.role) (row_within l tests trials x.component t u xs p x.f.role e on.0 too.0 m n)))
      ∙ ap₂ (λ n m. flat_map (λ t. flat_map (λ u. products_at l (node_at tests t) (node_at trials u) xs) (numbers_below m)) (numbers_below n))
      (own_skip tests Test x xs tests_one) (own_skip trials Trial x xs trials_one)

  with_one : (s : Sizes) (src : Source) (n k : ℕ) → n ≡ 1 → k ≡ 1 → (src ≡ source.Test → s.tests ≡ 1) → (src ≡ source.Trial → s.trials ≡ 1) → with_factor s src n k ≡ s
  with_one s source.Test n k h g t u = ap₂ (λ m d. record s { tests = m; directions = d }) (h ∙ sym (t refl)) (ap (λ m. m * s.directions) g ∙ once s.directions)
    where
      once : (n : ℕ) → 1 * n ≡ n
      once n = omega arith
  with_one s source.Trial n k h g t u = ap₂ (λ m d. record s { trials = m; directions = d }) (h ∙ sym (u refl)) (ap (λ m. m * s.directions) g ∙ once s.directions)
    where
      once : (n : ℕ) → 1 * n ≡ n
      once n = omega arith
  with_one s source.Summed n k h g t u = ap₂ (λ m d. record s { nodes = m; directions = d }) (ap (λ m. m * s.nodes) h ∙ once s.nodes) (ap (λ m. m * s.directions) g ∙ once s.directions)
    where
      once : (n : ℕ) → 1 * n ≡ n
      once n = omega arith

  pub skipped_sizes : sizes_of l tests trials (x ∷ xs) ≡ sizes_of l tests trials xs
  skipped_sizes =
      let r = fits_role l tests trials x.component xs p x.f.role e on.0 too.0 in
      sym (next_sizes l tests trials x xs p e on too)
      ∙ with_one (sizes_of l tests trials xs) (source_of x.f.role) p.nodes (l.d ^ derivative_count x) o.nodes (ap (λ k. l.d ^ k) o.count ∙ pow-zero l.d)
      (λ z. single (r.0 z)) (λ z. single (r.1 z))
    where
      single : {n : ℕ} → (n ≡ 1) ⊎ (n ≡ p.nodes) → n ≡ 1
      single (inl h) = h
      single (inr h) = h ∙ o.nodes

  pub skipped_bounds : (ps : List (List Term)) → AreProductsBounded l xs ps → AreProductsBounded l (x ∷ xs) ps
  skipped_bounds ps h = at (degree_at l x) (derivative_count x) (ap degree_in e ∙ o.degree) o.count
    where
      at : (q k : ℕ) → q ≡ 0 → k ≡ 0 → AreBounded l.d (q - k + degree_left l xs) (factorial q * denominator l xs) (basis_bound q * 3 ^ k * coefficient_bound l xs) ps
      at q k f g =
          subst (λ m. AreBounded l.d (m - k + degree_left l xs) (factorial m * denominator l xs) (basis_bound m * 3 ^ k * coefficient_bound l xs) ps) (sym f)
          (subst (λ m. AreBounded l.d (0 - m + degree_left l xs) (1 * denominator l xs) (1 * 3 ^ m * coefficient_bound l xs) ps) (sym g)
          (subst (λ m. AreBounded l.d m (1 * denominator l xs) (1 * 1 * coefficient_bound l xs) ps) (none (degree_left l xs))
          (subst (λ m. AreBounded l.d (degree_left l xs) m (1 * 1 * coefficient_bound l xs) ps) (once_more (denominator l xs))
          (subst (λ m. AreBounded l.d (degree_left l xs) (denominator l xs) m ps) (twice (coefficient_bound l xs)) h))))

-- ---- any other atom
pub formed_fits : (l : Layout) → IsLawfulLayout l → (tests trials : Support) (x : Atom) (xs : List Atom) (f : Factor) (q : Products) → IsFactorOf l x f → AreProductsOf l tests trials xs q
    → AreOn l Test tests (x ∷ xs) → AreOn l Trial trials (x ∷ xs) → IsSmall l (x ∷ xs) → Fit q.sizes f.source f.nodes f.directions
formed_fits l h tests trials x xs f q i a on too s =
    subst (λ z. Fit z f.source f.nodes f.directions) (sym a.sizes)
    (subst (λ z. Fit (sizes_of l tests trials xs) z f.nodes f.directions) (sym i.source)
    (subst (λ z. Fit (sizes_of l tests trials xs) (source_of x.f.role) z f.directions) (sym i.nodes)
    (subst (λ z. Fit (sizes_of l tests trials xs) (source_of x.f.role) i.part.nodes z) (sym i.directions)
    (fits l h tests trials x xs i.part i.own on too s))))

pub formed_items : (l : Layout) (tests trials : Support) (x : Atom) (xs : List Atom) (f : Factor) (q r : Products) → IsFactorOf l x f → AreProductsOf l tests trials xs q
    → AreOn l Test tests (x ∷ xs) → AreOn l Trial trials (x ∷ xs)
    → map value_of r.items.items ≡ joined times f.directions (map value_of f.functions.items) q.sizes.directions (map value_of q.items.items) (pairs_of q.sizes f.source f.nodes f.directions)
    → map value_of r.items.items ≡ products_of l tests trials (x ∷ xs)
formed_items l tests trials x xs f q r i a on too v =
    v
    ∙ ap₂ (λ rows blocks. joined times f.directions rows q.sizes.directions blocks (pairs_of q.sizes f.source f.nodes f.directions)) i.functions a.items
    ∙ ap (λ z. joined times f.directions (derived_functions l.d i.part (derivative_count x)) z.directions (products_of l tests trials xs) (pairs_of z f.source f.nodes f.directions)) a.sizes
    ∙ ap₂ (λ s n. joined times f.directions (derived_functions l.d i.part (derivative_count x)) (l.d ^ derivatives xs) (products_of l tests trials xs) (pairs_of (sizes_of l tests trials xs) s n f.directions)) i.source i.nodes
    ∙ ap (λ d. joined times d (derived_functions l.d i.part (derivative_count x)) (l.d ^ derivatives xs) (products_of l tests trials xs) (pairs_of (sizes_of l tests trials xs) (source_of x.f.role) i.part.nodes d)) i.directions
    ∙ next_products l tests trials x xs i.part i.own on too

pub formed_sizes : (l : Layout) (tests trials : Support) (x : Atom) (xs : List Atom) (f : Factor) (q r : Products) → IsFactorOf l x f → AreProductsOf l tests trials xs q
    → AreOn l Test tests (x ∷ xs) → AreOn l Trial trials (x ∷ xs) → r.sizes ≡ with_factor q.sizes f.source f.nodes f.directions → r.sizes ≡ sizes_of l tests trials (x ∷ xs)
formed_sizes l tests trials x xs f q r i a on too v =
    v ∙ ap₂ (λ z s. with_factor z s f.nodes f.directions) a.sizes i.source
    ∙ ap₂ (with_factor (sizes_of l tests trials xs) (source_of x.f.role)) i.nodes i.directions
    ∙ next_sizes l tests trials x xs i.part i.own on too

pub formed_bounds : (l : Layout) (x : Atom) (xs : List Atom) (p : Part) (ps : List (List Term)) → slice_get (role_parts l x.f.role) x.component ≡ Some p
    → AreBounded l.d (p.degree - derivative_count x + degree_left l xs) (factorial p.degree * denominator l xs) (basis_bound p.degree * 3 ^ derivative_count x * coefficient_bound l xs) ps
    → AreProductsBounded l (x ∷ xs) ps
formed_bounds l x xs p ps e h =
    subst (λ z. AreBounded l.d (z - derivative_count x + degree_left l xs) (factorial z * denominator l xs) (basis_bound z * 3 ^ derivative_count x * coefficient_bound l xs) ps) (sym (ap degree_in e)) h
