-- The nodes at which a monomial has rows: they are nodes of the argument, and few; all other rows are zero
use Rattle.std.proofs.Common.{◌≡◌, ℕ, zero, suc, ◌+◌, ◌-◌, ◌*◌, ◌^◌, ◌<◌, ◌≤◌, ◌⊎◌, inl, inr, max, Bool, true, false, ◌&&◌, if◌then◌else◌, nat_le, nat_lt, Option, None, Some, List, [], ◌∷◌, length, map, get_or, refl, sym, ap, ap₂, ◌∙◌, subst, arith}
use Rattle.std.specs.Prelude.{slice_get, ◌==◌}
use Rattle.std.specs.List.{AllByRecursion}
use Rattle.std.proofs.lemmas.List.{length-map}
use Rattle.std.proofs.lemmas.Bool.Decides.{nat_tests}
use native.Mathlib.Nat as N
use Rattle.algebra.specs.Fraction.{Fraction, is_zero_fraction}
use Rattle.algebra.proofs.InverseLaws.{zero_is_zero}
use Rattle.ratio.specs.declared.reduced.Ratio.{Ratio}
use Rattle.ratio.specs.Value.{fraction_of}
use Rattle.spaces.specs.declared.cell.Cell.{Cell}
use Rattle.spaces.specs.declared.parts.Part.{Part}
use Rattle.spaces.specs.declared.parts.Parts.{Parts}
use Rattle.ufl_tree.specs.declared.function.Role.{Role}
use Rattle.ufl_tree.specs.declared.function.Role.TheVariants.{Test, Trial, Position, Coefficient}
use Rattle.monos.specs.declared.layout.CoefPlace.{CoefPlace}
use Rattle.monos.specs.declared.layout.Layout.{Layout}
use Rattle.monos.specs.declared.mono.Atom.{Atom}
use Rattle.monos.specs.Layout.{IsLawfulLayout, MayBeOn, parts_or_none, place_of, place_parts, role_parts}
use Rattle.monos.specs.Monomial.{Monomial, derivative_count, derivatives}
use Rattle.monos.proofs.LayoutLaws.{parts_within}
use Rattle.weigh.specs.Lists.{costs, spread}
use Rattle.refint.specs.Local.{count_in, entries_of, position_part}
use Rattle.refint.specs.Reference.{is_argument, items, nodes_in, part_in, part_of}
use Rattle.monomial_products.specs.declared.support.Support.{Support}
use Rattle.monomial_products.specs.declared.support.Support.TheVariants.{Everywhere, Nowhere, OnPart}
use Rattle.monomial_products.specs.Supports.{is_role, narrowed, place_at, places_at, support_from, support_of}
use Rattle.monomial_weights.specs.Columns.{column_count}
use Rattle.monomial_weights.specs.Weighed.{cost_at}
use Rattle.tensors.specs.Rows.{AreZero, fractions_of as row_fractions, rows_of}
use Rattle.tensors.proofs.OutsideLaws.{outside_tests, outside_trials}
use Rattle.tensors.proofs.RowLaws.{rows_at, rows_counted}
use Rattle.kernel_statements.specs.Counted.{is_zero_row}
use Rattle.kernel_statements.specs.Digits.{end_node, first_node}
use Rattle.kernel_statements.specs.declared.digits.Nodes.{Nodes}
use Rattle.kernel_statements.proofs.CountedLaws.{all_contained}
use Rattle.kernel_statements.proofs.FoundLaws.{get_map}
use Rattle.planner.specs.Contractions.{IsInside, IsOnNodes}
use Rattle.planner.specs.Kernels.{HasArguments, HasAtomOf}
use Rattle.planner.proofs.CostLaws.{nodes_covered, raised}

-- ---- the part of a support is one of the argument's
same_part : (p q : Part) → OnPart p ≡ OnPart q → Some p ≡ Some q
same_part p q e = cc

no_part : {A : Type 0} (p : Part) → Nowhere ≡ OnPart p → A
no_part p e = absurd (cc)

not_all : {A : Type 0} (p : Part) → Everywhere ≡ OnPart p → A
not_all p e = absurd (cc)

narrowed_on : (s : Support) (o : Option Part) (p : Part) → narrowed s o ≡ OnPart p → (s ≡ OnPart p) ⊎ (o ≡ Some p)
narrowed_on Everywhere None p e = no_part p e
narrowed_on (OnPart q) None p e = no_part p e
narrowed_on Nowhere None p e = no_part p e
narrowed_on Everywhere (Some q) p e = inr (same_part q p e)
narrowed_on (OnPart q) (Some r) p e = go (q.offset == r.offset) e
  where
    go : (t : Bool) → (if t then OnPart q else Nowhere) ≡ OnPart p → (OnPart q ≡ OnPart p) ⊎ (Some r ≡ Some p)
    go true e = inl e
    go false e = no_part p e
narrowed_on Nowhere (Some q) p e = no_part p e

on_part : (l : Layout) (r : Role) (s : Support) (xs : List Atom) (p : Part) → support_from s l r xs ≡ OnPart p
    → (s ≡ OnPart p) ⊎ ((i : ℕ) × (slice_get (role_parts l r) i ≡ Some p))
on_part l r s [] p e = inl e
on_part l r s (x ∷ xs) p e =
    elim (on_part l r (if is_role x.f.role r then narrowed s (slice_get (role_parts l r) x.component) else s) xs p e) [
      | inl h ↦ here (is_role x.f.role r) h
      | inr h ↦ inr h
    ]
  where
    here : (t : Bool) → (if t then narrowed s (slice_get (role_parts l r) x.component) else s) ≡ OnPart p
        → (s ≡ OnPart p) ⊎ ((i : ℕ) × (slice_get (role_parts l r) i ≡ Some p))
    here true h = elim (narrowed_on s (slice_get (role_parts l r) x.component) p h) [
      | inl e ↦ inl e
      | inr e ↦ inr (x.component, e)
    ]
    here false h = inl h

abbrev pub IsPartOf : Parts → Support → Type 0
IsPartOf ps s = (p : Part) → s ≡ OnPart p → (p.offset + p.nodes ≤ ps.local) × (entries_of ps ≡ ps.local)

some_entries : (ps : List Part) (n i : ℕ) (p : Part) → slice_get ps i ≡ Some p → count_in ps n ≡ n
some_entries [] n zero p e = absurd (cc)
some_entries [] n (suc i) p e = absurd (cc)
some_entries (q ∷ ps) n i p e = refl

part_of_these : (c : Cell) (ps : Parts) → MayBeOn c ps → (s : Support) (p : Part) → s ≡ OnPart p → (Everywhere ≡ OnPart p) ⊎ ((i : ℕ) × (slice_get ps.items i ≡ Some p))
    → (p.offset + p.nodes ≤ ps.local) × (entries_of ps ≡ ps.local)
part_of_these c ps h s p e w = elim w [
  | inl q ↦ not_all p q
  | inr q ↦ (parts_within c ps h q.0 p q.1, some_entries ps.items ps.local q.0 p q.1)
]

pub test_part : (l : Layout) → IsLawfulLayout l → (xs : List Atom) → IsPartOf l.rows (support_of l Test xs)
test_part l h xs p e = part_of_these h.0 l.rows h.1.rows (support_of l Test xs) p e (on_part l Test Everywhere xs p e)

pub trial_part : (l : Layout) → IsLawfulLayout l → (xs : List Atom) → IsPartOf l.cols (support_of l Trial xs)
trial_part l h xs p e = part_of_these h.0 l.cols h.1.cols (support_of l Trial xs) p e (on_part l Trial Everywhere xs p e)

pub end_within : (ps : Parts) (s : Support) → IsPartOf ps s → end_node ps s ≤ entries_of ps
end_within ps Everywhere h = N.le_refl (entries_of ps)
end_within ps (OnPart p) h = let k = h p refl in omega (arith, k.0, k.1)
end_within ps Nowhere h = omega arith

pub in_order : (ps : Parts) (s : Support) → first_node s ≤ end_node ps s
in_order ps Everywhere = omega arith
in_order ps (OnPart p) = omega arith
in_order ps Nowhere = omega arith

-- a node is inside, or has no place
pub inside_or_none : (ps : Parts) (s : Support) (a : ℕ) → a < entries_of ps → ((first_node s ≤ a) × (a < end_node ps s)) ⊎ (place_at s a ≡ None)
inside_or_none ps Everywhere a h = inl (omega arith, h)
inside_or_none ps (OnPart p) a h = go (nat_le p.offset a) (nat_lt (a - p.offset) p.nodes) refl refl
  where
    at_least : (o a : ℕ) → nat_le o a ≡ true → o ≤ a
    at_least o a e = grind (arith, nat_tests)

    below : (o a n : ℕ) → nat_le o a ≡ true → nat_lt (a - o) n ≡ true → a < o + n
    below o a n e f = grind (arith, nat_tests)

    go : (s t : Bool) → nat_le p.offset a ≡ s → nat_lt (a - p.offset) p.nodes ≡ t
        → ((p.offset ≤ a) × (a < p.offset + p.nodes)) ⊎ ((if s && t then Some (a - p.offset) else None) ≡ None)
    go true true e f = inl (at_least p.offset a e, below p.offset a p.nodes e f)
    go true false e f = inr refl
    go false t e f = inr refl
inside_or_none ps Nowhere a h = inr refl

-- ---- rows elsewhere are zero
below_or_not : (a b : ℕ) → (a < b) ⊎ (b ≤ a)
below_or_not a b = grind arith

zero_tests : (xs : List Fraction) → AreZero xs → is_zero_row xs ≡ true
zero_tests [] h = refl
zero_tests (x ∷ xs) h = ap₂ (λ s t. s && t) (ap is_zero_fraction h.0 ∙ zero_is_zero) (zero_tests xs h.1)

module _ (l : Layout) (lawful : IsLawfulLayout l) (m : Monomial) (rows : List (List Ratio)) (same : row_fractions rows ≡ rows_of l m) where
  pub rows_long : length rows ≡ entries_of l.rows * entries_of l.cols
  rows_long = sym (length-map rows (map fraction_of)) ∙ ap length same ∙ rows_counted l m

  line_below : (a b : ℕ) → a * entries_of l.cols + b < length rows → a < entries_of l.rows
  line_below a b h = elim (below_or_not a (entries_of l.rows)) [
    | inl g ↦ g
    | inr g ↦
        let more : entries_of l.rows * entries_of l.cols ≤ a * entries_of l.cols = N.mul-le-mul_right (entries_of l.cols) g in
        let long = rows_long in
        absurd (omega arith)
  ]

  row_here : (a b : ℕ) → a * entries_of l.cols + b < length rows → b < entries_of l.cols → map fraction_of (get_or rows (a * entries_of l.cols + b) []) ≡ items l m a b
  row_here a b h g =
      sym (get_map (map fraction_of) rows (a * entries_of l.cols + b) [] [] h) ∙ ap (λ rs. get_or rs (a * entries_of l.cols + b) []) same
      ∙ ap (λ k. get_or (rows_of l m) (k + b) []) (N.mul_comm a (entries_of l.cols)) ∙ rows_at l m a b (line_below a b h) g

  zero_here : (a b : ℕ) → a * entries_of l.cols + b < length rows → b < entries_of l.cols → AreZero (items l m a b)
      → is_zero_row (map fraction_of (get_or rows (a * entries_of l.cols + b) [])) ≡ true
  zero_here a b h g z = ap is_zero_row (row_here a b h g) ∙ zero_tests (items l m a b) z

  module _ (tests trials : Nodes) (test_from : tests.from ≡ first_node (support_of l Test m.atoms)) (test_to : tests.to ≡ end_node l.rows (support_of l Test m.atoms))
      (trial_from : trials.from ≡ first_node (support_of l Trial m.atoms)) (trial_to : trials.to ≡ end_node l.cols (support_of l Trial m.atoms)) where
    test_inside : (a : ℕ) → a < entries_of l.rows → IsInside tests a ⊎ (place_at (support_of l Test m.atoms) a ≡ None)
    test_inside a h = elim (inside_or_none l.rows (support_of l Test m.atoms) a h) [
      | inl i ↦ inl (subst (λ n. n ≤ a) (sym test_from) i.0, subst (λ n. a < n) (sym test_to) i.1)
      | inr e ↦ inr e
    ]

    trial_inside : (b : ℕ) → b < entries_of l.cols → IsInside trials b ⊎ (place_at (support_of l Trial m.atoms) b ≡ None)
    trial_inside b h = elim (inside_or_none l.cols (support_of l Trial m.atoms) b h) [
      | inl i ↦ inl (subst (λ n. n ≤ b) (sym trial_from) i.0, subst (λ n. b < n) (sym trial_to) i.1)
      | inr e ↦ inr e
    ]

    inside_or_zero : (a b : ℕ) → a * entries_of l.cols + b < length rows → b < entries_of l.cols
        → (IsInside tests a × IsInside trials b) ⊎ (is_zero_row (map fraction_of (get_or rows (a * entries_of l.cols + b) [])) ≡ true)
    inside_or_zero a b h g = elim (test_inside a (line_below a b h)) [
      | inl s ↦ elim (trial_inside b g) [
        | inl t ↦ inl (s, t)
        | inr e ↦ inr (zero_here a b h g (outside_trials l lawful m a b e))
      ]
      | inr e ↦ inr (zero_here a b h g (outside_tests l lawful m a b e))
    ]

    pub on_nodes : (tests.to - tests.from) * (trials.to - trials.from) ≤ 2 ^ 20 → IsOnNodes rows (entries_of l.cols) tests trials
    on_nodes few =
        let long = rows_long in
        let test_end : tests.to ≤ entries_of l.rows = subst (λ n. n ≤ entries_of l.rows) (sym test_to) (end_within l.rows (support_of l Test m.atoms) (test_part l lawful m.atoms)) in
        let within : tests.to * entries_of l.cols ≤ entries_of l.rows * entries_of l.cols = N.mul-le-mul_right (entries_of l.cols) test_end in
        record {
          full = (entries_of l.rows, long);
          test_order = subst (λ n. n ≤ tests.to) (sym test_from) (subst (λ n. first_node (support_of l Test m.atoms) ≤ n) (sym test_to) (in_order l.rows (support_of l Test m.atoms)));
          trial_order = subst (λ n. n ≤ trials.to) (sym trial_from) (subst (λ n. first_node (support_of l Trial m.atoms) ≤ n) (sym trial_to) (in_order l.cols (support_of l Trial m.atoms)));
          test = subst (λ n. tests.to * entries_of l.cols ≤ n) (sym long) within;
          trial = subst (λ n. n ≤ entries_of l.cols) (sym trial_to) (end_within l.cols (support_of l Trial m.atoms) (trial_part l lawful m.atoms));
          few = few;
          zeros = inside_or_zero;
        }

-- ---- few nodes
-- the product of the numbers of nodes of an argument's atoms, none counted as 0
abbrev pub own_nodes : Layout → Role → List Atom → ℕ
own_nodes l r [] = 1
own_nodes l r (x ∷ xs) = (if is_role x.f.role r then max 1 (nodes_in (slice_get (role_parts l r) x.component)) else 1) * own_nodes l r xs

times_one : (a b : ℕ) → 1 ≤ b → a ≤ a * b
times_one a b h = subst (λ n. n ≤ a * b) (N.mul-one a) (N.mul-le-mul_left a h)

narrowed_places : (s : Support) (o : Option Part) → places_at (narrowed s o) ≤ places_at s * max 1 (nodes_in o)
narrowed_places Everywhere None = omega arith
narrowed_places (OnPart q) None = omega arith
narrowed_places Nowhere None = omega arith
narrowed_places Everywhere (Some p) = omega arith
narrowed_places (OnPart q) (Some p) = go (q.offset == p.offset)
  where
    go : (t : Bool) → places_at (if t then OnPart q else Nowhere) ≤ q.nodes * max 1 p.nodes
    go true = times_one q.nodes (max 1 p.nodes) (omega arith)
    go false = omega arith
narrowed_places Nowhere (Some p) = omega arith

places_from : (l : Layout) (r : Role) (s : Support) (xs : List Atom) → places_at (support_from s l r xs) ≤ places_at s * own_nodes l r xs
places_from l r s [] = N.le_of_eq (sym (N.mul-one (places_at s)))
places_from l r s (x ∷ xs) = go (λ k. places_from l r k xs) (is_role x.f.role r)
  where
    go : ((k : Support) → places_at (support_from k l r xs) ≤ places_at k * own_nodes l r xs) → (t : Bool)
        → places_at (support_from (if t then narrowed s (slice_get (role_parts l r) x.component) else s) l r xs)
        ≤ places_at s * ((if t then max 1 (nodes_in (slice_get (role_parts l r) x.component)) else 1) * own_nodes l r xs)
    go rest true =
        N.le_trans (rest (narrowed s (slice_get (role_parts l r) x.component)))
        (subst (λ n. places_at (narrowed s (slice_get (role_parts l r) x.component)) * own_nodes l r xs ≤ n)
        (N.mul_assoc (places_at s) (max 1 (nodes_in (slice_get (role_parts l r) x.component))) (own_nodes l r xs))
        (N.mul-le-mul_right (own_nodes l r xs) (narrowed_places s (slice_get (role_parts l r) x.component))))
    go rest false = subst (λ n. places_at (support_from s l r xs) ≤ places_at s * n) (sym (N.one-mul (own_nodes l r xs))) (rest s)

places_few : (l : Layout) (r : Role) (xs : List Atom) → places_at (support_of l r xs) ≤ own_nodes l r xs
places_few l r xs = subst (λ n. places_at (support_of l r xs) ≤ n) (N.one-mul (own_nodes l r xs)) (places_from l r Everywhere xs)

-- the factors of one atom
atom_nodes : (l : Layout) (r : Role) (i : ℕ)
    → (if is_role r Test then max 1 (nodes_in (slice_get (role_parts l Test) i)) else 1)
    * ((if is_role r Trial then max 1 (nodes_in (slice_get (role_parts l Trial) i)) else 1) * (if is_argument r then 1 else nodes_in (part_of l r i)))
    ≤ max 1 (nodes_in (slice_get (role_parts l r) i))
atom_nodes l Test i = omega arith
atom_nodes l Trial i = omega arith
atom_nodes l Position i = at l.position
  where
    at : (p : Option Parts) → 1 * (1 * nodes_in (position_part p i)) ≤ max 1 (nodes_in (slice_get (parts_or_none p) i))
    at None = omega arith
    at (Some p) = omega arith
atom_nodes l (Coefficient n) i = at (place_of l.coefs n)
  where
    at : (c : Option CoefPlace) → 1 * (1 * nodes_in (part_in c i)) ≤ max 1 (nodes_in (slice_get (place_parts c) i))
    at None = omega arith
    at (Some c) = omega arith

all_nodes : (l : Layout) (xs : List Atom) → own_nodes l Test xs * (own_nodes l Trial xs * column_count l xs) ≤ costs (cost_at l) xs * l.d ^ derivatives xs
all_nodes l [] = N.le_of_eq (sym (ap (λ p. 1 * p) (N.pow-zero l.d)))
all_nodes l (x ∷ xs) =
    raised l.d (derivative_count x) (derivatives xs) (own_nodes l Test (x ∷ xs) * (own_nodes l Trial (x ∷ xs) * column_count l (x ∷ xs))) (cost_at l x.f) (costs (cost_at l) xs)
    (subst (λ n. n ≤ cost_at l x.f * l.d ^ derivative_count x * (costs (cost_at l) xs * l.d ^ derivatives xs))
    (turned (if is_role x.f.role Test then max 1 (nodes_in (slice_get (role_parts l Test) x.component)) else 1)
    (if is_role x.f.role Trial then max 1 (nodes_in (slice_get (role_parts l Trial) x.component)) else 1)
    (if is_argument x.f.role then 1 else nodes_in (part_of l x.f.role x.component)) (l.d ^ derivative_count x)
    (own_nodes l Test xs) (own_nodes l Trial xs) (column_count l xs))
    (N.mul-le-mul
    (N.mul-le-mul_right (l.d ^ derivative_count x) (N.le_trans (atom_nodes l x.f.role x.component) (nodes_covered (role_parts l x.f.role) x.component)))
    (all_nodes l xs)))
  where
    turned : (t u n p T U C : ℕ) → t * (u * n) * p * (T * (U * C)) ≡ t * T * (u * U * (n * p * C))
    turned t u n p T U C = omega arith

-- ---- where each argument that occurs has an atom
narrowed_off : (s : Support) (o : Option Part) → narrowed s o ≡ Everywhere → ⊥
narrowed_off Everywhere None e = cc
narrowed_off (OnPart q) None e = cc
narrowed_off Nowhere None e = cc
narrowed_off Everywhere (Some p) e = cc
narrowed_off (OnPart q) (Some p) e = go (q.offset == p.offset) e
  where
    go : (t : Bool) → (if t then OnPart q else Nowhere) ≡ Everywhere → ⊥
    go true e = cc
    go false e = cc
narrowed_off Nowhere (Some p) e = cc

everywhere : (l : Layout) (r : Role) (s : Support) (xs : List Atom) → support_from s l r xs ≡ Everywhere → (s ≡ Everywhere) × AllByRecursion (λ x. is_role x.f.role r ≡ false) xs
everywhere l r s [] e = (e, tt)
everywhere l r s (x ∷ xs) e =
    let rest = everywhere l r (if is_role x.f.role r then narrowed s (slice_get (role_parts l r) x.component) else s) xs e in
    go (is_role x.f.role r) rest.0 rest.1
  where
    go : (t : Bool) → (if t then narrowed s (slice_get (role_parts l r) x.component) else s) ≡ Everywhere → AllByRecursion (λ x. is_role x.f.role r ≡ false) xs
        → (s ≡ Everywhere) × ((t ≡ false) × AllByRecursion (λ x. is_role x.f.role r ≡ false) xs)
    go true e rest = absurd (narrowed_off s (slice_get (role_parts l r) x.component) e)
    go false e rest = (e, (refl, rest))

no_entries : (ps : List Part) (n : ℕ) → (0 < length ps → ⊥) → count_in ps n ≡ 1
no_entries [] n h = refl
no_entries (p ∷ ps) n h = absurd (h (omega arith))

true_false : true ≡ false → ⊥
true_false e = cc

none_of : (l : Layout) (r : Role) (xs : List Atom) → is_role r r ≡ true → support_of l r xs ≡ Everywhere → HasAtomOf r xs → ⊥
none_of l r xs own e h =
    true_false (sym own ∙ ap (λ q. is_role q r) (sym h.2) ∙ all_contained (λ x. is_role x.f.role r ≡ false) xs h.0 (everywhere l r Everywhere xs e).1 h.1)

width_is : (ps : Parts) (s : Support) → (s ≡ Everywhere → entries_of ps ≡ 1) → end_node ps s - first_node s ≡ places_at s
width_is ps Everywhere h = let one = h refl in omega arith
width_is ps (OnPart p) h = omega arith
width_is ps Nowhere h = omega arith

pub test_width : (l : Layout) (m : Monomial) → HasArguments l m → end_node l.rows (support_of l Test m.atoms) - first_node (support_of l Test m.atoms) ≡ places_at (support_of l Test m.atoms)
test_width l m h = width_is l.rows (support_of l Test m.atoms) (λ e. no_entries l.rows.items l.rows.local (λ some. none_of l Test m.atoms refl e (h.test some)))

pub trial_width : (l : Layout) (m : Monomial) → HasArguments l m → end_node l.cols (support_of l Trial m.atoms) - first_node (support_of l Trial m.atoms) ≡ places_at (support_of l Trial m.atoms)
trial_width l m h = width_is l.cols (support_of l Trial m.atoms) (λ e. no_entries l.cols.items l.cols.local (λ some. none_of l Trial m.atoms refl e (h.trial some)))

-- the nodes times the columns are within the spread
pub nodes_spread : (l : Layout) (m : Monomial) → HasArguments l m → (tests trials : Nodes)
    → tests.from ≡ first_node (support_of l Test m.atoms) → tests.to ≡ end_node l.rows (support_of l Test m.atoms)
    → trials.from ≡ first_node (support_of l Trial m.atoms) → trials.to ≡ end_node l.cols (support_of l Trial m.atoms)
    → (tests.to - tests.from) * (trials.to - trials.from) * column_count l m.atoms ≤ spread (cost_at l) l.d m
nodes_spread l m h tests trials a b c d =
    let t : tests.to - tests.from ≡ places_at (support_of l Test m.atoms) = ap₂ (λ x y. x - y) b a ∙ test_width l m h in
    let u : trials.to - trials.from ≡ places_at (support_of l Trial m.atoms) = ap₂ (λ x y. x - y) d c ∙ trial_width l m h in
    subst (λ n. n ≤ spread (cost_at l) l.d m) (sym (ap₂ (λ x y. x * y * column_count l m.atoms) t u))
    (N.le_trans
    (N.mul-le-mul_right (column_count l m.atoms) (N.mul-le-mul (places_few l Test m.atoms) (places_few l Trial m.atoms)))
    (subst (λ n. n ≤ spread (cost_at l) l.d m) (sym (N.mul_assoc (own_nodes l Test m.atoms) (own_nodes l Trial m.atoms) (column_count l m.atoms))) (all_nodes l m.atoms)))
