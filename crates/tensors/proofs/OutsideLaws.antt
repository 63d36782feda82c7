-- Rows at nodes that aren't of the part of an atom are 0
use Rattle.std.proofs.Common.{◌≡◌, ℕ, zero, suc, ◌+◌, ◌-◌, ◌<◌, ◌≤◌, ◌⊎◌, inl, inr, Bool, true, false, ◌==◌, ◌&&◌, nat_le, nat_lt, if◌then◌else◌, List, [], ◌∷◌, Option, None, Some, refl, sym, ap, ◌∙◌, subst, arith}
use Rattle.std.specs.Prelude.{slice_get}
use Rattle.std.proofs.lemmas.Bool.Decides.{nat_tests}
use Rattle.spaces.specs.declared.cell.Cell.{Cell}
use Rattle.spaces.specs.declared.parts.Part.{Part}
use Rattle.spaces.specs.declared.parts.Parts.{Parts}
use Rattle.spaces.specs.Scalar.{Scalar, placed, laid_out}
use Rattle.spaces.specs.Space.{scalars}
use Rattle.ufl_tree.specs.declared.function.Role.{Role}
use Rattle.ufl_tree.specs.declared.function.Role.TheVariants.{Test, Trial, Position, Coefficient}
use Rattle.monos.specs.declared.layout.Layout.{Layout}
use Rattle.monos.specs.declared.mono.Atom.{Atom}
use Rattle.monos.specs.Layout.{MayBeOn, IsLawfulLayout, role_parts}
use Rattle.monos.specs.Monomial.{Monomial}
use Rattle.refint.specs.Reference.{items}
use Rattle.monomial_products.specs.declared.support.Support.{Support}
use Rattle.monomial_products.specs.declared.support.Support.TheVariants.{Everywhere, OnPart, Nowhere}
use Rattle.monomial_products.specs.Supports.{place_at, is_role, narrowed, support_from, support_of}
use Rattle.monomial_products.proofs.PartLaws.{some_is, none_some}
use Rattle.monomial_items.proofs.ZeroLaws.{partless_zero, tests_zero, trials_zero}
use Rattle.tensors.specs.Rows.{AreZero}

-- ---- parts begin at one node or have no node in common
abbrev AreDisjoint : List Part → Type 0
AreDisjoint ps =
    (i j : ℕ) (p q : Part) → slice_get ps i ≡ Some p → slice_get ps j ≡ Some q
    → (p.offset ≡ q.offset) ⊎ ((p.offset + p.nodes ≤ q.offset) ⊎ (q.offset + q.nodes ≤ p.offset))

placed_from : (at : ℕ) (ss : List Scalar) (j : ℕ) (q : Part) → slice_get (placed at ss) j ≡ Some q → at ≤ q.offset
placed_from at [] j q e = absurd (none_some q e)
placed_from at (s ∷ ss) zero q e = omega (arith, ap (λ (p : Part). p.offset) (some_is _ q e))
placed_from at (s ∷ ss) (suc j) q e = omega (arith, placed_from (at + s.nodes) ss j q e)

placed_disjoint : (at : ℕ) (ss : List Scalar) → AreDisjoint (placed at ss)
placed_disjoint at [] i j p q e f = absurd (none_some p e)
placed_disjoint at (s ∷ ss) zero zero p q e f = inl (ap (λ (p : Part). p.offset) (sym (some_is _ p e) ∙ some_is _ q f))
placed_disjoint at (s ∷ ss) zero (suc j) p q e f =
    inr (inl (omega (arith, ap (λ (p : Part). p.offset) (some_is _ p e), ap (λ (p : Part). p.nodes) (some_is _ p e), placed_from (at + s.nodes) ss j q f)))
placed_disjoint at (s ∷ ss) (suc i) zero p q e f =
    inr (inr (omega (arith, ap (λ (p : Part). p.offset) (some_is _ q f), ap (λ (p : Part). p.nodes) (some_is _ q f), placed_from (at + s.nodes) ss i p e)))
placed_disjoint at (s ∷ ss) (suc i) (suc j) p q e f = placed_disjoint (at + s.nodes) ss i j p q e f

laid_disjoint : (ss : List Scalar) (ps : Parts) → ps ≡ laid_out ss → AreDisjoint ps.items
laid_disjoint ss ps h = subst (λ (q : Parts). AreDisjoint q.items) (sym h) (placed_disjoint 0 ss)

may_be_disjoint : (c : Cell) (ps : Parts) → MayBeOn c ps → AreDisjoint ps.items
may_be_disjoint c ps h = elim h [
  | inl a ↦ laid_disjoint (scalars a.element) ps a.parts
  | inr n ↦ laid_disjoint [] ps n
]

-- ---- the part of an atom that a node isn't of
abbrev IsAway : ℕ → Option Part → Type 0
IsAway a o = (o ≡ None) ⊎ ((p : Part) × (o ≡ Some p) × ((a < p.offset) ⊎ (p.offset + p.nodes ≤ a)))

record IsOutside (l : Layout) (r : Role) (a : ℕ) (xs : List Atom) : Type 0 where
  k : ℕ
  x : Atom
  own : slice_get xs k ≡ Some x
  role : is_role x.f.role r ≡ true
  away : IsAway a (slice_get (role_parts l r) x.component)

placeless : (p : Part) (a : ℕ) → place_at (OnPart p) a ≡ None → (a < p.offset) ⊎ (p.offset + p.nodes ≤ a)
placeless p a e = go (nat_le p.offset a) (nat_lt (a - p.offset) p.nodes) refl refl e
  where
    before : (o a : ℕ) → nat_le o a ≡ false → a < o
    before o a h = grind (arith, nat_tests)

    behind : (o a n : ℕ) → nat_le o a ≡ true → nat_lt (a - o) n ≡ false → o + n ≤ a
    behind o a n h g = grind (arith, nat_tests)

    go : (b c : Bool) → nat_le p.offset a ≡ b → nat_lt (a - p.offset) p.nodes ≡ c → (if b && c then Some (a - p.offset) else None) ≡ None
        → (a < p.offset) ⊎ (p.offset + p.nodes ≤ a)
    go true true h g e = absurd (none_some _ (sym e))
    go true false h g e = inr (behind p.offset a p.nodes h g)
    go false c h g e = inl (before p.offset a h)

placed_in : (p : Part) (a t : ℕ) → place_at (OnPart p) a ≡ Some t → (p.offset ≤ a) × (a < p.offset + p.nodes)
placed_in p a t e = go (nat_le p.offset a) (nat_lt (a - p.offset) p.nodes) refl refl e
  where
    go : (b c : Bool) → nat_le p.offset a ≡ b → nat_lt (a - p.offset) p.nodes ≡ c → (if b && c then Some (a - p.offset) else None) ≡ Some t
        → (p.offset ≤ a) × (a < p.offset + p.nodes)
    go true true h g e = (grind (arith, nat_tests), grind (arith, nat_tests))
    go true false h g e = absurd (none_some t e)
    go false c h g e = absurd (none_some t e)

module _ (l : Layout) (r : Role) (a : ℕ) (d : AreDisjoint (role_parts l r)) where
  abbrev IsOf : Support → Type 0
  IsOf s = (q : Part) → s ≡ OnPart q → (i : ℕ) × (slice_get (role_parts l r) i ≡ Some q)

  everywhere_of : IsOf Everywhere
  everywhere_of q e = absurd (apart e)
    where
      apart : Everywhere ≡ OnPart q → ⊥
      apart e = cc

  nowhere_of : IsOf Nowhere
  nowhere_of q e = absurd (apart e)
    where
      apart : Nowhere ≡ OnPart q → ⊥
      apart e = cc

  part_of : (p : Part) (i : ℕ) → slice_get (role_parts l r) i ≡ Some p → IsOf (OnPart p)
  part_of p i e q f = (i, e ∙ ap Some (same f))
    where
      same : OnPart p ≡ OnPart q → p ≡ q
      same f = cc

  next_of : (s : Support) (i : ℕ) (o : Option Part) → slice_get (role_parts l r) i ≡ o → IsOf s → IsOf (narrowed s o)
  next_of Everywhere i None e h = nowhere_of
  next_of Everywhere i (Some p) e h = part_of p i e
  next_of (OnPart q) i None e h = nowhere_of
  next_of (OnPart q) i (Some p) e h = go (q.offset == p.offset)
    where
      go : (b : Bool) → IsOf (if b then OnPart q else Nowhere)
      go true = h
      go false = nowhere_of
  next_of Nowhere i None e h = nowhere_of
  next_of Nowhere i (Some p) e h = nowhere_of

  step : (s : Support) (i : ℕ) (o : Option Part) → slice_get (role_parts l r) i ≡ o → IsOf s → place_at (narrowed s o) a ≡ None
      → (place_at s a ≡ None) ⊎ IsAway a o
  step s i None e h f = inr (inl refl)
  step Everywhere i (Some p) e h f = inr (inr (p, refl, placeless p a f))
  step Nowhere i (Some p) e h f = inl refl
  step (OnPart q) i (Some p) e h f = go (q.offset == p.offset) refl f
    where
      other : (p q : Part) → (q.offset == p.offset) ≡ false → (q.offset ≡ p.offset) ⊎ ((q.offset + q.nodes ≤ p.offset) ⊎ (p.offset + p.nodes ≤ q.offset))
          → q.offset ≤ a → a < q.offset + q.nodes → (a < p.offset) ⊎ (p.offset + p.nodes ≤ a)
      other p q n g m k = grind (arith, nat_tests)

      here : (t : Option ℕ) → place_at (OnPart q) a ≡ t → (q.offset == p.offset) ≡ false → (place_at (OnPart q) a ≡ None) ⊎ IsAway a (Some p)
      here None g n = inl g
      here (Some t) g n =
          let w = placed_in q a t g in
          let v = h q refl in
          inr (inr (p, refl, other p q n (d v.0 i q p v.1 e) w.0 w.1))

      go : (b : Bool) → (q.offset == p.offset) ≡ b → place_at (if b then OnPart q else Nowhere) a ≡ None → (place_at (OnPart q) a ≡ None) ⊎ IsAway a (Some p)
      go true n g = inl g
      go false n g = here (place_at (OnPart q) a) refl n

  behind : (x : Atom) (xs : List Atom) → IsOutside l r a xs → IsOutside l r a (x ∷ xs)
  behind x xs o = record { k = suc o.k; x = o.x; own = o.own; role = o.role; away = o.away }

  outside : (s : Support) → IsOf s → (xs : List Atom) → place_at (support_from s l r xs) a ≡ None → (place_at s a ≡ None) ⊎ IsOutside l r a xs
  outside s h [] e = inl e
  outside s h (x ∷ xs) e = go (is_role x.f.role r) refl e (λ n k. outside n k xs)
    where
      there : (place_at (narrowed s (slice_get (role_parts l r) x.component)) a ≡ None) ⊎ IsOutside l r a xs → is_role x.f.role r ≡ true
          → (place_at s a ≡ None) ⊎ IsOutside l r a (x ∷ xs)
      there (inr o) b = inr (behind x xs o)
      there (inl f) b = elim (step s x.component (slice_get (role_parts l r) x.component) refl h f) [
        | inl g ↦ inl g
        | inr g ↦ inr (record { k = 0; x = x; own = refl; role = b; away = g })
      ]

      elsewhere : (place_at s a ≡ None) ⊎ IsOutside l r a xs → (place_at s a ≡ None) ⊎ IsOutside l r a (x ∷ xs)
      elsewhere (inl f) = inl f
      elsewhere (inr o) = inr (behind x xs o)

      go : (b : Bool) → is_role x.f.role r ≡ b → place_at (support_from (if b then narrowed s (slice_get (role_parts l r) x.component) else s) l r xs) a ≡ None
          → ((n : Support) → IsOf n → place_at (support_from n l r xs) a ≡ None → (place_at n a ≡ None) ⊎ IsOutside l r a xs)
          → (place_at s a ≡ None) ⊎ IsOutside l r a (x ∷ xs)
      go true b f rest = there (rest (narrowed s (slice_get (role_parts l r) x.component)) (next_of s x.component (slice_get (role_parts l r) x.component) refl h) f) b
      go false b f rest = elsewhere (rest s h f)

  somewhere : (xs : List Atom) → place_at (support_of l r xs) a ≡ None → IsOutside l r a xs
  somewhere xs e = elim (outside Everywhere everywhere_of xs e) [
    | inl f ↦ absurd (none_some 0 (sym f))
    | inr o ↦ o
  ]

-- ---- so the rows are 0
test_is : (r : Role) → is_role r Test ≡ true → r ≡ Test
test_is Test e = refl
test_is Trial e = cc
test_is Position e = cc
test_is (Coefficient n) e = cc

trial_is : (r : Role) → is_role r Trial ≡ true → r ≡ Trial
trial_is Test e = cc
trial_is Trial e = refl
trial_is Position e = cc
trial_is (Coefficient n) e = cc

pub outside_tests : (l : Layout) → IsLawfulLayout l → (m : Monomial) (a b : ℕ) → place_at (support_of l Test m.atoms) a ≡ None → AreZero (items l m a b)
outside_tests l h m a b e =
    let o = somewhere l Test a (may_be_disjoint h.0 l.rows h.1.rows) m.atoms e in
    let r = test_is o.x.f.role o.role in
    elim o.away [
      | inl n ↦ partless_zero l m o.k o.x o.own (ap (λ r. slice_get (role_parts l r) o.x.component) r ∙ n) a b
      | inr w ↦ tests_zero l m o.k o.x o.own r w.0 w.1 a b w.2
    ]

pub outside_trials : (l : Layout) → IsLawfulLayout l → (m : Monomial) (a b : ℕ) → place_at (support_of l Trial m.atoms) b ≡ None → AreZero (items l m a b)
outside_trials l h m a b e =
    let o = somewhere l Trial b (may_be_disjoint h.0 l.cols h.1.cols) m.atoms e in
    let r = trial_is o.x.f.role o.role in
    elim o.away [
      | inl n ↦ partless_zero l m o.k o.x o.own (ap (λ r. slice_get (role_parts l r) o.x.component) r ∙ n) a b
      | inr w ↦ trials_zero l m o.k o.x o.own r w.0 w.1 a b w.2
    ]
