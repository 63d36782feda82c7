-- An argument's support: its atoms are all of one part, since the parts of a function begin at different nodes
use Rattle.std.proofs.Common.{◌≡◌, ℕ, zero, suc, ◌+◌, ◌<◌, ◌≤◌, inl, inr, Bool, true, false, ◌==◌, if◌then◌else◌, List, [], ◌∷◌, Option, None, Some, length, get_or, drop, refl, sym, ap, ◌∙◌, subst, arith, add-one, drop-cons}
use Rattle.std.specs.Prelude.{slice_get}
use Rattle.std.specs.List.{AllByRecursion}
use Rattle.std.proofs.lemmas.List.{drop_all}
use Rattle.spaces.specs.declared.cell.Cell.{Cell}
use Rattle.spaces.specs.declared.cell.Cell.TheVariants.{Interval, Triangle, Tetrahedron}
use Rattle.spaces.specs.declared.parts.Part.{Part}
use Rattle.spaces.specs.declared.parts.Parts.{Parts}
use Rattle.spaces.specs.Family.{node_count}
use Rattle.spaces.specs.Scalar.{Scalar, placed, laid_out}
use Rattle.spaces.specs.Space.{scalars}
use Rattle.spaces.proofs.NodeLaws.{number_equal}
use Rattle.ufl_tree.specs.declared.function.Role.{Role}
use Rattle.ufl_tree.specs.declared.function.Role.TheVariants.{Test, Trial}
use Rattle.monos.specs.declared.layout.Layout.{Layout}
use Rattle.monos.specs.declared.mono.Atom.{Atom}
use Rattle.monos.specs.Layout.{MayBeOn, IsLawfulLayout, role_parts}
use Rattle.monomial_products.specs.declared.support.Support.{Support}
use Rattle.monomial_products.specs.declared.support.Support.TheVariants.{Everywhere, OnPart, Nowhere}
use Rattle.monomial_products.specs.Supports.{places_at, is_role, narrowed, support_from, support_of, AreOn}
use Rattle.monomial_products.proofs.PartLaws.{IsScalarOn, on_space, some_is, none_some}

-- ---- parts begin at different nodes
node_positive : (c : Cell) (q : ℕ) → q ≤ 3 → 1 ≤ node_count c q
node_positive Interval q h = omega arith
node_positive Triangle zero h = omega arith
node_positive Triangle (suc zero) h = omega arith
node_positive Triangle (suc (suc zero)) h = omega arith
node_positive Triangle (suc (suc (suc zero))) h = omega arith
node_positive Triangle (suc (suc (suc (suc q)))) h = absurd (omega arith)
node_positive Tetrahedron zero h = omega arith
node_positive Tetrahedron (suc zero) h = omega arith
node_positive Tetrahedron (suc (suc zero)) h = omega arith
node_positive Tetrahedron (suc (suc (suc zero))) h = omega arith
node_positive Tetrahedron (suc (suc (suc (suc q)))) h = absurd (omega arith)

abbrev pub AreApart : List Part → Type 0
AreApart ps = (i j : ℕ) (p q : Part) → slice_get ps i ≡ Some p → slice_get ps j ≡ Some q → p.offset ≡ q.offset → p ≡ q

placed_from : (at : ℕ) (ss : List Scalar) (j : ℕ) (q : Part) → slice_get (placed at ss) j ≡ Some q → at ≤ q.offset
placed_from at [] j q e = absurd (none_some q e)
placed_from at (s ∷ ss) zero q e = omega (arith, ap (λ (p : Part). p.offset) (some_is _ q e))
placed_from at (s ∷ ss) (suc j) q e = omega (arith, placed_from (at + s.nodes) ss j q e)

placed_apart : (c : Cell) (at : ℕ) (ss : List Scalar) → AllByRecursion (IsScalarOn c) ss → AreApart (placed at ss)
placed_apart c at [] on i j p q e f h = absurd (none_some p e)
placed_apart c at (s ∷ ss) on zero zero p q e f h = sym (some_is _ p e) ∙ some_is _ q f
placed_apart c at (s ∷ ss) on zero (suc j) p q e f h =
    absurd (omega (arith, ap (λ (p : Part). p.offset) (some_is _ p e), placed_from (at + s.nodes) ss j q f, on.0.nodes, node_positive c s.degree on.0.degree))
placed_apart c at (s ∷ ss) on (suc i) zero p q e f h =
    absurd (omega (arith, ap (λ (p : Part). p.offset) (some_is _ q f), placed_from (at + s.nodes) ss i p e, on.0.nodes, node_positive c s.degree on.0.degree))
placed_apart c at (s ∷ ss) on (suc i) (suc j) p q e f h = placed_apart c (at + s.nodes) ss on.1 i j p q e f h

laid_apart : (c : Cell) (ss : List Scalar) (ps : Parts) → ps ≡ laid_out ss → AllByRecursion (IsScalarOn c) ss → AreApart ps.items
laid_apart c ss ps h on = subst (λ (q : Parts). AreApart q.items) (sym h) (placed_apart c 0 ss on)

may_be_apart : (c : Cell) (ps : Parts) → MayBeOn c ps → AreApart ps.items
may_be_apart c ps h = elim h [
  | inl a ↦ laid_apart c (scalars a.element) ps a.parts (subst (λ k. AllByRecursion (IsScalarOn k) (scalars a.element)) a.cell (on_space a.element a.lawful))
  | inr n ↦ laid_apart c [] ps n tt
]

pub tests_apart : (l : Layout) → IsLawfulLayout l → AreApart (role_parts l Test)
tests_apart l h = may_be_apart h.0 l.rows h.1.rows

pub trials_apart : (l : Layout) → IsLawfulLayout l → AreApart (role_parts l Trial)
trials_apart l h = may_be_apart h.0 l.cols h.1.cols

-- ---- supports
module _ (l : Layout) (r : Role) where
  narrowed_nowhere : (o : Option Part) → narrowed Nowhere o ≡ Nowhere
  narrowed_nowhere None = refl
  narrowed_nowhere (Some p) = refl

  nowhere : (xs : List Atom) → support_from Nowhere l r xs ≡ Nowhere
  nowhere [] = refl
  nowhere (x ∷ xs) = ap (λ s. support_from s l r xs) (go (is_role x.f.role r)) ∙ nowhere xs
    where
      go : (b : Bool) → (if b then narrowed Nowhere (slice_get (role_parts l r) x.component) else Nowhere) ≡ Nowhere
      go true = narrowed_nowhere (slice_get (role_parts l r) x.component)
      go false = refl

  no_places : (xs : List Atom) → 0 < places_at (support_from Nowhere l r xs) → ⊥
  no_places xs h = absurd (omega (arith, ap places_at (nowhere xs)))

  apart_test : false ≡ true → ⊥
  apart_test e = cc

  on_part : AreApart (role_parts l r) → (q : Part) (i : ℕ) → slice_get (role_parts l r) i ≡ Some q → (xs : List Atom) → 0 < places_at (support_from (OnPart q) l r xs)
      → (support_from (OnPart q) l r xs ≡ OnPart q) × AreOn l r (OnPart q) xs
  on_part a q i e [] h = (refl, tt)
  on_part a q i e (x ∷ xs) h = go (is_role x.f.role r) refl h (on_part a q i e xs)
    where
      both : (t : Bool) (p : Part) → (q.offset == p.offset) ≡ t → slice_get (role_parts l r) x.component ≡ Some p → is_role x.f.role r ≡ true
          → 0 < places_at (support_from (if t then OnPart q else Nowhere) l r xs)
          → (0 < places_at (support_from (OnPart q) l r xs) → (support_from (OnPart q) l r xs ≡ OnPart q) × AreOn l r (OnPart q) xs)
          → (support_from (if t then OnPart q else Nowhere) l r xs ≡ OnPart q) × AreOn l r (OnPart q) (x ∷ xs)
      both true p k f b h rest =
          let w = rest h in
          let same : p ≡ q = sym (a i x.component q p e f (number_equal q.offset p.offset k)) in
          (w.0, ((λ z. (q, refl, f ∙ ap Some same)), w.1))
      both false p k f b h rest = absurd (no_places xs h)

      within : (o : Option Part) → slice_get (role_parts l r) x.component ≡ o → is_role x.f.role r ≡ true
          → 0 < places_at (support_from (narrowed (OnPart q) o) l r xs)
          → (0 < places_at (support_from (OnPart q) l r xs) → (support_from (OnPart q) l r xs ≡ OnPart q) × AreOn l r (OnPart q) xs)
          → (support_from (narrowed (OnPart q) o) l r xs ≡ OnPart q) × AreOn l r (OnPart q) (x ∷ xs)
      within None f b h rest = absurd (no_places xs h)
      within (Some p) f b h rest = both (q.offset == p.offset) p refl f b h rest

      go : (b : Bool) → is_role x.f.role r ≡ b → 0 < places_at (support_from (if b then narrowed (OnPart q) (slice_get (role_parts l r) x.component) else OnPart q) l r xs)
          → (0 < places_at (support_from (OnPart q) l r xs) → (support_from (OnPart q) l r xs ≡ OnPart q) × AreOn l r (OnPart q) xs)
          → (support_from (if b then narrowed (OnPart q) (slice_get (role_parts l r) x.component) else OnPart q) l r xs ≡ OnPart q) × AreOn l r (OnPart q) (x ∷ xs)
      go true b h rest = within (slice_get (role_parts l r) x.component) refl b h rest
      go false b h rest = let w = rest h in (w.0, ((λ z. absurd (apart_test (sym b ∙ z))), w.1))

  pub support_on : AreApart (role_parts l r) → (xs : List Atom) → 0 < places_at (support_of l r xs) → AreOn l r (support_of l r xs) xs
  support_on a [] h = tt
  support_on a (x ∷ xs) h = go (is_role x.f.role r) refl h (support_on a xs)
    where
      within : (o : Option Part) → slice_get (role_parts l r) x.component ≡ o → is_role x.f.role r ≡ true
          → 0 < places_at (support_from (narrowed Everywhere o) l r xs) → AreOn l r (support_from (narrowed Everywhere o) l r xs) (x ∷ xs)
      within None f b h = absurd (no_places xs h)
      within (Some p) f b h =
          let w = on_part a p x.component f xs h in
          subst (λ s. AreOn l r s (x ∷ xs)) (sym w.0) ((λ z. (p, refl, f)), w.1)

      go : (b : Bool) → is_role x.f.role r ≡ b → 0 < places_at (support_from (if b then narrowed Everywhere (slice_get (role_parts l r) x.component) else Everywhere) l r xs)
          → (0 < places_at (support_of l r xs) → AreOn l r (support_of l r xs) xs)
          → AreOn l r (support_from (if b then narrowed Everywhere (slice_get (role_parts l r) x.component) else Everywhere) l r xs) (x ∷ xs)
      go true b h rest = within (slice_get (role_parts l r) x.component) refl b h
      go false b h rest = ((λ z. absurd (apart_test (sym b ∙ z))), rest h)

  -- ---- one atom after the other
  pub support_step : (kept next : Support) (xs : List Atom) (i : ℕ) (d : Atom) → i < length xs
      → next ≡ (if is_role (get_or xs i d).f.role r then narrowed kept (slice_get (role_parts l r) (get_or xs i d).component) else kept)
      → support_from next l r (drop (i + 1) xs) ≡ support_from kept l r (drop i xs)
  support_step kept next xs i d h e =
      ap (λ s. support_from s l r (drop (i + 1) xs)) e ∙ ap (support_from kept l r) (sym (drop_here xs i d h))
    where
      drop_here : {A : Type 0} (xs : List A) (i : ℕ) (d : A) → i < length xs → drop i xs ≡ get_or xs i d ∷ drop (i + 1) xs
      drop_here xs i d h = rw (add-one, drop-cons xs i d) refl

  pub support_end : (kept : Support) (xs : List Atom) (i : ℕ) → length xs ≤ i → support_from kept l r (drop i xs) ≡ kept
  support_end kept xs i h = ap (support_from kept l r) (drop_all i xs h)
