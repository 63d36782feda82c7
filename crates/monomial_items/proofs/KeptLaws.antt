-- Rows at places, and at none
use Rattle.std.proofs.Common.{◌≡◌, ℕ, zero, suc, ◌<◌, Bool, true, false, ◌||◌, if◌then◌else◌, List, [], ◌∷◌, refl, sym, ap, ap₂, ◌∙◌, arith}
use Rattle.std.specs.List.{flat_map}
use Rattle.std.specs.Prelude.{slice_get}
use Rattle.ufl_tree.specs.declared.function.Role.{Role}
use Rattle.ufl_tree.specs.declared.function.Role.TheVariants.{Test, Trial}
use Rattle.monos.specs.declared.layout.Layout.{Layout}
use Rattle.monos.specs.declared.mono.Atom.{Atom}
use Rattle.monos.specs.Layout.{role_parts}
use Rattle.monos.specs.Monomial.{Monomial}
use Rattle.refint.specs.Local.{numbers_below}
use Rattle.refint.specs.Reference.{items}
use Rattle.monomial_products.specs.declared.support.Support.{Support}
use Rattle.monomial_products.specs.declared.support.Support.TheVariants.{Everywhere}
use Rattle.monomial_products.specs.Supports.{places_at, node_at, is_role, narrowed, support_from, support_of}
use Rattle.monomial_products.specs.Products.{has_role, own_places}
use Rattle.monomial_items.specs.Integrals.{items_at}
use Rattle.monomial_items.specs.Kept.{kept_items}

-- without an atom of the argument its support is everywhere
none_everywhere : (l : Layout) (r : Role) (xs : List Atom) → has_role r xs ≡ false → support_of l r xs ≡ Everywhere
none_everywhere l r [] h = refl
none_everywhere l r (x ∷ xs) h = go (is_role x.f.role r) h (none_everywhere l r xs)
  where
    go : (b : Bool) → (b || has_role r xs) ≡ false → (has_role r xs ≡ false → support_of l r xs ≡ Everywhere)
        → support_from (if b then narrowed Everywhere (slice_get (role_parts l r) x.component) else Everywhere) l r xs ≡ Everywhere
    go true h rest = absurd (apart h)
      where
        apart : true ≡ false → ⊥
        apart e = cc
    go false h rest = rest h

places_own : (l : Layout) (r : Role) (s : Support) (xs : List Atom) → s ≡ support_of l r xs → own_places s r xs ≡ places_at s
places_own l r s xs e = go (has_role r xs) refl
  where
    go : (b : Bool) → has_role r xs ≡ b → (if b then places_at s else 1) ≡ places_at s
    go true h = refl
    go false h = sym (ap places_at (e ∙ none_everywhere l r xs h))

pub kept_are : (l : Layout) (tests trials : Support) (m : Monomial) → tests ≡ support_of l Test m.atoms → trials ≡ support_of l Trial m.atoms → items_at l tests trials m ≡ kept_items l tests trials m
kept_are l tests trials m e f =
    ap₂ (λ n k. flat_map (λ t. flat_map (λ u. items l m (node_at tests t) (node_at trials u)) (numbers_below k)) (numbers_below n))
    (places_own l Test tests m.atoms e) (places_own l Trial trials m.atoms f)

pub no_tests : (l : Layout) (tests trials : Support) (m : Monomial) → places_at tests ≡ 0 → [] ≡ kept_items l tests trials m
no_tests l tests trials m e =
    sym (ap (λ n. flat_map (λ t. flat_map (λ u. items l m (node_at tests t) (node_at trials u)) (numbers_below (places_at trials))) (numbers_below n)) e)

nothing_each : {A B : Type 0} (xs : List A) → flat_map {A = B} (λ x. []) xs ≡ []
nothing_each [] = refl
nothing_each (x ∷ xs) = nothing_each xs

pub no_trials : (l : Layout) (tests trials : Support) (m : Monomial) → places_at trials ≡ 0 → [] ≡ kept_items l tests trials m
no_trials l tests trials m e =
    sym (ap (λ n. flat_map (λ t. flat_map (λ u. items l m (node_at tests t) (node_at trials u)) (numbers_below n)) (numbers_below (places_at tests))) e
    ∙ nothing_each (numbers_below (places_at tests)))

pub positive : (n : ℕ) → (n ≡ 0 → ⊥) → 0 < n
positive zero h = absurd (h refl)
positive (suc n) h = omega arith

-- where there are places, the support is that of the atoms
pub chosen : (b : Bool) (s n r : Support) → r ≡ (if b then s else n) → places_at n ≡ 0 → 0 < places_at r → (b ≡ true) × (r ≡ s)
chosen true s n r e z h = (refl, e)
chosen false s n r e z h = absurd (omega (arith, ap places_at e))
