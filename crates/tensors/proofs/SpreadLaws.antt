-- The spread of some atoms, formed atom by atom
use Rattle.std.proofs.Common.{◌≡◌, ℕ, ◌+◌, ◌*◌, ◌^◌, ◌<◌, ◌≤◌, max, List, [], ◌∷◌, length, drop, get_or, refl, sym, ap, ◌∙◌, subst, arith}
use Rattle.std.specs.Prelude.{slice_get}
use Rattle.std.proofs.lemmas.List.{drop_all}
use native.Mathlib.Nat as N
use Rattle.monos.specs.declared.layout.Layout.{Layout}
use Rattle.monos.specs.declared.mono.Atom.{Atom}
use Rattle.monos.specs.Layout.{role_parts}
use Rattle.monos.specs.Monomial.{derivative_count}
use Rattle.refint.specs.Reference.{nodes_in}
use Rattle.monomial_products.specs.Products.{own_spread, IsSmall}
use Rattle.tensors.proofs.ColumnLaws.{drop_here}

pub record IsSpread (l : Layout) (all rest : List Atom) (spread : ℕ) : Type 0 where
  pub total : spread * own_spread l rest ≡ own_spread l all
  pub few : spread ≤ 2 ^ 20

pub spread_none : (l : Layout) (all : List Atom) → IsSpread l all (drop 0 all) 1
spread_none l all = record { total = N.one-mul (own_spread l (drop 0 all)) ∙ ap (own_spread l) (whole all); few = omega arith }
  where
    whole : (xs : List Atom) → drop 0 xs ≡ xs
    whole [] = refl
    whole (x ∷ xs) = refl

spread_step : (l : Layout) (all xs : List Atom) (x : Atom) (spread next : ℕ) → IsSpread l all (x ∷ xs) spread
    → next ≡ spread * (max 1 (nodes_in (slice_get (role_parts l x.f.role) x.component)) * l.d ^ derivative_count x) → next ≤ 2 ^ 20 → IsSpread l all xs next
spread_step l all xs x spread next s e few = record {
  total = ap (λ n. n * own_spread l xs) e
      ∙ N.mul_assoc spread (max 1 (nodes_in (slice_get (role_parts l x.f.role) x.component)) * l.d ^ derivative_count x) (own_spread l xs)
      ∙ s.total;
  few = few;
}

pub spread_next : (l : Layout) (all : List Atom) (i spread : ℕ) (d : Atom) (next : ℕ) → i < length all → IsSpread l all (drop i all) spread
    → next ≡ spread * (max 1 (nodes_in (slice_get (role_parts l (get_or all i d).f.role) (get_or all i d).component)) * l.d ^ derivative_count (get_or all i d)) → next ≤ 2 ^ 20
    → IsSpread l all (drop (i + 1) all) next
spread_next l all i spread d next h s e few = spread_step l all (drop (i + 1) all) (get_or all i d) spread next (subst (λ xs. IsSpread l all xs spread) (drop_here all i d h) s) e few

pub spread_all : (l : Layout) (all : List Atom) (i spread : ℕ) → length all ≤ i → length all ≤ 256 → IsSpread l all (drop i all) spread → IsSmall l all
spread_all l all i spread h few s = record {
  atoms = few;
  spread = subst (λ n. n ≤ 2 ^ 20) (sym (N.mul-one spread) ∙ ap (λ xs. spread * own_spread l xs) (sym (drop_all i all h)) ∙ s.total) s.few;
}
