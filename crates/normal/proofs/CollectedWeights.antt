-- Sorting, merging and dropping keep what a weight says of a list
use Rattle.std.proofs.Common.{◌≡◌, ℕ, ◌+◌, ◌*◌, ◌^◌, ◌≤◌, Bool, true, false, List, [], ◌∷◌, if◌then◌else◌, refl, sym, ap₂, subst, arith}
use Rattle.std.specs.List.{AllByRecursion}
use Prim.Native.Nat.{◌∣◌}
use native.Mathlib.Nat as N
use Rattle.algebra.specs.Fraction.{add, is_zero_fraction}
use Rattle.algebra.specs.LowestTerms.{bottom}
use Rattle.ufl_tree.specs.declared.function.Function.{Function}
use Rattle.weigh.specs.Numerators.{size_over}
use Rattle.monos.specs.Monomial.{Monomial}
use Rattle.monos.specs.declared.mono.Atom.{Atom}
use Rattle.normal.specs.Collecting.{same_atoms, IsReordered, AreReordered, merged_after, merged, nonzero, IsSortedOut}
use Rattle.weigh.specs.Lists.{costs, spread, load, spreads, loads, IsOver, IsWeighed}
use Rattle.monos.specs.Monomial.{derivative_count, derivatives}
use Rattle.normal.proofs.OrderLaws.{in_any_order}
use Rattle.normal.proofs.CollectingLaws.{same_atoms_equal}
use Rattle.weigh.proofs.ListLaws.{weighed_sorted, weighed_dropped, weighed_merged}

module _ (cost : Function → ℕ) (d l : ℕ) where
  -- ---- the order of the atoms
  same_costs : (m n : Monomial) → IsReordered m n → costs cost n.atoms ≡ costs cost m.atoms
  same_costs m n h = in_any_order (λ (a : Atom) (k : ℕ). cost a.f * k) (λ a b k. turns (cost a.f) (cost b.f) k) (costs cost) (λ a more. refl) m.atoms n.atoms h.atoms
    where
      turns : (a b k : ℕ) → a * (b * k) ≡ b * (a * k)
      turns a b k = omega arith

  same_derivatives : (m n : Monomial) → IsReordered m n → derivatives n.atoms ≡ derivatives m.atoms
  same_derivatives m n h =
      in_any_order (λ (a : Atom) (k : ℕ). derivative_count a + k) (λ a b k. turns (derivative_count a) (derivative_count b) k) derivatives (λ a more. refl) m.atoms n.atoms h.atoms
    where
      turns : (a b k : ℕ) → a + (b + k) ≡ b + (a + k)
      turns a b k = omega arith

  same_spread : (m n : Monomial) → IsReordered m n → spread cost d n ≡ spread cost d m
  same_spread m n h = ap₂ (λ c r. c * d ^ r) (same_costs m n h) (same_derivatives m n h)

  same_load : (m n : Monomial) → IsReordered m n → load cost d l n ≡ load cost d l m
  same_load m n h = ap₂ (λ b s. b * s) (ap₂ (λ c r. size_over l c * 3 ^ r) h.c (same_derivatives m n h)) (same_spread m n h)

  exactly : (ms : List Monomial) → AllByRecursion (IsOver l) ms → IsWeighed cost d l ms (spreads cost d ms) (loads cost d l ms)
  exactly ms x = record { over = x; sum = N.le_refl (spreads cost d ms); total = N.le_refl (loads cost d l ms) }

  -- no more behind the same first one
  under : (m : Monomial) (ms ns : List Monomial) (s t : ℕ) → IsWeighed cost d l ns (spreads cost d ms) (loads cost d l ms) → IsWeighed cost d l (m ∷ ms) s t → IsWeighed cost d l (m ∷ ns) s t
  under m ms ns s t r x = record {
    over = (x.over.0, r.over);
    sum = N.le_trans (N.add-le-add (N.le_refl (spread cost d m)) r.sum) x.sum;
    total = N.le_trans (N.add-le-add (N.le_refl (load cost d l m)) r.total) x.total;
  }

  first_reordered : (m n : Monomial) (ms : List Monomial) (s t : ℕ) → IsReordered m n → IsWeighed cost d l (m ∷ ms) s t → IsWeighed cost d l (n ∷ ms) s t
  first_reordered m n ms s t h x = record {
    over = (subst (λ c. bottom c ∣ l) (sym h.c) x.over.0, x.over.1);
    sum = subst (λ v. v + spreads cost d ms ≤ s) (sym (same_spread m n h)) x.sum;
    total = subst (λ v. v + loads cost d l ms ≤ t) (sym (same_load m n h)) x.total;
  }

  pub weighed_reordered : (ms ns : List Monomial) (s t : ℕ) → AreReordered ms ns → IsWeighed cost d l ms s t → IsWeighed cost d l ns s t
  weighed_reordered [] [] s t h x = x
  weighed_reordered [] (n ∷ ns) s t h x = absurd h
  weighed_reordered (m ∷ ms) [] s t h x = absurd h
  weighed_reordered (m ∷ ms) (n ∷ ns) s t h x =
      first_reordered m n ns s t h.0 (under m ms ns s t (weighed_reordered ms ns (spreads cost d ms) (loads cost d l ms) h.1 (exactly ms x.over.1)) x)

  -- ---- merging
  merged_after_weighed : 1 ≤ l → (m : Monomial) (ns : List Monomial) (s t : ℕ) → IsWeighed cost d l (m ∷ ns) s t → IsWeighed cost d l (merged_after m ns) s t
  merged_after_weighed p m [] s t x = x
  merged_after_weighed p m (n ∷ ns) s t x =
      go (same_atoms m.atoms n.atoms) (merged_after_weighed p (record { c = add m.c n.c; atoms = m.atoms }) ns s t)
      (merged_after_weighed p n ns (spreads cost d (n ∷ ns)) (loads cost d l (n ∷ ns)) (exactly (n ∷ ns) x.over.1)) refl
    where
      go : (b : Bool) → (IsWeighed cost d l (record { c = add m.c n.c; atoms = m.atoms } ∷ ns) s t → IsWeighed cost d l (merged_after (record { c = add m.c n.c; atoms = m.atoms }) ns) s t)
          → IsWeighed cost d l (merged_after n ns) (spreads cost d (n ∷ ns)) (loads cost d l (n ∷ ns)) → same_atoms m.atoms n.atoms ≡ b
          → IsWeighed cost d l (if b then merged_after (record { c = add m.c n.c; atoms = m.atoms }) ns else m ∷ merged_after n ns) s t
      go true same other e =
          same (weighed_merged cost d l p m n (record { c = add m.c n.c; atoms = m.atoms }) ns s t
          (record { value = refl; first = refl; second = sym (same_atoms_equal m.atoms n.atoms e) }) x)
      go false same other e = under m (n ∷ ns) (merged_after n ns) s t other x

  merged_weighed : 1 ≤ l → (ms : List Monomial) (s t : ℕ) → IsWeighed cost d l ms s t → IsWeighed cost d l (merged ms) s t
  merged_weighed p [] s t x = x
  merged_weighed p (m ∷ ms) s t x = merged_after_weighed p m ms s t x

  -- ---- dropping
  pub nonzero_weighed : (ms : List Monomial) (s t : ℕ) → IsWeighed cost d l ms s t → IsWeighed cost d l (nonzero ms) s t
  nonzero_weighed [] s t x = x
  nonzero_weighed (m ∷ ms) s t x =
      go (is_zero_fraction m.c) (nonzero_weighed ms s t (weighed_dropped cost d l m ms s t x)) (nonzero_weighed ms (spreads cost d ms) (loads cost d l ms) (exactly ms x.over.1))
    where
      go : (b : Bool) → IsWeighed cost d l (nonzero ms) s t → IsWeighed cost d l (nonzero ms) (spreads cost d ms) (loads cost d l ms)
          → IsWeighed cost d l (if b then nonzero ms else m ∷ nonzero ms) s t
      go true less rest = less
      go false less rest = under m ms (nonzero ms) s t rest x

  pub collected_weighed : 1 ≤ l → (ms ps : List Monomial) (s t : ℕ) → IsSortedOut ms ps → IsWeighed cost d l ms s t → IsWeighed cost d l (nonzero (merged ps)) s t
  collected_weighed p ms ps s t h x =
      nonzero_weighed (merged ps) s t
      (merged_weighed p ps s t (weighed_sorted cost d l h.reordered ps s t h.outside (weighed_reordered ms h.reordered s t h.inside x)))
