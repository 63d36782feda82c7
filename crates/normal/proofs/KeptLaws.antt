-- What collecting keeps of each monomial, and which orders it may go by
use Rattle.std.proofs.Common.{◌≡◌, ℕ, suc, ◌≤◌, true, false, List, [], ◌∷◌, length, IsPermutation, refl, sym, ◌∙◌, ap, subst}
use Rattle.std.specs.List.{AllByRecursion}
use Rattle.std.specs.Cmp.{IsTotalOrder}
use Rattle.std.specs.Ordering.{is_lt, ordering_reverse}
use Rattle.std.specs.declared.cmp.Ordering.{Ordering}
use Rattle.std.specs.declared.cmp.Ordering.TheVariants.{Less, Equal, Greater}
use Rattle.std.proofs.lemmas.List.Elements.{All-from_recursion, recursion_from_All}
use Rattle.std.proofs.lemmas.List.Sorted.{All-permutation}
use Rattle.monos.specs.Monomial.{Monomial}
use Rattle.monos.specs.declared.mono.Atom.{Atom}
use Rattle.normal.specs.Collecting.{AreReordered, merged, nonzero, IsSortedOut, IsOrder}
use Rattle.normal.specs.Bounding.{AreShort}
use Rattle.normal.specs.Origins.{AllAtoms}
use Rattle.normal.proofs.OrderLaws.{in_any_order}
use Rattle.normal.proofs.CollectedLaws.{merged_keeps, nonzero_keeps}

-- ---- what doesn't depend on the order of the atoms
module _ (P : List Atom → Type 0) (in_order : (xs ys : List Atom) → IsPermutation xs ys → P xs → P ys) where
  abbrev Each : List Monomial → Type 0
  Each ms = AllByRecursion (λ m. P m.atoms) ms

  reordered_keeps : (ms ns : List Monomial) → AreReordered ms ns → Each ms → Each ns
  reordered_keeps [] [] h x = tt
  reordered_keeps [] (n ∷ ns) h x = absurd h
  reordered_keeps (m ∷ ms) [] h x = absurd h
  reordered_keeps (m ∷ ms) (n ∷ ns) h x = (in_order m.atoms n.atoms (h.0).atoms x.0, reordered_keeps ms ns h.1 x.1)

  all_merged : (ms : List Monomial) → Each ms → Each (merged ms)
  all_merged [] x = tt
  all_merged (m ∷ ms) x = merged_keeps P m ms x.0 x.1

  pub collected_keeps : (ms ps : List Monomial) → IsSortedOut ms ps → Each ms → Each (nonzero (merged ps))
  collected_keeps ms ps h x =
      nonzero_keeps P (merged ps)
      (all_merged ps (recursion_from_All (λ m. P m.atoms) ps
      (All-permutation (λ m. P m.atoms) h.reordered ps h.outside (All-from_recursion (λ m. P m.atoms) h.reordered (reordered_keeps ms h.reordered h.inside x)))))

pub collected_short : (n : ℕ) (ms ps : List Monomial) → IsSortedOut ms ps → AreShort n ms → AreShort n (nonzero (merged ps))
collected_short n = collected_keeps (λ xs. length xs ≤ n) (λ xs ys h k. subst (λ v. v ≤ n) (sym (as_long xs ys h)) k)
  where
    as_long : (xs ys : List Atom) → IsPermutation xs ys → length ys ≡ length xs
    as_long = in_any_order (λ (a : Atom) (k : ℕ). suc k) (λ a b k. refl) (λ xs. length xs) (λ a more. refl)

pub collected_atoms : (Q : Atom → Type 0) (ms ps : List Monomial) → IsSortedOut ms ps → AllAtoms Q ms → AllAtoms Q (nonzero (merged ps))
collected_atoms Q =
    collected_keeps (λ xs. AllByRecursion Q xs) (λ xs ys h k. recursion_from_All Q ys (All-permutation Q xs ys h (All-from_recursion Q xs k)))

-- ---- a comparison that tells all lists of atoms apart
module _ (R : List Atom → List Atom → Ordering) (total : IsTotalOrder R) (tells : (x y : List Atom) → R x y ≡ Equal → x ≡ y) where
  less_is : (o : Ordering) → is_lt o ≡ true → o ≡ Less
  less_is Less e = refl
  less_is Equal e = cc
  less_is Greater e = cc

  through : (x y z : List Atom) → is_lt (R x y) ≡ true → is_lt (R z y) ≡ false → is_lt (R x z) ≡ true
  through x y z h k = go (R z y) refl k
    where
      low : R x y ≡ Less
      low = less_is (R x y) h

      go : (o : Ordering) → R z y ≡ o → is_lt o ≡ false → is_lt (R x z) ≡ true
      go Less e f = cc
      go Equal e f = ap (λ w. is_lt (R x w)) (tells z y e) ∙ h
      go Greater e f = ap is_lt (total.trans x y z low (total.antisymm y z ∙ ap ordering_reverse e))

  only : (x y : List Atom) → is_lt (R x y) ≡ false → is_lt (R y x) ≡ false → x ≡ y
  only x y h k = go (R x y) refl h
    where
      go : (o : Ordering) → R x y ≡ o → is_lt o ≡ false → x ≡ y
      go Less e f = cc
      go Equal e f = tells x y e
      go Greater e f = absurd (other (sym k ∙ ap is_lt (total.antisymm y x ∙ ap ordering_reverse e)))
        where
          other : false ≡ true → ⊥
          other e = cc

  pub is_order : IsOrder (λ x y. is_lt (R x y))
  is_order = record { through = through; only = only }
