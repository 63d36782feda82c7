-- Sums and products don't depend on the order
use Rattle.std.proofs.Common.{◌≡◌, ℕ, zero, suc, ◌<◌, List, [], ◌∷◌, length, get_or, set, IsPermutation, refl, sym, ◌∙◌, ap, arith}
use Rattle.std.specs.List.{swap}
use Rattle.std.proofs.lemmas.List.Edits.{swap_is}
use Rattle.std.proofs.lemmas.List.Sorted.{IsPermutation-keeps}
use Rattle.calculus.specs.Polynomial.{Polynomial, plus, times, plus_assoc, plus_comm, polynomials}
use Rattle.algebra.specs.RingLaws as L
use Rattle.ufl_meaning.specs.Environment.{Environment}
use Rattle.ufl_meaning.specs.Monomial.{atom_value, atoms_value, mono_value, monos_value}
use Rattle.monos.specs.Monomial.{Monomial}
use Rattle.monos.specs.declared.mono.Atom.{Atom}

-- a total of a list that takes in one item after another, in any order
module _ {X R : Type 0} (step : X → R → R) (turns : (x y : X) (r : R) → step x (step y r) ≡ step y (step x r))
    (total : List X → R) (steps : (x : X) (xs : List X) → total (x ∷ xs) ≡ step x (total xs)) where
  -- x for the item j
  put : (x : X) (l : List X) (j : ℕ) (d : X) → j < length l → step (get_or l j d) (total (set l j x)) ≡ step x (total l)
  put x [] j d h = absurd (omega arith)
  put x (y ∷ l) zero d h = ap (step y) (steps x l) ∙ turns y x (total l) ∙ ap (step x) (sym (steps y l))
  put x (y ∷ l) (suc j) d h =
      ap (step (get_or l j d)) (steps y (set l j x))
      ∙ turns (get_or l j d) y (total (set l j x))
      ∙ ap (step y) (put x l j d (omega arith))
      ∙ turns y x (total l)
      ∙ ap (step x) (sym (steps y l))

  exchanged : (l : List X) (i j : ℕ) (d : X) → i < length l → j < length l → total (set (set l i (get_or l j d)) j (get_or l i d)) ≡ total l
  exchanged [] i j d p q = absurd (omega arith)
  exchanged (x ∷ l) zero zero d p q = refl
  exchanged (x ∷ l) zero (suc j) d p q = steps (get_or l j d) (set l j x) ∙ put x l j d (omega arith) ∙ sym (steps x l)
  exchanged (x ∷ l) (suc i) zero d p q = steps (get_or l i d) (set l i x) ∙ put x l i d (omega arith) ∙ sym (steps x l)
  exchanged (x ∷ l) (suc i) (suc j) d p q =
      steps x (set (set l i (get_or l j d)) j (get_or l i d))
      ∙ ap (step x) (exchanged l i j d (omega arith) (omega arith))
      ∙ sym (steps x l)

  swapped : (l : List X) (i j : ℕ) → i < length l → j < length l → total (swap l i j) ≡ total l
  swapped [] i j p q = absurd (omega arith)
  swapped (x ∷ l) i j p q = ap total (sym (swap_is (x ∷ l) i j x p q)) ∙ exchanged (x ∷ l) i j x p q

  pub in_any_order : (xs ys : List X) → IsPermutation xs ys → total ys ≡ total xs
  in_any_order xs ys = IsPermutation-keeps xs (λ l. total l ≡ total xs) refl (λ l i j p q h. swapped l i j p q ∙ h) ys

module _ (env : Environment) where
  pub atoms_permuted : (xs ys : List Atom) → IsPermutation xs ys → atoms_value env ys ≡ atoms_value env xs
  atoms_permuted =
      in_any_order (λ a p. times (atom_value env a) p) (λ a b p. L.mul_left_comm polynomials (atom_value env a) (atom_value env b) p)
      (atoms_value env) (λ a more. refl)

  plus_left_comm : (p q r : Polynomial) → plus p (plus q r) ≡ plus q (plus p r)
  plus_left_comm p q r = sym (plus_assoc p q r) ∙ ap (λ x. plus x r) (plus_comm p q) ∙ plus_assoc q p r

  pub monos_permuted : (ms ns : List Monomial) → IsPermutation ms ns → monos_value env ns ≡ monos_value env ms
  monos_permuted =
      in_any_order (λ m p. plus (mono_value env m) p) (λ m n p. plus_left_comm (mono_value env m) (mono_value env n) p)
      (monos_value env) (λ m ms. refl)
