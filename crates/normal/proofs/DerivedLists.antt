-- Derivatives of monomials, one atom after the other
use Rattle.std.proofs.Common.{◌≡◌, ℕ, zero, suc, ◌+◌, ◌<◌, List, [], ◌∷◌, ◌++◌, length, get_or, take, refl, sym, ◌∙◌, ap, subst, subst₂, append_assoc, append-nil, arith}
use Rattle.std.proofs.lemmas.List.{take_more, map-append}
use Rattle.std.proofs.Math.ListN.{set}
use Rattle.algebra.specs.Fraction.{Fraction}
use Rattle.monos.specs.Monomial.{Monomial, monomial_of, monomials_of}
use Rattle.monos.specs.declared.mono.Atom.{Atom}
use Rattle.monos.specs.declared.mono.Mono.{Mono}
use Rattle.normal.specs.Monomials.{atom_along, all_with, atoms_along, atoms_derived_at, derived_at, all_with_factor, all_derived}
use Rattle.normal.specs.Collecting.{IsReordered, AreReordered}
use Rattle.normal.proofs.ProductLists.{reordered_append}

-- the first k choices of the product rule
abbrev choices : ℕ → List Atom → ℕ → List (List Atom)
choices i xs zero = []
choices i xs (suc k) = choices i xs k ++ atoms_derived_at i xs k ∷ []

abbrev pub derived_below : ℕ → Monomial → ℕ → List Monomial
derived_below i m zero = []
derived_below i m (suc k) = derived_below i m k ++ derived_at i m k ∷ []

all_with_append : (a : Atom) (xs ys : List (List Atom)) → all_with a (xs ++ ys) ≡ all_with a xs ++ all_with a ys
all_with_append a [] ys = refl
all_with_append a (x ∷ xs) ys = ap (λ zs. (a ∷ x) ∷ zs) (all_with_append a xs ys)

choices_more : (i : ℕ) (a : Atom) (xs : List Atom) (k : ℕ) → choices i (a ∷ xs) (suc k) ≡ (atom_along i a ∷ xs) ∷ all_with a (choices i xs k)
choices_more i a xs zero = refl
choices_more i a xs (suc k) =
    ap (λ zs. zs ++ (a ∷ atoms_derived_at i xs k) ∷ []) (choices_more i a xs k)
    ∙ ap (λ zs. (atom_along i a ∷ xs) ∷ zs) (sym (all_with_append a (choices i xs k) (atoms_derived_at i xs k ∷ [])))

choices_all : (i : ℕ) (xs : List Atom) → choices i xs (length xs) ≡ atoms_along i xs
choices_all i [] = refl
choices_all i (a ∷ xs) = choices_more i a xs (length xs) ∙ ap (λ zs. (atom_along i a ∷ xs) ∷ all_with a zs) (choices_all i xs)

all_with_factor_append : (c : Fraction) (xs ys : List (List Atom)) → all_with_factor c (xs ++ ys) ≡ all_with_factor c xs ++ all_with_factor c ys
all_with_factor_append c [] ys = refl
all_with_factor_append c (x ∷ xs) ys = ap (λ zs. record { c = c; atoms = x } ∷ zs) (all_with_factor_append c xs ys)

derived_choices : (i : ℕ) (m : Monomial) (k : ℕ) → derived_below i m k ≡ all_with_factor m.c (choices i m.atoms k)
derived_choices i m zero = refl
derived_choices i m (suc k) =
    ap (λ zs. zs ++ derived_at i m k ∷ []) (derived_choices i m k) ∙ sym (all_with_factor_append m.c (choices i m.atoms k) (atoms_derived_at i m.atoms k ∷ []))

derived_more : (i : ℕ) (ms : List Monomial) (m : Monomial) → all_derived i (ms ++ m ∷ []) ≡ all_derived i ms ++ all_with_factor m.c (atoms_along i m.atoms)
derived_more i [] m = append-nil (all_with_factor m.c (atoms_along i m.atoms))
derived_more i (x ∷ xs) m =
    ap (λ zs. all_with_factor x.c (atoms_along i x.atoms) ++ zs) (derived_more i xs m)
    ∙ sym (append_assoc (all_with_factor x.c (atoms_along i x.atoms)) (all_derived i xs) (all_with_factor m.c (atoms_along i m.atoms)))

-- one atom in place of another
pub derived_in_place : (i : ℕ) (xs : List Atom) (k : ℕ) (a : Atom) → k < length xs → a ≡ get_or xs k a → set xs k (atom_along i a) ≡ atoms_derived_at i xs k
derived_in_place i [] k a h e = absurd (omega (arith, h))
derived_in_place i (x ∷ xs) zero a h e = ap (λ y. atom_along i y ∷ xs) e
derived_in_place i (x ∷ xs) (suc k) a h e = ap (λ zs. x ∷ zs) (derived_in_place i xs k a (omega (arith, h)) e)

-- ---- the loops
next_number : (k : ℕ) → suc k ≡ k + 1
next_number k = omega arith

pub place_goes_on : (done : List Monomial) (i : ℕ) (m : Monomial) (k : ℕ) (r : Mono) (all next : List Mono) → IsReordered (derived_at i m k) (monomial_of r) → next ≡ all ++ r ∷ []
    → AreReordered (done ++ derived_below i m k) (monomials_of all) → AreReordered (done ++ derived_below i m (k + 1)) (monomials_of next)
place_goes_on done i m k r all next q en a =
    subst₂ AreReordered
    (append_assoc done (derived_below i m k) (derived_at i m k ∷ []) ∙ ap (λ n. done ++ derived_below i m n) (next_number k))
    (sym (ap monomials_of en ∙ map-append monomial_of all (r ∷ [])))
    (reordered_append _ _ _ _ a (q, tt))

pub places_end : (i : ℕ) (ms : List Mono) (j k : ℕ) (m : Mono) (all : List Monomial) → j < length ms → m ≡ get_or ms j m → k ≡ length m.atoms
    → AreReordered (all_derived i (monomials_of (take j ms)) ++ derived_below i (monomial_of m) k) all → AreReordered (all_derived i (monomials_of (take (j + 1) ms))) all
places_end i ms j k m all h e l a =
    subst (λ xs. AreReordered xs all)
    (ap (λ xs. all_derived i (monomials_of (take j ms)) ++ xs)
    (ap (derived_below i (monomial_of m)) l ∙ derived_choices i (monomial_of m) (length m.atoms) ∙ ap (all_with_factor (monomial_of m).c) (choices_all i m.atoms))
    ∙ sym (derived_more i (monomials_of (take j ms)) (monomial_of m))
    ∙ ap (all_derived i) (ap (λ x. monomials_of (take j ms) ++ monomial_of x ∷ []) e ∙ sym (map-append monomial_of (take j ms) (get_or ms j m ∷ [])) ∙ ap monomials_of (sym (take_more ms j m h)))) a
