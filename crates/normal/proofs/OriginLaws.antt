-- Each atom comes from a leaf of the tree
use Rattle.std.proofs.Common.{◌≡◌, ℕ, zero, suc, ◌==◌, Bool, true, false, List, [], ◌∷◌, ◌++◌, Option, None, Some, if◌then◌else◌, refl, inl, inr}
use Rattle.std.specs.List.{AllByRecursion}
use Rattle.algebra.specs.Fraction.{Fraction, one_fraction}
use Rattle.ufl_tree.specs.declared.function.Function.{Function}
use Rattle.ufl_tree.specs.Term.{Term, num, fun, mark, neg, sum, prod, over, dx, delta, pick, raise, turn, Terms, no_terms, term}
use Rattle.ufl_tree.specs.Indices.{Names, with_name, index_value, index_values}
use Rattle.ufl_tree.specs.Places.{Table, function_place}
use Rattle.monos.specs.Monomial.{Monomial}
use Rattle.monos.specs.declared.mono.Atom.{Atom}
use Rattle.normal.specs.Monomials.{number_mono, function_mono, all_negative, all_times, products, atom_along, all_with, atoms_along, all_with_factor, all_derived, monos_along, monomials, item_monomials}
use Rattle.weigh.specs.Lists.{lists_below}
use Rattle.normal.specs.Origins.{HasFunction, HaveFunction, HasPlace, AllAtoms}
use Rattle.weigh.proofs.ListLaws.{all_append}

-- what a derivative of an atom keeps
module _ (P : Atom → Type 0) (keeps : (i : ℕ) (a : Atom) → P a → P (atom_along i a)) where
  both_all : (ms ns : List Monomial) → AllAtoms P ms → AllAtoms P ns → AllAtoms P (ms ++ ns)
  both_all ms ns = all_append (λ m. AllByRecursion P m.atoms) ms ns

  pub negative_all : (ms : List Monomial) → AllAtoms P ms → AllAtoms P (all_negative ms)
  negative_all [] x = tt
  negative_all (m ∷ ms) x = (x.0, negative_all ms x.1)

  row_all : (m : Monomial) (ns : List Monomial) → AllByRecursion P m.atoms → AllAtoms P ns → AllAtoms P (all_times m ns)
  row_all m [] h x = tt
  row_all m (n ∷ ns) h x = (all_append P m.atoms n.atoms h x.0, row_all m ns h x.1)

  pub products_all : (ms ns : List Monomial) → AllAtoms P ms → AllAtoms P ns → AllAtoms P (products ms ns)
  products_all [] ns x y = tt
  products_all (m ∷ ms) ns x y = both_all (all_times m ns) (products ms ns) (row_all m ns x.0 y) (products_all ms ns x.1 y)

  below_all : (n : ℕ) (f : ℕ → List Monomial) → ((k : ℕ) → AllAtoms P (f k)) → AllAtoms P (lists_below n f)
  below_all zero f h = tt
  below_all (suc n) f h = both_all (lists_below n f) (f n) (below_all n f h) (h n)

  with_all : (a : Atom) (xs : List (List Atom)) → P a → AllByRecursion (λ x. AllByRecursion P x) xs → AllByRecursion (λ x. AllByRecursion P x) (all_with a xs)
  with_all a [] h x = tt
  with_all a (y ∷ ys) h x = ((h, x.0), with_all a ys h x.1)

  choices_all : (i : ℕ) (xs : List Atom) → AllByRecursion P xs → AllByRecursion (λ x. AllByRecursion P x) (atoms_along i xs)
  choices_all i [] h = tt
  choices_all i (a ∷ xs) h = ((keeps i a h.0, h.1), with_all a (atoms_along i xs) h.0 (choices_all i xs h.1))

  factor_all : (c : Fraction) (xs : List (List Atom)) → AllByRecursion (λ x. AllByRecursion P x) xs → AllAtoms P (all_with_factor c xs)
  factor_all c [] h = tt
  factor_all c (x ∷ xs) h = (h.0, factor_all c xs h.1)

  derivatives_all : (i : ℕ) (ms : List Monomial) → AllAtoms P ms → AllAtoms P (all_derived i ms)
  derivatives_all i [] x = tt
  derivatives_all i (m ∷ ms) x =
      both_all (all_with_factor m.c (atoms_along i m.atoms)) (all_derived i ms)
      (factor_all m.c (atoms_along i m.atoms) (choices_all i m.atoms x.0)) (derivatives_all i ms x.1)

  pub along_all : (i : ℕ) (ms : List Monomial) → AllAtoms P ms → AllAtoms P (monos_along i ms)
  along_all zero ms x = derivatives_all 0 ms x
  along_all (suc zero) ms x = derivatives_all 1 ms x
  along_all (suc (suc zero)) ms x = derivatives_all 2 ms x
  along_all (suc (suc (suc i))) ms x = tt

  pub unit_all : (b : Bool) → AllAtoms P (if b then number_mono one_fraction else [])
  unit_all true = (tt, tt)
  unit_all false = tt

  module _ (elements : Table) where
    function_all : (f : Function) (k : Option ℕ) → ((n : ℕ) → k ≡ Some n → P (record { f = f; component = n; dirs = 0 ∷ 0 ∷ 0 ∷ [] })) → AllAtoms P (function_mono f k)
    function_all f None h = tt
    function_all f (Some n) h = ((h n refl, tt), tt)

    -- each leaf gives atoms of which P holds
    abbrev Starts : (Function → Type 0) → Type 0
    Starts Q = (f : Function) (at : List ℕ) (n : ℕ) → Q f → function_place elements f at ≡ Some n → P (record { f = f; component = n; dirs = 0 ∷ 0 ∷ 0 ∷ [] })

    mutual
      pub all_atoms : (Q : Function → Type 0) → Starts Q → (e : Term) (v : Names) → ((f : Function) → HasFunction f e → Q f) → AllAtoms P (monomials elements e v)
      all_atoms Q s (num c) v h = (tt, tt)
      all_atoms Q s (fun f at) v h = function_all f (function_place elements f (index_values v at)) (λ n e. s f (index_values v at) n (h f refl) e)
      all_atoms Q s (mark l at b) v h = all_atoms Q s b v h
      all_atoms Q s (neg a) v h = negative_all (monomials elements a v) (all_atoms Q s a v h)
      all_atoms Q s (sum a b) v h = both_all (monomials elements a v) (monomials elements b v) (all_atoms Q s a v (λ f x. h f (inl x))) (all_atoms Q s b v (λ f x. h f (inr x)))
      all_atoms Q s (prod a b) v h = products_all (monomials elements a v) (monomials elements b v) (all_atoms Q s a v (λ f x. h f (inl x))) (all_atoms Q s b v (λ f x. h f (inr x)))
      all_atoms Q s (over i n b) v h = below_all n (λ k. monomials elements b (with_name i k v)) (λ k. all_atoms Q s b (with_name i k v) h)
      all_atoms Q s (dx i b) v h = along_all (index_value v i) (monomials elements b v) (all_atoms Q s b v h)
      all_atoms Q s (delta i j) v h = unit_all (index_value v i == index_value v j)
      all_atoms Q s (pick i ts) v h = all_items Q s ts v h (index_value v i)
      all_atoms Q s (raise l at b) v h = tt
      all_atoms Q s (turn w d b) v h = tt

      all_items : (Q : Function → Type 0) → Starts Q → (ts : Terms) (v : Names) → ((f : Function) → HaveFunction f ts → Q f) → (i : ℕ) → AllAtoms P (item_monomials elements ts v i)
      all_items Q s no_terms v h i = tt
      all_items Q s (term t ts) v h zero = all_atoms Q s t v (λ f x. h f (inl x))
      all_items Q s (term t ts) v h (suc i) = all_items Q s ts v (λ f x. h f (inr x)) i

pub from_leaves : (elements : Table) (e : Term) (v : Names) → AllAtoms (λ a. HasFunction a.f e) (monomials elements e v)
from_leaves elements e v = all_atoms (λ a. HasFunction a.f e) (λ i a h. h) elements (λ f. HasFunction f e) (λ f at n h p. h) e v (λ f h. h)

pub have_places : (elements : Table) (e : Term) (v : Names) → AllAtoms (HasPlace elements) (monomials elements e v)
have_places elements e v =
    all_atoms (HasPlace elements) (λ i a h. record { at = h.at; is = h.is }) elements (λ f. Unit {0}) (λ f at n h p. record { at = at; is = p }) e v (λ f h. tt)
