-- What the operations on lists of monomials mean
use Rattle.std.proofs.Common.{◌≡◌, ℕ, zero, suc, List, [], ◌∷◌, ◌++◌, Option, None, Some, refl, sym, ◌∙◌, ap, ap₂}
use Rattle.algebra.specs.RingLaws as L
use Rattle.algebra.specs.Fraction.{Fraction, zero_fraction, one_fraction}
use Rattle.calculus.specs.Polynomial.{Polynomial, nil, one, plus, times, negative, constant, derivative, polynomials, plus_assoc, plus-nil, times_assoc, times-one}
use Rattle.calculus.proofs.PolynomialLaws.{constant-mul, constant-one, constant-zero, constant-negative, derivative-plus, derivative-times, derivative-constant, derivative_comm}
use Rattle.ufl_tree.specs.declared.function.Function.{Function}
use Rattle.ufl_meaning.specs.Environment.{Environment}
use Rattle.ufl_meaning.specs.Operators.{along, at_place}
use Rattle.calculus.specs.Integral.{sum_below}
use Rattle.ufl_meaning.specs.Monomial.{again, derived, atom_value, atoms_value, mono_value, monos_value}
use Rattle.monos.specs.Monomial.{Monomial}
use Rattle.monos.specs.declared.mono.Atom.{Atom}
use Rattle.normal.specs.Monomials.{number_mono, function_mono, all_negative, product, all_times, products, bumped, all_with, atoms_along, all_with_factor, all_derived, monos_along}
use Rattle.weigh.specs.Lists.{lists_below}

-- ---- derivatives of derivatives
again_comm : (i j n : ℕ) (p : Polynomial) → again i n (derivative j p) ≡ derivative j (again i n p)
again_comm i j zero p = refl
again_comm i j (suc n) p = ap (derivative i) (again_comm i j n p) ∙ derivative_comm i j (again i n p)

bumped_zero : (ds : List ℕ) (p : Polynomial) → derived (bumped 0 ds) p ≡ derivative 0 (derived ds p)
bumped_zero [] p = refl
bumped_zero (d ∷ ds) p = refl

bumped_one : (ds : List ℕ) (p : Polynomial) → derived (bumped 1 ds) p ≡ derivative 1 (derived ds p)
bumped_one [] p = refl
bumped_one (d ∷ []) p = again_comm 0 1 d p
bumped_one (d ∷ e ∷ ds) p = again_comm 0 1 d _

bumped_two : (ds : List ℕ) (p : Polynomial) → derived (bumped 2 ds) p ≡ derivative 2 (derived ds p)
bumped_two [] p = refl
bumped_two (d ∷ []) p = again_comm 0 2 d p
bumped_two (d ∷ e ∷ []) p = ap (again 0 d) (again_comm 1 2 e p) ∙ again_comm 0 2 d _
bumped_two (d ∷ e ∷ f ∷ ds) p = ap (again 0 d) (again_comm 1 2 e _) ∙ again_comm 0 2 d _

module _ (env : Environment) where
  -- ---- sums
  pub append_value : (ms ns : List Monomial) → monos_value env (ms ++ ns) ≡ plus (monos_value env ms) (monos_value env ns)
  append_value [] ns = sym (L.zero-add polynomials _)
  append_value (m ∷ ms) ns = ap (plus (mono_value env m)) (append_value ms ns) ∙ sym (plus_assoc _ _ _)

  pub below_value : (n : ℕ) (f : ℕ → List Monomial) → monos_value env (lists_below n f) ≡ sum_below n (λ k. monos_value env (f k))
  below_value zero f = refl
  below_value (suc n) f = append_value (lists_below n f) (f n) ∙ ap (λ p. plus p (monos_value env (f n))) (below_value n f)

  -- ---- the leaves
  pub number_value : (c : Fraction) → monos_value env (number_mono c) ≡ constant c
  number_value c = plus-nil _ ∙ times-one (constant c)

  pub function_value : (f : Function) (k : Option ℕ) → monos_value env (function_mono f k) ≡ at_place k (env.value f.role)
  function_value f None = refl
  function_value f (Some k) = plus-nil _ ∙ ap₂ times constant-one (times-one _) ∙ L.one-mul polynomials _

  -- ---- the other sign
  negative_plus : (p q : Polynomial) → plus (negative p) (negative q) ≡ negative (plus p q)
  negative_plus p q = L.neg-unique polynomials (plus p q) _ (L.add_medial polynomials _ _ _ _ ∙ ap₂ plus (L.neg-add polynomials p) (L.neg-add polynomials q) ∙ plus-nil nil)

  pub all_negative_value : (ms : List Monomial) → monos_value env (all_negative ms) ≡ negative (monos_value env ms)
  all_negative_value [] = sym (L.neg-zero polynomials)
  all_negative_value (m ∷ ms) =
      ap₂ plus (ap (λ c. times c (atoms_value env m.atoms)) (constant-negative m.c) ∙ L.neg-mul polynomials _ _) (all_negative_value ms)
      ∙ negative_plus (mono_value env m) (monos_value env ms)

  -- ---- products
  pub atoms_append : (xs ys : List Atom) → atoms_value env (xs ++ ys) ≡ times (atoms_value env xs) (atoms_value env ys)
  atoms_append [] ys = sym (L.one-mul polynomials _)
  atoms_append (x ∷ xs) ys = ap (times (atom_value env x)) (atoms_append xs ys) ∙ sym (times_assoc _ _ _)

  pub product_value : (m n : Monomial) → mono_value env (product m n) ≡ times (mono_value env m) (mono_value env n)
  product_value m n = ap₂ times (constant-mul m.c n.c) (atoms_append m.atoms n.atoms) ∙ L.mul_medial polynomials _ _ _ _

  all_times_value : (m : Monomial) (ns : List Monomial) → monos_value env (all_times m ns) ≡ times (mono_value env m) (monos_value env ns)
  all_times_value m [] = sym (L.mul-zero polynomials _)
  all_times_value m (n ∷ ns) = ap₂ plus (product_value m n) (all_times_value m ns) ∙ sym (polynomials.mul_add _ _ _)

  pub products_value : (ms ns : List Monomial) → monos_value env (products ms ns) ≡ times (monos_value env ms) (monos_value env ns)
  products_value [] ns = sym (L.zero-mul polynomials _)
  products_value (m ∷ ms) ns =
      append_value (all_times m ns) (products ms ns)
      ∙ ap₂ plus (all_times_value m ns) (products_value ms ns)
      ∙ sym (L.add-mul polynomials _ _ _)

  -- ---- the product rule, in a direction in which each atom is derived
  abbrev choices_value : List (List Atom) → Polynomial
  choices_value [] = nil
  choices_value (x ∷ xs) = plus (atoms_value env x) (choices_value xs)

  all_with_value : (a : Atom) (xs : List (List Atom)) → choices_value (all_with a xs) ≡ times (atom_value env a) (choices_value xs)
  all_with_value a [] = sym (L.mul-zero polynomials _)
  all_with_value a (x ∷ xs) = ap (plus _) (all_with_value a xs) ∙ sym (polynomials.mul_add _ _ _)

  all_with_factor_value : (c : Fraction) (xs : List (List Atom)) → monos_value env (all_with_factor c xs) ≡ times (constant c) (choices_value xs)
  all_with_factor_value c [] = sym (L.mul-zero polynomials _)
  all_with_factor_value c (x ∷ xs) = ap (plus _) (all_with_factor_value c xs) ∙ sym (polynomials.mul_add _ _ _)

  derivative-nil : (i : ℕ) → derivative i nil ≡ nil
  derivative-nil i = ap (derivative i) (sym constant-zero) ∙ derivative-constant i zero_fraction

  derivative-one : (i : ℕ) → derivative i one ≡ nil
  derivative-one i = ap (derivative i) (sym constant-one) ∙ derivative-constant i one_fraction

  module _ (i : ℕ) (bumps : (ds : List ℕ) (p : Polynomial) → derived (bumped i ds) p ≡ derivative i (derived ds p)) where
    choices_along : (xs : List Atom) → choices_value (atoms_along i xs) ≡ derivative i (atoms_value env xs)
    choices_along [] = sym (derivative-one i)
    choices_along (x ∷ xs) =
        ap₂ plus (ap (λ p. times p (atoms_value env xs)) (bumps x.dirs _)) (all_with_value x (atoms_along i xs) ∙ ap (times (atom_value env x)) (choices_along xs))
        ∙ sym (derivative-times i _ _)

    derivative_scaled : (c : Fraction) (p : Polynomial) → derivative i (times (constant c) p) ≡ times (constant c) (derivative i p)
    derivative_scaled c p =
        derivative-times i (constant c) p
        ∙ ap (λ x. plus (times x p) (times (constant c) (derivative i p))) (derivative-constant i c)
        ∙ ap (λ x. plus x (times (constant c) (derivative i p))) (L.zero-mul polynomials p)
        ∙ L.zero-add polynomials _

    derivatives_value : (ms : List Monomial) → monos_value env (all_derived i ms) ≡ derivative i (monos_value env ms)
    derivatives_value [] = sym (derivative-nil i)
    derivatives_value (m ∷ ms) =
        append_value (all_with_factor m.c (atoms_along i m.atoms)) (all_derived i ms)
        ∙ ap₂ plus (all_with_factor_value m.c (atoms_along i m.atoms) ∙ ap (times (constant m.c)) (choices_along m.atoms) ∙ sym (derivative_scaled m.c _)) (derivatives_value ms)
        ∙ sym (derivative-plus i _ _)

  pub along_value : (i : ℕ) (ms : List Monomial) → monos_value env (monos_along i ms) ≡ along i (monos_value env ms)
  along_value zero ms = derivatives_value 0 bumped_zero ms
  along_value (suc zero) ms = derivatives_value 1 bumped_one ms
  along_value (suc (suc zero)) ms = derivatives_value 2 bumped_two ms
  along_value (suc (suc (suc i))) ms = refl
