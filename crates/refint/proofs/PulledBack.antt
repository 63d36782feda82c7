-- Derivatives of products of functions, after the map of a cell
use Rattle.std.specs.Prelude.{◌≡◌, ℕ, zero, suc, ◌+◌, ◌<◌, ◌&&◌, Bool, true, false, List, [], ◌∷◌, ◌++◌, map, replicate, slice_index, Option, None, Some, nat_lt, nat_le, if◌then◌else◌}
use Rattle.std.proofs.Common.{ltb-true}
use native.Mathlib.Omega.{arith}
use mathlib.Core.Path.{refl, sym, ◌∙◌, ap, ap₂}
use Rattle.algebra.specs.RingLaws as L
use Rattle.algebra.specs.Fraction.{zero_fraction, is_zero_fraction}
use Rattle.calculus.specs.Polynomial.{Polynomial, nil, plus, times, constant, derivative, composed, polynomials}
use Rattle.calculus.specs.Simplex.{Simplex, IsCell, dimension, volume, reference, affine, is_less}
use Rattle.calculus.specs.Jacobian.{inverse_jacobian}
use Rattle.calculus.specs.Integral.{sum_below}
use Rattle.calculus.proofs.PolynomialLaws.{composed-plus, composed-nil, constant-one, constant-zero, derivative-plus, derivative-times, derivative-constant, derivative_comm}
use Rattle.calculus.proofs.Linear.{composed-scaled}
use Rattle.calculus.proofs.LocalFunctions.{local_function_law}
use Rattle.calculus.proofs.PulledBackDerivative.{derivative_law}
use Rattle.spaces.specs.declared.parts.Part.{Part}
use Rattle.ufl_meaning.specs.Monomial.{again, derived}
use Rattle.monos.specs.declared.mono.Atom.{Atom}
use Rattle.refint.specs.Local.{node_function, in_part, numbers_below}
use Rattle.refint.specs.Digits.{columns}
use Rattle.refint.specs.Reference.{digit_lists, growths, along_all, at_node}
use Rattle.monos.specs.Monomial.{directions}
use Rattle.refint.proofs.Lists.{first_mapped}
use Rattle.refint.proofs.Combined.{IsSum, IsLinear, mapped, bound, numbered, is_sum_at, linear_nil}
use Rattle.refint.proofs.Free.{free_above, free_nil}

pub derivative_is_linear : (i : ℕ) → IsLinear (derivative i)
derivative_is_linear i = record {
  adds = derivative-plus i;
  scales = λ c p.
      derivative-times i (constant c) p ∙ ap (λ x. plus (times x p) (times (constant c) (derivative i p))) (derivative-constant i c)
      ∙ ap (λ x. plus x (times (constant c) (derivative i p))) (L.zero-mul polynomials p) ∙ L.zero-add polynomials _;
}

pub composed_is_linear : (s : ℕ → Polynomial) → IsLinear (composed s)
composed_is_linear s = record { adds = composed-plus s; scales = λ c p. composed-scaled s c p }

pub along_is_linear : (is : List ℕ) → IsLinear (along_all is)
along_is_linear [] = record { adds = λ p q. refl; scales = λ c p. refl }
along_is_linear (i ∷ is) = record {
  adds = λ p q. ap (derivative i) ((along_is_linear is).adds p q) ∙ (derivative_is_linear i).adds _ _;
  scales = λ c p. ap (derivative i) ((along_is_linear is).scales c p) ∙ (derivative_is_linear i).scales c _;
}

along_free : (i : ℕ) (is : List ℕ) (q : Polynomial) → derivative i q ≡ nil → derivative i (along_all is q) ≡ nil
along_free i [] q h = h
along_free i (j ∷ is) q h = derivative_comm i j (along_all is q) ∙ ap (derivative j) (along_free i is q h) ∙ linear_nil (derivative j) (derivative_is_linear j)

-- the directions of an atom in a row
along_append : (is js : List ℕ) (p : Polynomial) → along_all (is ++ js) p ≡ along_all is (along_all js p)
along_append [] js p = refl
along_append (i ∷ is) js p = ap (derivative i) (along_append is js p)

along_again : (i n : ℕ) (p : Polynomial) → along_all (replicate n i) p ≡ again i n p
along_again i zero p = refl
along_again i (suc n) p = ap (derivative i) (along_again i n p)

pub derived_along : (x : Atom) (p : Polynomial) → derived x.dirs p ≡ along_all (directions x) p
derived_along x p =
    sym
    (along_append (replicate (slice_index x.dirs 0) 0) _ p
    ∙ along_again 0 (slice_index x.dirs 0) _
    ∙ ap (again 0 (slice_index x.dirs 0))
    (along_append (replicate (slice_index x.dirs 1) 1) (replicate (slice_index x.dirs 2) 2) p
    ∙ along_again 1 (slice_index x.dirs 1) _
    ∙ ap (again 1 (slice_index x.dirs 1)) (along_again 2 (slice_index x.dirs 2) p)))

less : (i d : ℕ) → i < d → is_less i d ≡ true
less zero zero h = absurd (omega arith)
less zero (suc d) h = refl
less (suc i) zero h = absurd (omega arith)
less (suc i) (suc d) h = less i d (omega arith)

-- a function on a cell of dimension d, and what it is after the map
pub record IsPulled (d : ℕ) (v : Simplex) (q r : Polynomial) : Type 0 where
  pub pulled : composed (affine v) q ≡ r
  pub free : (i : ℕ) → nat_lt i d ≡ false → derivative i q ≡ nil

module _ (d : ℕ) (v : Simplex) (c : IsCell v) (h : is_zero_fraction (volume v) ≡ false) (e : dimension v ≡ d) where
  pub nil_pulled : IsPulled d v nil nil
  nil_pulled = record { pulled = composed-nil (affine v); free = λ i k. free_nil i }

  pub node_pulled : (p : Part) (j : ℕ) → IsPulled d v (node_function d v p j) (node_function d (reference d) p j)
  node_pulled p j = record {
    pulled = local_function_law v c h _ ∙ ap (λ n. node_function d (reference n) p j) e;
    free = λ i k. free_above v c i (ap (nat_lt i) e ∙ k) _;
  }

  pub in_part_pulled : (o : Option Part) (a : ℕ) → IsPulled d v (in_part d v o a) (in_part d (reference d) o a)
  in_part_pulled None a = nil_pulled
  in_part_pulled (Some p) a = go (nat_le p.offset a && nat_lt a (p.offset + p.nodes)) _
    where
      go : (b : Bool) (j : ℕ) → IsPulled d v (if b then node_function d v p j else nil) (if b then node_function d (reference d) p j else nil)
      go true j = node_pulled p j
      go false j = nil_pulled

  pub at_node_pulled : (o : Option Part) (j : ℕ) → IsPulled d v (at_node d v o j) (at_node d (reference d) o j)
  at_node_pulled None j = nil_pulled
  at_node_pulled (Some p) j = node_pulled p j

  -- one derivative
  one_derivative : (i : ℕ) (p : Polynomial) → (nat_lt i d ≡ false → derivative i p ≡ nil)
      → IsSum (growths d v i) (map (λ a. derivative a (composed (affine v) p)) (numbers_below d)) (composed (affine v) (derivative i p))
  one_derivative i p free = go (nat_lt i d) refl
    where
      go : (b : Bool) → nat_lt i d ≡ b
          → IsSum (map (λ a. if nat_lt i d then inverse_jacobian v a i else zero_fraction) (numbers_below d))
          (map (λ a. derivative a (composed (affine v) p)) (numbers_below d)) (composed (affine v) (derivative i p))
      go true k =
          is_sum_at _ _ _ _ _ _ (ap (λ b. map (λ a. if b then inverse_jacobian v a i else zero_fraction) (numbers_below d)) (sym k)) refl
          (sym (derivative_law v c h i (ap (is_less i) e ∙ less i d (ltb-true i d k)) p
          ∙ ap (λ n. sum_below n (λ a. times (constant (inverse_jacobian v a i)) (derivative a (composed (affine v) p)))) e))
          (numbered (λ a. inverse_jacobian v a i) (λ a. derivative a (composed (affine v) p)) d)
      go false k =
          is_sum_at _ _ _ _ _ _ (ap (λ b. map (λ a. if b then inverse_jacobian v a i else zero_fraction) (numbers_below d)) (sym k)) refl
          (none d ∙ sym (ap (composed (affine v)) (free k) ∙ composed-nil (affine v)))
          (numbered (λ a. zero_fraction) (λ a. derivative a (composed (affine v) p)) d)
        where
          none : (n : ℕ) → sum_below n (λ a. times (constant zero_fraction) (derivative a (composed (affine v) p))) ≡ nil
          none zero = refl
          none (suc n) =
              ap₂ plus (none n) (ap (λ x. times x (derivative n (composed (affine v) p))) constant-zero ∙ L.zero-mul polynomials _) ∙ polynomials.add_zero nil

  -- derivatives in these directions, one after the other
  pub along_sum : (is : List ℕ) (q r : Polynomial) → IsPulled d v q r
      → IsSum (columns (map (growths d v) is)) (map (λ ds. along_all ds r) (digit_lists (map (λ i. d) is))) (composed (affine v) (along_all is q))
  along_sum [] q r k = record {
    lengths = refl;
    value = polynomials.add_zero _ ∙ ap (λ x. times x r) constant-one ∙ L.one-mul polynomials r ∙ sym k.pulled;
  }
  along_sum (i ∷ is) q r k =
      is_sum_at _ _ _ _ _ _ refl (sym (first_mapped (λ ds. along_all ds r) d (map (λ i. d) is))) refl
      (bound (λ a. derivative a (composed (affine v) (along_all is q))) (λ a. map (λ ds. derivative a (along_all ds r)) (digit_lists (map (λ i. d) is)))
      (columns (map (growths d v) is))
      (λ a. mapped (derivative a) (derivative_is_linear a) (λ ds. along_all ds r) _ (digit_lists (map (λ i. d) is)) _ (along_sum is q r k))
      (numbers_below d) (growths d v i) _ (one_derivative i (along_all is q) (λ m. along_free i is q (k.free i m))))
