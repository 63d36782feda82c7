-- A variable that occurs in no operand occurs in no result
use Rattle.std.proofs.Common.{◌≡◌, ℕ, zero, suc, ◌==◌, Bool, true, false, List, [], ◌∷◌, Option, None, Some, if◌then◌else◌, sym, ap, ap₂, ◌∙◌}
use Rattle.algebra.specs.Ring.{Ring, natural}
use Rattle.algebra.specs.RingLaws as L
use Rattle.algebra.specs.Fraction.{Fraction, fractions, inverse, zero_fraction, one_fraction}
use Rattle.calculus.specs.Field.{Division}
use Rattle.calculus.specs.OverRing as O
use Rattle.calculus.specs.Rational.{rationals}
use Rattle.calculus.specs.Powers.{delta}
use Rattle.calculus.specs.Polynomial.{Polynomial, polynomials, nil, one, plus, times, negative, minus, constant, derivative, coefficient_of, power, plus-nil}
use Rattle.calculus.specs.Integral.{sum_below}
use Rattle.calculus.proofs.OverRingLaws as G
use Rattle.calculus.proofs.Antiderivative as J
use Rattle.calculus.proofs.Coefficients as C
use Rattle.calculus.proofs.PolynomialLaws.{IsFree, derivative-plus, derivative-times, derivative-negative, derivative-constant, derivative_comm, constant-zero, constant-one}
use Rattle.ufl_tree.specs.declared.function.Free.{Free}
use Rattle.ufl_tree.specs.declared.tree.Op1.{Op1}
use Rattle.ufl_tree.specs.declared.tree.Op1.TheVariants.{Neg, Grad, NablaGrad, Div, NablaDiv, Curl, Transpose, Trace, Sym, Skew, Dev}
use Rattle.ufl_tree.specs.declared.tree.Op2.{Op2}
use Rattle.ufl_tree.specs.declared.tree.Op2.TheVariants.{Sum, Product, Dot, Inner, Outer, Cross}
use Rattle.ufl_tree.specs.Indices.{Names, with_name, front, back, followed_by, first_size, last_size}
use Rattle.ufl_meaning.specs.Operators.{Components, at_place, along, sum_names, sum_components, one_in, unit_or_nil, identity_value, grad_value, nabla_grad_value, rotated, scalar_curl, curl_value, turned_over, trace_value, matrix_value, one_value, dot_value, product_value, cross_value, two_value}

-- ---- the coefficients of a variable
module _ {R : Type 0} (K : Ring R) (D : Division K) where
  abbrev A : Ring (O.Polynomial K)
  A = O.ring K

  cut_own : (t : ℕ) (p : O.Polynomial K) → C.IsFree K D t (J.cut K D t p)
  cut_own t p =
      L.add_right_cancel A _ _ (O.derivative K t p)
      (A.add_comm _ _
      ∙ ap (λ x. A.add x (O.derivative K t (J.cut K D t p))) (sym (J.derivative-anti K D t (O.derivative K t p)))
      ∙ sym (G.derivative-add K t _ _)
      ∙ ap (O.derivative K t) (J.anti-derivative K D t p)
      ∙ sym (L.zero-add A _))

  zero_own : (t : ℕ) (p : O.Polynomial K) → C.IsFree K D t (O.coefficient_of K t 0 p)
  zero_own t p = ap (O.derivative K t) (C.coefficient_zero K D t p) ∙ cut_own t p

  one_own : (t : ℕ) (p : O.Polynomial K) → C.IsFree K D t (O.coefficient_of K t 1 p)
  one_own t p = ap (O.derivative K t) (C.coefficient_one K D t p) ∙ cut_own t (O.derivative K t p)

  zero_other : (t i : ℕ) → delta i t ≡ 0 → (p : O.Polynomial K) → C.IsFree K D i p → C.IsFree K D i (O.coefficient_of K t 0 p)
  zero_other t i h p free = sym (C.coefficient_zero-derivative K D t i h p) ∙ ap (O.coefficient_of K t 0) free ∙ C.coefficient-zero K D t 0

  one_other : (t i : ℕ) → delta i t ≡ 0 → (p : O.Polynomial K) → C.IsFree K D i p → C.IsFree K D i (O.coefficient_of K t 1 p)
  one_other t i h p free = sym (C.coefficient_one-derivative K D t i h p) ∙ ap (O.coefficient_of K t 1) free ∙ C.coefficient-zero K D t 1

pub free_zero_own : (t : ℕ) (p : Polynomial) → IsFree t (coefficient_of t 0 p)
unfolding coefficient_of derivative nil
free_zero_own t p = zero_own fractions rationals.division t p

pub free_one_own : (t : ℕ) (p : Polynomial) → IsFree t (coefficient_of t 1 p)
unfolding coefficient_of derivative nil
free_one_own t p = one_own fractions rationals.division t p

pub free_zero_other : (t i : ℕ) → delta i t ≡ 0 → (p : Polynomial) → IsFree i p → IsFree i (coefficient_of t 0 p)
unfolding coefficient_of derivative nil
free_zero_other t i h p free = zero_other fractions rationals.division t i h p free

pub free_one_other : (t i : ℕ) → delta i t ≡ 0 → (p : Polynomial) → IsFree i p → IsFree i (coefficient_of t 1 p)
unfolding coefficient_of derivative nil
free_one_other t i h p free = one_other fractions rationals.division t i h p free

-- ---- the operations
module _ (t : ℕ) where
  pub free_constant : (c : Fraction) → IsFree t (constant c)
  free_constant c = derivative-constant t c

  pub free_nil : IsFree t nil
  free_nil = ap (derivative t) (sym constant-zero) ∙ free_constant zero_fraction

  pub free_one : IsFree t one
  free_one = ap (derivative t) (sym constant-one) ∙ free_constant one_fraction

  pub free_plus : (p q : Polynomial) → IsFree t p → IsFree t q → IsFree t (plus p q)
  free_plus p q hp hq = derivative-plus t p q ∙ ap₂ plus hp hq ∙ plus-nil nil

  pub free_times : (p q : Polynomial) → IsFree t p → IsFree t q → IsFree t (times p q)
  free_times p q hp hq =
      derivative-times t p q
      ∙ ap₂ plus (ap (λ x. times x q) hp ∙ L.zero-mul polynomials q) (ap (times p) hq ∙ L.mul-zero polynomials p)
      ∙ plus-nil nil

  pub free_negative : (p : Polynomial) → IsFree t p → IsFree t (negative p)
  free_negative p h = derivative-negative t p ∙ ap negative h ∙ L.neg-zero polynomials

  pub free_minus : (p q : Polynomial) → IsFree t p → IsFree t q → IsFree t (minus p q)
  free_minus p q hp hq = free_plus p (negative q) hp (free_negative q hq)

  pub free_either : (b : Bool) (p q : Polynomial) → IsFree t p → IsFree t q → IsFree t (if b then p else q)
  free_either true p q hp hq = hp
  free_either false p q hp hq = hq

  pub free_power : (p : Polynomial) (n : ℕ) → IsFree t p → IsFree t (power p n)
  free_power p zero h = free_one
  free_power p (suc n) h = free_times p (power p n) h (free_power p n h)

  free_derivative : (i : ℕ) (p : Polynomial) → IsFree t p → IsFree t (derivative i p)
  free_derivative i p h = derivative_comm t i p ∙ ap (derivative i) h ∙ nothing i
    where
      nothing : (i : ℕ) → IsFree i nil
      nothing i = ap (derivative i) (sym constant-zero) ∙ derivative-constant i zero_fraction

  pub free_along : (i : ℕ) (p : Polynomial) → IsFree t p → IsFree t (along i p)
  free_along zero p h = free_derivative 0 p h
  free_along (suc zero) p h = free_derivative 1 p h
  free_along (suc (suc zero)) p h = free_derivative 2 p h
  free_along (suc (suc (suc i))) p h = free_nil

  pub free_below : (n : ℕ) (f : ℕ → Polynomial) → ((k : ℕ) → IsFree t (f k)) → IsFree t (sum_below n f)
  free_below zero f h = free_nil
  free_below (suc n) f h = free_plus (sum_below n f) (f n) (free_below n f h) (h n)

  pub free_names : (xs : List Free) (f : Names → Polynomial) → ((w : Names) → IsFree t (f w)) → (v : Names) → IsFree t (sum_names xs f v)
  free_names [] f h v = h v
  free_names (x ∷ xs) f h v = free_below x.dim _ (λ k. free_names xs f h (with_name x.index k v))

  pub free_components : (s : List ℕ) (f : Components) → ((b : List ℕ) → IsFree t (f b)) → IsFree t (sum_components s f)
  free_components [] f h = h []
  free_components (d ∷ s) f h = free_below d _ (λ k. free_components s (λ b. f (k ∷ b)) (λ b. h (k ∷ b)))

  pub free_place : (o : Option ℕ) (f : ℕ → Polynomial) → ((i : ℕ) → IsFree t (f i)) → IsFree t (at_place o f)
  free_place None f h = free_nil
  free_place (Some n) f h = h n

  pub free_unit : (i j : ℕ) → IsFree t (unit_or_nil i j)
  free_unit i j = free_either (i == j) one nil free_one free_nil

  pub free_identity : (b : List ℕ) → IsFree t (identity_value b)
  free_identity [] = free_nil
  free_identity (i ∷ []) = free_nil
  free_identity (i ∷ j ∷ []) = free_unit i j
  free_identity (i ∷ j ∷ k ∷ b) = free_nil

  -- ---- the operators of one operand
  free_grad : (f : Components) → ((b : List ℕ) → IsFree t (f b)) → (b : List ℕ) → IsFree t (grad_value f b)
  free_grad f h [] = free_nil
  free_grad f h (i ∷ []) = free_along i (f []) (h [])
  free_grad f h (i ∷ j ∷ b) = free_grad (λ c. f (i ∷ c)) (λ c. h (i ∷ c)) (j ∷ b)

  free_nabla_grad : (f : Components) → ((b : List ℕ) → IsFree t (f b)) → (b : List ℕ) → IsFree t (nabla_grad_value f b)
  free_nabla_grad f h [] = free_nil
  free_nabla_grad f h (i ∷ b) = free_along i (f b) (h b)

  free_rotated : (g : ℕ → ℕ → Polynomial) → ((j k : ℕ) → IsFree t (g j k)) → (i : ℕ) → IsFree t (rotated g i)
  free_rotated g h zero = free_minus _ _ (h 1 2) (h 2 1)
  free_rotated g h (suc zero) = free_minus _ _ (h 2 0) (h 0 2)
  free_rotated g h (suc (suc zero)) = free_minus _ _ (h 0 1) (h 1 0)
  free_rotated g h (suc (suc (suc i))) = free_nil

  free_scalar_curl : (p : Polynomial) → IsFree t p → (i : ℕ) → IsFree t (scalar_curl p i)
  free_scalar_curl p h zero = free_along 1 p h
  free_scalar_curl p h (suc zero) = free_negative _ (free_along 0 p h)
  free_scalar_curl p h (suc (suc i)) = free_nil

  free_curl : (s : List ℕ) (f : Components) → ((b : List ℕ) → IsFree t (f b)) → (b : List ℕ) → IsFree t (curl_value s f b)
  free_curl [] f h [] = free_nil
  free_curl [] f h (i ∷ []) = free_scalar_curl (f []) (h []) i
  free_curl [] f h (i ∷ j ∷ b) = free_nil
  free_curl (n ∷ []) f h [] = free_minus _ _ (free_along 0 _ (h (1 ∷ []))) (free_along 1 _ (h (0 ∷ [])))
  free_curl (n ∷ []) f h (i ∷ []) = free_rotated (λ j k. along j (f (k ∷ []))) (λ j k. free_along j _ (h (k ∷ []))) i
  free_curl (n ∷ []) f h (i ∷ j ∷ b) = free_nil
  free_curl (n ∷ m ∷ s) f h b = free_nil

  free_trace : (n : ℕ) (f : Components) → ((b : List ℕ) → IsFree t (f b)) → IsFree t (trace_value n f)
  free_trace n f h = free_below n _ (λ i. h (i ∷ i ∷ []))

  free_matrix : (g : ℕ → ℕ → Polynomial) → ((i j : ℕ) → IsFree t (g i j)) → (b : List ℕ) → IsFree t (matrix_value g b)
  free_matrix g h [] = free_nil
  free_matrix g h (i ∷ []) = free_nil
  free_matrix g h (i ∷ j ∷ []) = h i j
  free_matrix g h (i ∷ j ∷ k ∷ b) = free_nil

  free_one_in : (n : ℕ) → IsFree t (one_in n)
  free_one_in n = free_constant (inverse (natural fractions n))

  pub free_one_value : (op : Op1) (s : List ℕ) (f : Components) → ((b : List ℕ) → IsFree t (f b)) → (b : List ℕ) → IsFree t (one_value op s f b)
  free_one_value Neg s f h b = free_negative _ (h b)
  free_one_value Grad s f h b = free_grad f h b
  free_one_value NablaGrad s f h b = free_nabla_grad f h b
  free_one_value Div s f h b = free_below (last_size s) _ (λ k. free_along k _ (h (followed_by b k)))
  free_one_value NablaDiv s f h b = free_below (first_size s) _ (λ k. free_along k _ (h (k ∷ b)))
  free_one_value Curl s f h b = free_curl s f h b
  free_one_value Transpose s f h b = free_matrix (turned_over f) (λ i j. h (j ∷ i ∷ [])) b
  free_one_value Trace s f h b = free_trace (first_size s) f h
  free_one_value Sym s f h b = free_matrix _ (λ i j. free_times _ _ (free_one_in 2) (free_plus _ _ (h (i ∷ j ∷ [])) (h (j ∷ i ∷ [])))) b
  free_one_value Skew s f h b = free_matrix _ (λ i j. free_times _ _ (free_one_in 2) (free_minus _ _ (h (i ∷ j ∷ [])) (h (j ∷ i ∷ [])))) b
  free_one_value Dev s f h b =
      free_matrix _
      (λ i j. free_minus _ _ (h (i ∷ j ∷ [])) (free_times _ _ (free_times _ _ (free_trace (first_size s) f h) (free_one_in (first_size s))) (free_unit i j))) b

  -- ---- of two operands
  free_dot : (s : List ℕ) (f g : Components) → ((b : List ℕ) → IsFree t (f b)) → ((b : List ℕ) → IsFree t (g b)) → (b : List ℕ) → IsFree t (dot_value s f g b)
  free_dot [] f g hf hg b = free_times _ _ (hf []) (hg b)
  free_dot (d ∷ s) f g hf hg b = free_below (last_size (d ∷ s)) _ (λ k. free_times _ _ (hf (followed_by (front s b) k)) (hg (k ∷ back s b)))

  free_product : (s u : List ℕ) (f g : Components) → ((b : List ℕ) → IsFree t (f b)) → ((b : List ℕ) → IsFree t (g b)) → (b : List ℕ) → IsFree t (product_value s u f g b)
  free_product [] u f g hf hg b = free_times _ _ (hf []) (hg b)
  free_product (d ∷ s) [] f g hf hg b = free_times _ _ (hf b) (hg [])
  free_product (d ∷ s) (e ∷ u) f g hf hg b = free_dot (d ∷ s) f g hf hg b

  free_cross : (f g : Components) → ((b : List ℕ) → IsFree t (f b)) → ((b : List ℕ) → IsFree t (g b)) → (b : List ℕ) → IsFree t (cross_value f g b)
  free_cross f g hf hg [] = free_nil
  free_cross f g hf hg (i ∷ []) = free_rotated _ (λ j k. free_times _ _ (hf (j ∷ [])) (hg (k ∷ []))) i
  free_cross f g hf hg (i ∷ j ∷ b) = free_nil

  pub free_two_value : (op : Op2) (s u : List ℕ) (f g : Components) → ((b : List ℕ) → IsFree t (f b)) → ((b : List ℕ) → IsFree t (g b)) → (b : List ℕ)
      → IsFree t (two_value op s u f g b)
  free_two_value Sum s u f g hf hg b = free_plus _ _ (hf b) (hg b)
  free_two_value Product s u f g hf hg b = free_product s u f g hf hg b
  free_two_value Dot s u f g hf hg b = free_dot s f g hf hg b
  free_two_value Inner s u f g hf hg b = free_components s _ (λ c. free_times _ _ (hf c) (hg c))
  free_two_value Outer s u f g hf hg b = free_times _ _ (hf (front s b)) (hg (back s b))
  free_two_value Cross s u f g hf hg b = free_cross f g hf hg b
