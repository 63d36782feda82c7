-- The product of sums of terms: exponents multiply as a commutative monoid does
use Rattle.std.specs.Prelude.{◌≡◌}
use Rattle.algebra.specs.Ring.{Ring, additive}
use Rattle.algebra.specs.Group.{Group}
use Rattle.algebra.specs.RingLaws as L
use Rattle.algebra.specs.GroupLaws as S
use Rattle.calculus.specs.Free as F
use Rattle.calculus.specs.Free.{Exponents, Sum, mono, plus, sums, extended, nothing, negative}
use mathlib.Core.Path.{refl, sym, ◌∙◌, ap, ap₂}

pub record Monomials (E : Type 0) : Type 0 where
  pub exponents : Exponents E
  pub unit : E
  pub times : E → E → E
  pub times_assoc : (e f g : E) → times (times e f) g ≡ times e (times f g)
  pub times_comm : (e f : E) → times e f ≡ times f e
  pub times-unit : (e : E) → times e unit ≡ e

module _ {R : Type 0} (K : Ring R) {E : Type 0} (M : Monomials E) where
  abbrev pub C : Group R
  C = additive K

  abbrev pub Poly : Type 0
  Poly = Sum (additive K) M.exponents

  abbrev pub G : Group Poly
  G = sums (additive K) M.exponents

  abbrev pub term : R → E → Poly
  term = mono (additive K) M.exponents

  abbrev pub add : Poly → Poly → Poly
  add = plus (additive K) M.exponents

  abbrev pub Additive : (Poly → Poly) → Type 0
  Additive f = (s t : Poly) → f (add s t) ≡ add (f s) (f t)

  pub term_sum : (c : R) (e : E) (a b : R) (f : E) → term (K.mul c (K.add a b)) (M.times e f) ≡ add (term (K.mul c a) (M.times e f)) (term (K.mul c b) (M.times e f))
  term_sum c e a b f = ap (λ x. term x (M.times e f)) (K.mul_add c a b) ∙ F.mono-add (additive K) M.exponents (K.mul c a) (K.mul c b) (M.times e f)

  -- a polynomial times one term
  unfoldable pub scaled : R → E → Poly → Poly
  scaled c e = extended (additive K) M.exponents G (λ d f. term (K.mul c d) (M.times e f)) (term_sum c e)

  pub scaled-term : (c : R) (e : E) (d : R) (f : E) → scaled c e (term d f) ≡ term (K.mul c d) (M.times e f)
  unfolding scaled
  scaled-term c e = F.extended-mono (additive K) M.exponents G (λ d f. term (K.mul c d) (M.times e f)) (term_sum c e)

  pub scaled-add : (c : R) (e : E) → Additive (scaled c e)
  unfolding scaled
  scaled-add c e = F.extended-plus (additive K) M.exponents G (λ d f. term (K.mul c d) (M.times e f)) (term_sum c e)

  sum_of_additive : (f g : Poly → Poly) → Additive f → Additive g → Additive (λ s. add (f s) (g s))
  sum_of_additive f g hf hg s t = ap₂ add (hf s t) (hg s t) ∙ S.add_medial G (f s) (f t) (g s) (g t)

  -- additive maps that agree on terms
  pub same_on_terms : (f g : Poly → Poly) → Additive f → Additive g → ((c : R) (e : E) → f (term c e) ≡ g (term c e)) → (s : Poly) → f s ≡ g s
  same_on_terms f g hf hg h = F.same_maps (additive K) M.exponents G f g hf hg h

  pub scaled_of_sum : (q : Poly) (a b : R) (e : E) → scaled (K.add a b) e q ≡ add (scaled a e q) (scaled b e q)
  scaled_of_sum q a b e =
      same_on_terms (scaled (K.add a b) e) (λ q. add (scaled a e q) (scaled b e q)) (scaled-add (K.add a b) e)
      (sum_of_additive (scaled a e) (scaled b e) (scaled-add a e) (scaled-add b e))
      (λ d f. scaled-term (K.add a b) e d f ∙ ap (λ x. term x (M.times e f)) (L.add-mul K a b d)
      ∙ F.mono-add (additive K) M.exponents (K.mul a d) (K.mul b d) (M.times e f)
      ∙ sym (ap₂ add (scaled-term a e d f) (scaled-term b e d f)))
      q

  unfoldable pub mul : Poly → Poly → Poly
  mul p q = extended (additive K) M.exponents G (λ c e. scaled c e q) (scaled_of_sum q) p

  pub term-mul : (c : R) (e : E) (q : Poly) → mul (term c e) q ≡ scaled c e q
  unfolding mul
  term-mul c e q = F.extended-mono (additive K) M.exponents G (λ c e. scaled c e q) (scaled_of_sum q) c e

  pub add-mul : (p q r : Poly) → mul (add p q) r ≡ add (mul p r) (mul q r)
  unfolding mul
  add-mul p q r = F.extended-plus (additive K) M.exponents G (λ c e. scaled c e r) (scaled_of_sum r) p q

  pub term-mul-term : (c : R) (e : E) (d : R) (f : E) → mul (term c e) (term d f) ≡ term (K.mul c d) (M.times e f)
  term-mul-term c e d f = term-mul c e (term d f) ∙ scaled-term c e d f

  pub mul-add : (p q r : Poly) → mul p (add q r) ≡ add (mul p q) (mul p r)
  mul-add p q r =
      same_on_terms (λ p. mul p (add q r)) (λ p. add (mul p q) (mul p r)) (λ s t. add-mul s t (add q r))
      (sum_of_additive (λ p. mul p q) (λ p. mul p r) (λ s t. add-mul s t q) (λ s t. add-mul s t r))
      (λ c e. term-mul c e (add q r) ∙ scaled-add c e q r ∙ sym (ap₂ add (term-mul c e q) (term-mul c e r)))
      p

  pub mul_comm : (p q : Poly) → mul p q ≡ mul q p
  mul_comm p q =
      same_on_terms (λ p. mul p q) (λ p. mul q p) (λ s t. add-mul s t q) (λ s t. mul-add q s t)
      (λ c e. same_on_terms (λ q. mul (term c e) q) (λ q. mul q (term c e)) (mul-add (term c e)) (λ s t. add-mul s t (term c e))
      (λ d f. term-mul-term c e d f ∙ ap₂ term (K.mul_comm c d) (M.times_comm e f) ∙ sym (term-mul-term d f c e)) q)
      p

  pub mul_assoc : (p q r : Poly) → mul (mul p q) r ≡ mul p (mul q r)
  mul_assoc p q r =
      same_on_terms (λ p. mul (mul p q) r) (λ p. mul p (mul q r)) (λ s t. ap (λ x. mul x r) (add-mul s t q) ∙ add-mul (mul s q) (mul t q) r) (λ s t. add-mul s t (mul q r))
      (λ c e. same_on_terms (λ q. mul (mul (term c e) q) r) (λ q. mul (term c e) (mul q r))
      (λ s t. ap (λ x. mul x r) (mul-add (term c e) s t) ∙ add-mul (mul (term c e) s) (mul (term c e) t) r)
      (λ s t. ap (mul (term c e)) (add-mul s t r) ∙ mul-add (term c e) (mul s r) (mul t r))
      (λ d f. same_on_terms (λ r. mul (mul (term c e) (term d f)) r) (λ r. mul (term c e) (mul (term d f) r))
      (mul-add (mul (term c e) (term d f)))
      (λ s t. ap (mul (term c e)) (mul-add (term d f) s t) ∙ mul-add (term c e) (mul (term d f) s) (mul (term d f) t))
      (λ b g. ap (λ x. mul x (term b g)) (term-mul-term c e d f) ∙ term-mul-term (K.mul c d) (M.times e f) b g
      ∙ ap₂ term (K.mul_assoc c d b) (M.times_assoc e f g)
      ∙ sym (ap (mul (term c e)) (term-mul-term d f b g) ∙ term-mul-term c e (K.mul d b) (M.times f g)))
      r)
      q)
      p

  abbrev pub one : Poly
  one = term K.one M.unit

  pub mul-one : (p : Poly) → mul p one ≡ p
  mul-one =
      same_on_terms (λ p. mul p (term K.one M.unit)) (λ p. p) (λ s t. add-mul s t (term K.one M.unit)) (λ s t. refl)
      (λ c e. term-mul-term c e K.one M.unit ∙ ap₂ term (K.mul_one c) (M.times-unit e))

  abbrev pub polynomials : Ring Poly
  polynomials = record {
    is_set = G.is_set;
    zero = nothing (additive K) M.exponents;
    one = one;
    add = add;
    mul = mul;
    neg = negative (additive K) M.exponents;
    add_assoc = G.add_assoc;
    add_comm = G.add_comm;
    add_zero = G.add_zero;
    add_neg = G.add_neg;
    mul_assoc = mul_assoc;
    mul_comm = mul_comm;
    mul_one = mul-one;
    mul_add = mul-add;
  }
