-- What follows from the laws of a ring
use Rattle.std.proofs.Common.{◌≡◌, sym, ◌∙◌, ap, ap₂}
use Rattle.algebra.specs.Ring.{Ring}

module _ {R : Type 0} (K : Ring R) where
  open K use {zero, one, add, mul, neg}

  pub zero-add : (a : R) → add zero a ≡ a
  zero-add a = K.add_comm zero a ∙ K.add_zero a

  pub neg-add : (a : R) → add (neg a) a ≡ zero
  neg-add a = K.add_comm (neg a) a ∙ K.add_neg a

  -- the two inner terms change places
  pub add_medial : (a b c d : R) → add (add a b) (add c d) ≡ add (add a c) (add b d)
  add_medial a b c d =
      K.add_assoc a b (add c d)
      ∙ ap (add a) (sym (K.add_assoc b c d) ∙ ap (λ x. add x d) (K.add_comm b c) ∙ K.add_assoc c b d)
      ∙ sym (K.add_assoc a c (add b d))

  pub add_right_cancel : (a b c : R) → add a c ≡ add b c → a ≡ b
  add_right_cancel a b c e = sym (back a) ∙ ap (λ x. add x (neg c)) e ∙ back b
    where
      back : (x : R) → add (add x c) (neg c) ≡ x
      back x = K.add_assoc x c (neg c) ∙ ap (add x) (K.add_neg c) ∙ K.add_zero x

  pub add-mul : (a b c : R) → mul (add a b) c ≡ add (mul a c) (mul b c)
  add-mul a b c = K.mul_comm (add a b) c ∙ K.mul_add c a b ∙ ap₂ add (K.mul_comm c a) (K.mul_comm c b)

  pub mul-zero : (a : R) → mul a zero ≡ zero
  mul-zero a =
      add_right_cancel (mul a zero) zero (mul a zero)
      (sym (K.mul_add a zero zero) ∙ ap (mul a) (K.add_zero zero) ∙ sym (zero-add (mul a zero)))

  pub zero-mul : (a : R) → mul zero a ≡ zero
  zero-mul a = K.mul_comm zero a ∙ mul-zero a

  pub one-mul : (a : R) → mul one a ≡ a
  one-mul a = K.mul_comm one a ∙ K.mul_one a

  pub mul_left_comm : (a b c : R) → mul a (mul b c) ≡ mul b (mul a c)
  mul_left_comm a b c = sym (K.mul_assoc a b c) ∙ ap (λ x. mul x c) (K.mul_comm a b) ∙ K.mul_assoc b a c

  pub neg-unique : (a b : R) → add b a ≡ zero → b ≡ neg a
  neg-unique a b e = add_right_cancel b (neg a) a (e ∙ sym (neg-add a))

  pub neg-mul : (a b : R) → mul (neg a) b ≡ neg (mul a b)
  neg-mul a b = neg-unique (mul a b) (mul (neg a) b) (sym (add-mul (neg a) a b) ∙ ap (λ x. mul x b) (neg-add a) ∙ zero-mul b)

  pub mul-neg : (a b : R) → mul a (neg b) ≡ neg (mul a b)
  mul-neg a b = K.mul_comm a (neg b) ∙ neg-mul b a ∙ ap neg (K.mul_comm b a)

  pub neg-neg : (a : R) → neg (neg a) ≡ a
  neg-neg a = sym (neg-unique (neg a) a (K.add_neg a))

  pub neg-zero : neg zero ≡ zero
  neg-zero = sym (neg-unique zero zero (K.add_zero zero))

  pub neg_one-mul : (a : R) → mul (neg one) a ≡ neg a
  neg_one-mul a = neg-mul one a ∙ ap neg (one-mul a)

  -- equal where the difference is zero
  pub same_from_difference : (a b : R) → add a (neg b) ≡ zero → a ≡ b
  same_from_difference a b e = neg-unique (neg b) a e ∙ neg-neg b

  pub mul_medial : (a b c d : R) → mul (mul a b) (mul c d) ≡ mul (mul a c) (mul b d)
  mul_medial a b c d = K.mul_assoc a b (mul c d) ∙ ap (mul a) (mul_left_comm b c d) ∙ sym (K.mul_assoc a c (mul b d))

  pub mul_right_comm : (a b c : R) → mul (mul a b) c ≡ mul (mul a c) b
  mul_right_comm a b c = K.mul_assoc a b c ∙ ap (mul a) (K.mul_comm b c) ∙ sym (K.mul_assoc a c b)
