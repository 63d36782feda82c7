-- What follows from the laws of a commutative group
use Rattle.std.proofs.Common.{◌≡◌, sym, ◌∙◌, ap, ap₂}
use Rattle.algebra.specs.Group.{Group}

module _ {A : Type 0} (G : Group A) where
  open G use {zero, add, neg}

  pub zero-add : (a : A) → add zero a ≡ a
  zero-add a = G.add_comm zero a ∙ G.add_zero a

  pub neg-add : (a : A) → add (neg a) a ≡ zero
  neg-add a = G.add_comm (neg a) a ∙ G.add_neg a

  pub add_left_comm : (a b c : A) → add a (add b c) ≡ add b (add a c)
  add_left_comm a b c = sym (G.add_assoc a b c) ∙ ap (λ x. add x c) (G.add_comm a b) ∙ G.add_assoc b a c

  pub add_medial : (a b c d : A) → add (add a b) (add c d) ≡ add (add a c) (add b d)
  add_medial a b c d = G.add_assoc a b (add c d) ∙ ap (add a) (add_left_comm b c d) ∙ sym (G.add_assoc a c (add b d))

  pub add_right_cancel : (a b c : A) → add a c ≡ add b c → a ≡ b
  add_right_cancel a b c e = sym (back a) ∙ ap (λ x. add x (neg c)) e ∙ back b
    where
      back : (x : A) → add (add x c) (neg c) ≡ x
      back x = G.add_assoc x c (neg c) ∙ ap (add x) (G.add_neg c) ∙ G.add_zero x

  -- what is its own double is zero
  pub zero_from_double : (a : A) → a ≡ add a a → a ≡ zero
  zero_from_double a e = add_right_cancel a zero a (sym e ∙ sym (zero-add a))

  pub neg-unique : (a b : A) → add b a ≡ zero → b ≡ neg a
  neg-unique a b e = add_right_cancel b (neg a) a (e ∙ sym (neg-add a))

  pub neg-zero : neg zero ≡ zero
  neg-zero = sym (neg-unique zero zero (G.add_zero zero))

  pub neg_of_sum : (a b : A) → neg (add a b) ≡ add (neg a) (neg b)
  neg_of_sum a b = sym (neg-unique (add a b) (add (neg a) (neg b)) (add_medial (neg a) (neg b) a b ∙ ap₂ add (neg-add a) (neg-add b) ∙ G.add_zero zero))
