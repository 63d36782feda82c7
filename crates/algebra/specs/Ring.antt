-- A commutative ring that is a set: its operations, and their laws as equations
use Rattle.std.specs.Prelude.{◌≡◌, ℕ, zero, suc, ℤ, pos, negsuc}
use Rattle.algebra.specs.Group.{Group}

pub record Ring (R : Type 0) : Type 0 where
  pub is_set : IsSet R
  pub zero : R
  pub one : R
  pub add : R → R → R
  pub mul : R → R → R
  pub neg : R → R
  pub add_assoc : (a b c : R) → add (add a b) c ≡ add a (add b c)
  pub add_comm : (a b : R) → add a b ≡ add b a
  pub add_zero : (a : R) → add a zero ≡ a
  pub add_neg : (a : R) → add a (neg a) ≡ zero
  pub mul_assoc : (a b c : R) → mul (mul a b) c ≡ mul a (mul b c)
  pub mul_comm : (a b : R) → mul a b ≡ mul b a
  pub mul_one : (a : R) → mul a one ≡ a
  pub mul_add : (a b c : R) → mul a (add b c) ≡ add (mul a b) (mul a c)

-- the ring without its product
abbrev pub additive : {R : Type 0} → Ring R → Group R
additive K = record {
  is_set = K.is_set;
  zero = K.zero;
  add = K.add;
  neg = K.neg;
  add_assoc = K.add_assoc;
  add_comm = K.add_comm;
  add_zero = K.add_zero;
  add_neg = K.add_neg;
}

-- n * 1, and its extension to the integers
abbrev pub natural : {R : Type 0} → Ring R → ℕ → R
natural K zero = K.zero
natural K (suc n) = K.add K.one (natural K n)

abbrev pub integer : {R : Type 0} → Ring R → ℤ → R
integer K (pos n) = natural K n
integer K (negsuc n) = K.neg (natural K (suc n))
