-- The ring of whole numbers
use Rattle.std.specs.Prelude.{◌≡◌, zero, suc, ℤ, pos, negsuc, ◌+ℤ◌, ◌*ℤ◌, neg_ℤ}
use Rattle.algebra.specs.Ring.{Ring}
use mathlib.Core.Path.{sym, ◌∙◌, ap}
use lib.IntN.{ℤ_set, suc_ℤ-*ℤ, pred_ℤ-*ℤ, +ℤ_idl, +ℤ_idr, +ℤ_assoc, +ℤ_comm, +ℤ_invr, +ℤ_invl, +ℤ-neg_ℤ_cancel, *ℤ_comm, zero-*ℤ, neg_ℤ-+ℤ}

pub medial : (a b c d : ℤ) → (a +ℤ b) +ℤ (c +ℤ d) ≡ (a +ℤ c) +ℤ (b +ℤ d)
medial a b c d =
    +ℤ_assoc a b (c +ℤ d)
    ∙ ap (λ x. a +ℤ x) (sym (+ℤ_assoc b c d) ∙ ap (λ x. x +ℤ d) (+ℤ_comm b c) ∙ +ℤ_assoc c b d)
    ∙ sym (+ℤ_assoc a c (b +ℤ d))

minus_one : (k : ℤ) → negsuc zero *ℤ k ≡ neg_ℤ k
minus_one k = pred_ℤ-*ℤ (pos zero) k ∙ ap (λ x. x +ℤ neg_ℤ k) (zero-*ℤ k) ∙ +ℤ_idl (neg_ℤ k)

pub mul-add : (m a b : ℤ) → m *ℤ (a +ℤ b) ≡ (m *ℤ a) +ℤ (m *ℤ b)
mul-add (pos zero) a b = zero-*ℤ (a +ℤ b) ∙ sym (ap (λ x. x +ℤ (pos 0 *ℤ b)) (zero-*ℤ a) ∙ ap (λ x. pos 0 +ℤ x) (zero-*ℤ b))
mul-add (pos (suc n)) a b =
    suc_ℤ-*ℤ (pos n) (a +ℤ b) ∙ ap (λ x. x +ℤ (a +ℤ b)) (mul-add (pos n) a b) ∙ medial (pos n *ℤ a) (pos n *ℤ b) a b
    ∙ ap (λ x. x +ℤ (pos n *ℤ b +ℤ b)) (sym (suc_ℤ-*ℤ (pos n) a)) ∙ ap (λ x. (pos (suc n) *ℤ a) +ℤ x) (sym (suc_ℤ-*ℤ (pos n) b))
mul-add (negsuc zero) a b = minus_one (a +ℤ b) ∙ neg_ℤ-+ℤ a b ∙ ap (λ x. x +ℤ neg_ℤ b) (sym (minus_one a)) ∙ ap (λ x. (negsuc 0 *ℤ a) +ℤ x) (sym (minus_one b))
mul-add (negsuc (suc n)) a b =
    pred_ℤ-*ℤ (negsuc n) (a +ℤ b) ∙ ap (λ x. x +ℤ neg_ℤ (a +ℤ b)) (mul-add (negsuc n) a b)
    ∙ ap (λ x. (negsuc n *ℤ a) +ℤ (negsuc n *ℤ b) +ℤ x) (neg_ℤ-+ℤ a b)
    ∙ medial (negsuc n *ℤ a) (negsuc n *ℤ b) (neg_ℤ a) (neg_ℤ b)
    ∙ ap (λ x. x +ℤ (negsuc n *ℤ b +ℤ neg_ℤ b)) (sym (pred_ℤ-*ℤ (negsuc n) a)) ∙ ap (λ x. (negsuc (suc n) *ℤ a) +ℤ x) (sym (pred_ℤ-*ℤ (negsuc n) b))

pub add-mul : (a b m : ℤ) → (a +ℤ b) *ℤ m ≡ (a *ℤ m) +ℤ (b *ℤ m)
add-mul a b m = *ℤ_comm (a +ℤ b) m ∙ mul-add m a b ∙ ap (λ x. x +ℤ (m *ℤ b)) (*ℤ_comm m a) ∙ ap (λ x. (a *ℤ m) +ℤ x) (*ℤ_comm m b)

pub neg-mul : (a m : ℤ) → neg_ℤ a *ℤ m ≡ neg_ℤ (a *ℤ m)
neg-mul a m =
    sym (+ℤ-neg_ℤ_cancel (neg_ℤ a *ℤ m) (a *ℤ m))
    ∙ ap (λ x. x +ℤ neg_ℤ (a *ℤ m)) (sym (add-mul (neg_ℤ a) a m) ∙ ap (λ x. x *ℤ m) (+ℤ_invl a) ∙ zero-*ℤ m)
    ∙ +ℤ_idl (neg_ℤ (a *ℤ m))

pub mul_assoc : (a b c : ℤ) → (a *ℤ b) *ℤ c ≡ a *ℤ (b *ℤ c)
mul_assoc (pos zero) b c = ap (λ x. x *ℤ c) (zero-*ℤ b) ∙ zero-*ℤ c ∙ sym (zero-*ℤ (b *ℤ c))
mul_assoc (pos (suc n)) b c =
    ap (λ x. x *ℤ c) (suc_ℤ-*ℤ (pos n) b) ∙ add-mul (pos n *ℤ b) b c ∙ ap (λ x. x +ℤ (b *ℤ c)) (mul_assoc (pos n) b c) ∙ sym (suc_ℤ-*ℤ (pos n) (b *ℤ c))
mul_assoc (negsuc zero) b c = ap (λ x. x *ℤ c) (minus_one b) ∙ neg-mul b c ∙ sym (minus_one (b *ℤ c))
mul_assoc (negsuc (suc n)) b c =
    ap (λ x. x *ℤ c) (pred_ℤ-*ℤ (negsuc n) b) ∙ add-mul (negsuc n *ℤ b) (neg_ℤ b) c
    ∙ ap (λ x. x +ℤ (neg_ℤ b *ℤ c)) (mul_assoc (negsuc n) b c) ∙ ap (λ x. (negsuc n *ℤ (b *ℤ c)) +ℤ x) (neg-mul b c)
    ∙ sym (pred_ℤ-*ℤ (negsuc n) (b *ℤ c))

pub mul_one : (a : ℤ) → a *ℤ pos 1 ≡ a
mul_one a = *ℤ_comm a (pos 1) ∙ suc_ℤ-*ℤ (pos 0) a ∙ ap (λ x. x +ℤ a) (zero-*ℤ a) ∙ +ℤ_idl a

abbrev pub integers : Ring ℤ
integers = record {
  is_set = ℤ_set;
  zero = pos 0;
  one = pos 1;
  add = ◌+ℤ◌;
  mul = ◌*ℤ◌;
  neg = neg_ℤ;
  add_assoc = +ℤ_assoc;
  add_comm = +ℤ_comm;
  add_zero = +ℤ_idr;
  add_neg = +ℤ_invr;
  mul_assoc = mul_assoc;
  mul_comm = *ℤ_comm;
  mul_one = mul_one;
  mul_add = mul-add;
}
