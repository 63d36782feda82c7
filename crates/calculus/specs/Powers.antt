-- Exponents of variables 0, 1, 2, ..: one form for each, since the last one that is written is not zero
use Rattle.std.specs.Prelude.{◌≡◌, ℕ, zero, suc, ◌+◌, ◌-◌, ◌<◌, ◌≤◌, Bool, true, false, List, [], ◌∷◌}
use Rattle.calculus.specs.Product.{Monomials}
use mathlib.Core.Path.{refl, sym, ◌∙◌, ap, ap₂, subst}
use native.Mathlib.Nat.{add_comm, zero-add, suc-ne-zero}
use native.Mathlib.Omega.{arith}
use Prim.Native.Nat.{zero-le}
use lib.Dec.{T, eqb, eqb→eq, eqb_refl}

-- `top n` is the exponent n + 1 of the first variable, and no other; `next n e` the exponent n, and e for the others
pub data Tail : Type 0 where
  top : ℕ → Tail
  next : ℕ → Tail → Tail

pub data Powers : Type 0 where
  none : Powers
  some : Tail → Powers

abbrev pub tail_at : Tail → ℕ → ℕ
tail_at (top n) zero = suc n
tail_at (top n) (suc i) = 0
tail_at (next n t) zero = n
tail_at (next n t) (suc i) = tail_at t i

-- the exponent of variable i
abbrev pub power_of : Powers → ℕ → ℕ
power_of none i = 0
power_of (some t) i = tail_at t i

abbrev pub tail_times : Tail → Tail → Tail
tail_times (top a) (top b) = top (suc (a + b))
tail_times (top a) (next b t) = next (suc a + b) t
tail_times (next a s) (top b) = next (a + suc b) s
tail_times (next a s) (next b t) = next (a + b) (tail_times s t)

abbrev pub times : Powers → Powers → Powers
times none f = f
times (some s) none = some s
times (some s) (some t) = some (tail_times s t)

abbrev pub tail_eq : Tail → Tail → Bool
tail_eq (top a) (top b) = eqb a b
tail_eq (top a) (next b t) = false
tail_eq (next a s) (top b) = false
tail_eq (next a s) (next b t) = elim (eqb a b) [ true ↦ tail_eq s t | false ↦ false ]

abbrev pub powers_eq : Powers → Powers → Bool
powers_eq none none = true
powers_eq none (some t) = false
powers_eq (some s) none = false
powers_eq (some s) (some t) = tail_eq s t

tail_comm : (s t : Tail) → tail_times s t ≡ tail_times t s
tail_comm (top a) (top b) = ap (λ n. top (suc n)) (add_comm a b)
tail_comm (top a) (next b t) = ap (λ n. next n t) (add_comm (suc a) b)
tail_comm (next a s) (top b) = ap (λ n. next n s) (add_comm a (suc b))
tail_comm (next a s) (next b t) = ap₂ next (add_comm a b) (tail_comm s t)

tail_assoc : (s t u : Tail) → tail_times (tail_times s t) u ≡ tail_times s (tail_times t u)
tail_assoc (top a) (top b) (top c) = ap top (omega arith)
tail_assoc (top a) (top b) (next c u) = ap (λ n. next n u) (omega arith)
tail_assoc (top a) (next b t) (top c) = ap (λ n. next n t) (omega arith)
tail_assoc (top a) (next b t) (next c u) = ap (λ n. next n (tail_times t u)) (omega arith)
tail_assoc (next a s) (top b) (top c) = ap (λ n. next n s) (omega arith)
tail_assoc (next a s) (top b) (next c u) = ap (λ n. next n (tail_times s u)) (omega arith)
tail_assoc (next a s) (next b t) (top c) = ap (λ n. next n (tail_times s t)) (omega arith)
tail_assoc (next a s) (next b t) (next c u) = ap₂ next (omega arith) (tail_assoc s t u)

pub times_comm : (e f : Powers) → times e f ≡ times f e
times_comm none none = refl
times_comm none (some t) = refl
times_comm (some s) none = refl
times_comm (some s) (some t) = ap some (tail_comm s t)

pub times_assoc : (e f g : Powers) → times (times e f) g ≡ times e (times f g)
times_assoc none f g = refl
times_assoc (some s) none g = refl
times_assoc (some s) (some t) none = refl
times_assoc (some s) (some t) (some u) = ap some (tail_assoc s t u)

pub times-none : (e : Powers) → times e none ≡ e
times-none none = refl
times-none (some s) = refl

true_eqb : (m n : ℕ) → eqb m n ≡ true → m ≡ n
true_eqb m n e = eqb→eq m n (subst T (sym e) tt)

T_true : (b : Bool) → T b → b ≡ true
T_true true t = refl
T_true false t = absurd t

tail_eq_refl : (t : Tail) → tail_eq t t ≡ true
tail_eq_refl (top n) = T_true (eqb n n) (eqb_refl n)
tail_eq_refl (next n t) = ap (λ (b : Bool). elim b [ true ↦ tail_eq t t | false ↦ false ]) (T_true (eqb n n) (eqb_refl n)) ∙ tail_eq_refl t

tail_eq-same : (s t : Tail) → tail_eq s t ≡ true → s ≡ t
tail_eq-same (top a) (top b) e = ap top (true_eqb a b e)
tail_eq-same (top a) (next b t) e = cc
tail_eq-same (next a s) (top b) e = cc
tail_eq-same (next a s) (next b t) e = go (eqb a b) refl e (tail_eq-same s t)
  where
    go : (c : Bool) → eqb a b ≡ c → elim c [ true ↦ tail_eq s t | false ↦ false ] ≡ true → (tail_eq s t ≡ true → s ≡ t) → next a s ≡ next b t
    go true h k ih = ap₂ next (true_eqb a b h) (ih k)
    go false h k ih = cc

pub powers_eq_refl : (e : Powers) → powers_eq e e ≡ true
powers_eq_refl none = refl
powers_eq_refl (some t) = tail_eq_refl t

pub powers_eq-same : (e f : Powers) → powers_eq e f ≡ true → e ≡ f
powers_eq-same none none h = refl
powers_eq-same none (some t) h = cc
powers_eq-same (some s) none h = cc
powers_eq-same (some s) (some t) h = ap some (tail_eq-same s t h)

abbrev pub powers : Monomials Powers
powers = record {
  exponents = record { eq = powers_eq; eq-same = powers_eq-same; eq_refl = powers_eq_refl };
  unit = none;
  times = times;
  times_assoc = times_assoc;
  times_comm = times_comm;
  times-unit = times-none;
}

-- ---- the exponents of each variable, and that they say everything
tail_at-times : (s t : Tail) (i : ℕ) → tail_at (tail_times s t) i ≡ tail_at s i + tail_at t i
tail_at-times (top a) (top b) zero = omega arith
tail_at-times (top a) (top b) (suc i) = refl
tail_at-times (top a) (next b t) zero = omega arith
tail_at-times (top a) (next b t) (suc i) = omega arith
tail_at-times (next a s) (top b) zero = omega arith
tail_at-times (next a s) (top b) (suc i) = omega arith
tail_at-times (next a s) (next b t) zero = omega arith
tail_at-times (next a s) (next b t) (suc i) = tail_at-times s t i

pub power_of-times : (e f : Powers) (i : ℕ) → power_of (times e f) i ≡ power_of e i + power_of f i
power_of-times none f i = omega arith
power_of-times (some s) none i = omega arith
power_of-times (some s) (some t) i = tail_at-times s t i

tail_not_zero : (t : Tail) → ((i : ℕ) → tail_at t i ≡ 0) → ⊥
tail_not_zero (top n) h = suc-ne-zero n (h 0)
tail_not_zero (next n t) h = tail_not_zero t (λ i. h (suc i))

tail_from_powers : (s t : Tail) → ((i : ℕ) → tail_at s i ≡ tail_at t i) → s ≡ t
tail_from_powers (top a) (top b) h = ap top (suc_inj a b (h 0))
  where
    suc_inj : (a b : ℕ) → suc a ≡ suc b → a ≡ b
    suc_inj a b e = omega arith
tail_from_powers (top a) (next b t) h = absurd (tail_not_zero t (λ i. sym (h (suc i))))
tail_from_powers (next a s) (top b) h = absurd (tail_not_zero s (λ i. h (suc i)))
tail_from_powers (next a s) (next b t) h = ap₂ next (h 0) (tail_from_powers s t (λ i. h (suc i)))

pub same_powers : (e f : Powers) → ((i : ℕ) → power_of e i ≡ power_of f i) → e ≡ f
same_powers none none h = refl
same_powers none (some t) h = absurd (tail_not_zero t (λ i. sym (h i)))
same_powers (some s) none h = absurd (tail_not_zero s h)
same_powers (some s) (some t) h = ap some (tail_from_powers s t h)

-- 1 where the two are equal, else 0
abbrev pub delta : ℕ → ℕ → ℕ
delta zero zero = 1
delta zero (suc j) = 0
delta (suc i) zero = 0
delta (suc i) (suc j) = delta i j

abbrev pub variable_tail : ℕ → Tail
variable_tail zero = top 0
variable_tail (suc i) = next 0 (variable_tail i)

abbrev pub variable : ℕ → Powers
variable i = some (variable_tail i)

pub power_of-variable : (i j : ℕ) → power_of (variable i) j ≡ delta i j
power_of-variable zero zero = refl
power_of-variable zero (suc j) = refl
power_of-variable (suc i) zero = refl
power_of-variable (suc i) (suc j) = power_of-variable i j

abbrev pub onto : ℕ → Powers → Powers
onto zero none = none
onto (suc m) none = some (top m)
onto n (some t) = some (next n t)

abbrev pub lower_tail : ℕ → Tail → Powers
lower_tail zero (top zero) = none
lower_tail zero (top (suc n)) = some (top n)
lower_tail zero (next zero t) = some (next zero t)
lower_tail zero (next (suc n) t) = some (next n t)
lower_tail (suc i) (top n) = some (top n)
lower_tail (suc i) (next n t) = onto n (lower_tail i t)

-- one less of variable i, if there is one
abbrev pub lower : ℕ → Powers → Powers
lower i none = none
lower i (some t) = lower_tail i t

pub power_of-onto_zero : (n : ℕ) (e : Powers) → power_of (onto n e) zero ≡ n
power_of-onto_zero zero none = refl
power_of-onto_zero (suc m) none = refl
power_of-onto_zero zero (some t) = refl
power_of-onto_zero (suc m) (some t) = refl

pub power_of-onto_suc : (n : ℕ) (e : Powers) (i : ℕ) → power_of (onto n e) (suc i) ≡ power_of e i
power_of-onto_suc zero none i = refl
power_of-onto_suc (suc m) none i = refl
power_of-onto_suc zero (some t) i = refl
power_of-onto_suc (suc m) (some t) i = refl

power_of-lower_tail : (i : ℕ) (t : Tail) (j : ℕ) → power_of (lower_tail i t) j ≡ tail_at t j - delta i j
power_of-lower_tail zero (top zero) zero = omega arith
power_of-lower_tail zero (top zero) (suc j) = omega arith
power_of-lower_tail zero (top (suc n)) zero = omega arith
power_of-lower_tail zero (top (suc n)) (suc j) = omega arith
power_of-lower_tail zero (next zero t) zero = omega arith
power_of-lower_tail zero (next zero t) (suc j) = omega arith
power_of-lower_tail zero (next (suc n) t) zero = omega arith
power_of-lower_tail zero (next (suc n) t) (suc j) = omega arith
power_of-lower_tail (suc i) (top n) zero = omega arith
power_of-lower_tail (suc i) (top n) (suc j) = omega arith
power_of-lower_tail (suc i) (next n t) zero = power_of-onto_zero n (lower_tail i t) ∙ minus_zero n
  where
    minus_zero : (n : ℕ) → n ≡ n - 0
    minus_zero n = omega arith
power_of-lower_tail (suc i) (next n t) (suc j) = power_of-onto_suc n (lower_tail i t) j ∙ power_of-lower_tail i t j

pub power_of-lower : (i : ℕ) (e : Powers) (j : ℕ) → power_of (lower i e) j ≡ power_of e j - delta i j
power_of-lower i none j = omega arith
power_of-lower i (some t) j = power_of-lower_tail i t j

pub delta_below : (i j : ℕ) (f : ℕ → ℕ) → 0 < f i → delta i j ≤ f j
delta_below zero zero f h = h
delta_below zero (suc j) f h = zero-le
delta_below (suc i) zero f h = zero-le
delta_below (suc i) (suc j) f h = delta_below i j (λ k. f (suc k)) h

pub delta_self : (i : ℕ) → delta i i ≡ 1
delta_self zero = refl
delta_self (suc i) = delta_self i

pub lower-variable : (i : ℕ) (e : Powers) → lower i (times (variable i) e) ≡ e
lower-variable i e =
    same_powers (lower i (times (variable i) e)) e
    (λ j. power_of-lower i (times (variable i) e) j ∙ ap (λ n. n - delta i j) (power_of-times (variable i) e j ∙ ap (λ n. n + power_of e j) (power_of-variable i j)) ∙ back (delta i j) (power_of e j))
  where
    back : (a b : ℕ) → a + b - a ≡ b
    back a b = omega arith

pub variable-lower : (i : ℕ) (e : Powers) → 0 < power_of e i → times (variable i) (lower i e) ≡ e
variable-lower i e h =
    same_powers (times (variable i) (lower i e)) e
    (λ j. power_of-times (variable i) (lower i e) j ∙ ap₂ ◌+◌ (power_of-variable i j) (power_of-lower i e j) ∙ back (delta i j) (power_of e j) (delta_below i j (power_of e) h))
  where
    back : (a b : ℕ) → a ≤ b → a + (b - a) ≡ b
    back a b h = omega arith

pub lower-times : (i : ℕ) (e f : Powers) → 0 < power_of e i → lower i (times e f) ≡ times (lower i e) f
lower-times i e f h =
    same_powers (lower i (times e f)) (times (lower i e) f)
    (λ j. power_of-lower i (times e f) j ∙ ap (λ n. n - delta i j) (power_of-times e f j) ∙ back (delta i j) (power_of e j) (power_of f j) (delta_below i j (power_of e) h)
    ∙ ap (λ n. n + power_of f j) (sym (power_of-lower i e j)) ∙ sym (power_of-times (lower i e) f j))
  where
    back : (a b c : ℕ) → a ≤ b → b + c - a ≡ (b - a) + c
    back a b c h = omega arith

-- ---- induction: no variable, and one more
abbrev shift : Powers → Powers
shift none = none
shift (some t) = some (next 0 t)

shift-times : (i : ℕ) (e : Powers) → times (variable (suc i)) (shift e) ≡ shift (times (variable i) e)
shift-times i none = refl
shift-times i (some t) = refl

top_ind : (n : ℕ) (Q : Powers → Type 0) → Q none → ((i : ℕ) (e : Powers) → Q e → Q (times (variable i) e)) → Q (some (top n))
top_ind zero Q z s = s 0 none z
top_ind (suc n) Q z s = subst (λ m. Q (some (top (suc m)))) (zero-add n) (s 0 (some (top n)) (top_ind n Q z s))

next_ind : (n : ℕ) (t : Tail) (Q : Powers → Type 0) → Q (some (next 0 t)) → ((i : ℕ) (e : Powers) → Q e → Q (times (variable i) e)) → Q (some (next n t))
next_ind zero t Q z s = z
next_ind (suc n) t Q z s = subst (λ m. Q (some (next m t))) (one_more n) (s 0 (some (next n t)) (next_ind n t Q z s))
  where
    one_more : (n : ℕ) → 1 + n ≡ suc n
    one_more n = omega arith

tail_ind : (t : Tail) (Q : Powers → Type 0) → Q none → ((i : ℕ) (e : Powers) → Q e → Q (times (variable i) e)) → Q (some t)
tail_ind (top n) Q z s = top_ind n Q z s
tail_ind (next n t) Q z s =
    next_ind n t Q (tail_ind t (λ e. Q (shift e)) z (λ i e q. subst Q (shift-times i e) (s (suc i) (shift e) q))) s

pub powers_ind : (Q : Powers → Type 0) → Q none → ((i : ℕ) (e : Powers) → Q e → Q (times (variable i) e)) → (e : Powers) → Q e
powers_ind Q z s none = z
powers_ind Q z s (some t) = tail_ind t Q z s

pub lower_own : (i j n : ℕ) → delta j i ≡ suc n → lower i (variable j) ≡ none
lower_own zero zero n h = refl
lower_own zero (suc j) n h = cc
lower_own (suc i) zero n h = cc
lower_own (suc i) (suc j) n h = ap (onto 0) (lower_own i j n h)

pub delta_sym : (i j : ℕ) → delta i j ≡ delta j i
delta_sym zero zero = refl
delta_sym zero (suc j) = refl
delta_sym (suc i) zero = refl
delta_sym (suc i) (suc j) = delta_sym i j

-- exponents that are written out, one for each variable from 0 on
abbrev pub powers_of : List ℕ → Powers
powers_of [] = none
powers_of (n ∷ ns) = onto n (powers_of ns)
