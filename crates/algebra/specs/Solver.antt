-- Expressions over a ring, and their normal form: Horner trees with integer leaves
use Rattle.std.specs.Prelude.{ℕ, zero, suc, ℤ, pos, negsuc, ◌+ℤ◌, ◌*ℤ◌, Bool, true, false, List, [], ◌∷◌}
use Rattle.algebra.specs.Ring.{Ring, integer}

infixl 6 ◌⊕◌ ◌⊖◌
infixl 7 ◌⊗◌
pub data Expr : Type 0 where
  at : ℕ → Expr
  num : ℤ → Expr
  ◌⊕◌ : Expr → Expr → Expr
  ◌⊗◌ : Expr → Expr → Expr
  ◌⊖◌ : Expr → Expr → Expr
  minus : Expr → Expr
  unity : Expr

-- `leaf c` is c, and `node p q` is p + x * q: x is the first variable, and p has the others alone
pub data Tree : Type 0 where
  leaf : ℤ → Tree
  node : Tree → Tree → Tree

abbrev pub is_nil : Tree → Bool
is_nil (leaf (pos zero)) = true
is_nil (leaf (pos (suc n))) = false
is_nil (leaf (negsuc n)) = false
is_nil (node p q) = false

-- node, but a constant stays a constant
abbrev pub join : Tree → Tree → Tree
join (leaf c) q = elim (is_nil q) [ true ↦ leaf c | false ↦ node (leaf c) q ]
join (node r s) q = node (node r s) q

abbrev pub add_leaf : ℤ → Tree → Tree
add_leaf a (leaf b) = leaf (a +ℤ b)
add_leaf a (node p q) = node (add_leaf a p) q

abbrev pub plus : Tree → Tree → Tree
plus (leaf a) t = add_leaf a t
plus (node p q) (leaf b) = node (add_leaf b p) q
plus (node p q) (node r s) = join (plus p r) (plus q s)

abbrev pub scaled_all : ℤ → Tree → Tree
scaled_all a (leaf b) = leaf (a *ℤ b)
scaled_all a (node p q) = node (scaled_all a p) (scaled_all a q)

abbrev pub scaled : ℤ → Tree → Tree
scaled (pos zero) t = leaf (pos 0)
scaled (pos (suc n)) t = scaled_all (pos (suc n)) t
scaled (negsuc n) t = scaled_all (negsuc n) t

abbrev pub each : (Tree → Tree) → Tree → Tree
each f (leaf c) = join (f (leaf c)) (leaf (pos 0))
each f (node p q) = join (f p) (each f q)

abbrev pub shifted : Tree → Tree
shifted t = join (leaf (pos 0)) t

abbrev pub times : Tree → Tree → Tree
times (leaf a) t = scaled a t
times (node p q) t = elim (is_nil t) [ true ↦ leaf (pos 0) | false ↦ plus (each (times p) t) (shifted (times q t)) ]

abbrev pub variable : ℕ → Tree
variable zero = node (leaf (pos 0)) (leaf (pos 1))
variable (suc n) = node (variable n) (leaf (pos 0))

abbrev pub norm : Expr → Tree
norm (at n) = variable n
norm (num c) = leaf c
norm (a ⊕ b) = plus (norm a) (norm b)
norm (a ⊗ b) = times (norm a) (norm b)
norm (a ⊖ b) = plus (norm a) (scaled (negsuc 0) (norm b))
norm (minus a) = scaled (negsuc 0) (norm a)
norm unity = leaf (pos 1)

abbrev pub is_leaf_zero : ℤ → Bool
is_leaf_zero (pos zero) = true
is_leaf_zero (pos (suc n)) = false
is_leaf_zero (negsuc n) = false

abbrev pub both : Bool → Bool → Bool
both true b = b
both false b = false

abbrev pub is_zero : Tree → Bool
is_zero (leaf c) = is_leaf_zero c
is_zero (node p q) = both (is_zero p) (is_zero q)

-- what an expression and a tree mean in a ring, at the values of the variables; a variable without a value is zero
abbrev pub first : {R : Type 0} → Ring R → List R → R
first K [] = K.zero
first K (x ∷ xs) = x

abbrev pub rest : {R : Type 0} → List R → List R
rest [] = []
rest (x ∷ xs) = xs

abbrev pub value_at : {R : Type 0} → Ring R → List R → ℕ → R
value_at K [] n = K.zero
value_at K (x ∷ xs) zero = x
value_at K (x ∷ xs) (suc n) = value_at K xs n

abbrev pub meaning : {R : Type 0} → Ring R → List R → Expr → R
meaning K xs (at n) = value_at K xs n
meaning K xs (num c) = integer K c
meaning K xs (a ⊕ b) = K.add (meaning K xs a) (meaning K xs b)
meaning K xs (a ⊗ b) = K.mul (meaning K xs a) (meaning K xs b)
meaning K xs (a ⊖ b) = K.add (meaning K xs a) (K.neg (meaning K xs b))
meaning K xs (minus a) = K.neg (meaning K xs a)
meaning K xs unity = K.one

abbrev pub value : {R : Type 0} → Ring R → Tree → List R → R
value K (leaf c) xs = integer K c
value K (node p q) xs = K.add (value K p (rest xs)) (K.mul (first K xs) (value K q xs))
