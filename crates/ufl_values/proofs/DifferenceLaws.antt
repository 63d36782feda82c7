-- A difference is the sum with the negative, whatever is asked first
use Rattle.std.proofs.Common.{◌≡◌, ℕ, ◌+◌, ◌<◌, ◌≤◌, ◌⊎◌, max, Bool, true, false, ◌&&◌, nat_le, Ok, Err, refl, sym, ap, ◌∙◌, inl, inr, arith, subst}
use Rattle.ufl_tree.specs.declared.tree.Tree.{Tree}
use Rattle.ufl_tree.specs.declared.tree.Node.{Node}
use Rattle.ufl_tree.specs.declared.tree.Op1.TheVariants.{Neg}
use Rattle.ufl_tree.specs.declared.tree.Op2.TheVariants.{Sum}
use Rattle.ufl_tree.specs.declared.tree.Node.TheVariants as n
use Rattle.ufl_tree.specs.Typed.{Kind}
use Rattle.ufl_tree.specs.Reading.{typed_of, kind_of, tree_with}
use Rattle.ufl_tree.proofs.ReadingLaws.{typed_of-One, typed_of-Two}
use Rattle.ufl_expr.specs.declared.refusal.TypeRefusal.TheVariants.{Nodes}
use Rattle.ufl_expr.specs.Sizes.{nodes_of, height_of}
use Rattle.ufl_expr.specs.Table.{Verdict, two_kind}
use Rattle.ufl_expr.specs.Building.{built, fits}
use Rattle.ufl_values.specs.Operators.{verified, built_then, negative_tree, sum_tree, difference_tree}

le_false : (a b : ℕ) → b < a → nat_le a b ≡ false
le_false a b h = grind arith

le_true : (a b : ℕ) → a ≤ b → nat_le a b ≡ true
le_true a b h = grind arith

and_false : (a : Bool) → (a && false) ≡ false
and_false true = refl
and_false false = refl

-- a tree is too large
abbrev IsLarge : Tree → Type 0
IsLarge b = (10000 ≤ nodes_of (typed_of b)) ⊎ (128 ≤ height_of (typed_of b))

pub large : (n h : ℕ) → (10000 < n) ⊎ (128 < h) → (nat_le n 10000 && nat_le h 128) ≡ false
large n h (inl m) = ap (λ x. x && nat_le h 128) (le_false n 10000 m)
large n h (inr m) = ap (λ x. nat_le n 10000 && x) (le_false h 128 m) ∙ and_false (nat_le n 10000)

pub small : (n h : ℕ) → n ≤ 10000 → h ≤ 128 → (nat_le n 10000 && nat_le h 128) ≡ true
small n h p q = ap (λ x. x && nat_le h 128) (le_true n 10000 p) ∙ le_true h 128 q

refused : (node : Node) (k : Kind) → fits (typed_of (tree_with node k)) ≡ false → built (Ok k) node ≡ Err Nodes
unfolding built
refused node k e = rw e refl

accepted : (node : Node) (k : Kind) → fits (typed_of (tree_with node k)) ≡ true → built (Ok k) node ≡ Ok (tree_with node k)
unfolding built
accepted node k e = rw e refl

pub above_one : (n h : ℕ) → (10000 ≤ n) ⊎ (128 ≤ h) → (10000 < n + 1) ⊎ (128 < h + 1)
above_one n h (inl m) = inl (omega arith)
above_one n h (inr m) = inr (omega arith)

pub above_two : (m n g h : ℕ) → (10000 ≤ n) ⊎ (128 ≤ h) → (10000 < m + n + 1) ⊎ (128 < max g h + 1)
above_two m n g h (inl p) = inl (omega arith)
above_two m n g h (inr p) = inr (omega arith)

large_negative : (b : Tree) → IsLarge b → negative_tree b ≡ Err Nodes
unfolding fits nodes_of height_of
large_negative b h =
    refused (n.One Neg b) (kind_of b)
    (ap fits (typed_of-One Neg b (kind_of b)) ∙ large _ _ (above_one (nodes_of (typed_of b)) (height_of (typed_of b)) h))

large_two : (a b : Tree) (k : Kind) → IsLarge b → built (Ok k) (n.Two Sum a b) ≡ Err Nodes
unfolding fits nodes_of height_of
large_two a b k h =
    refused (n.Two Sum a b) k
    (ap fits (typed_of-Two Sum a b k) ∙ large _ _ (above_two (nodes_of (typed_of a)) (nodes_of (typed_of b)) (height_of (typed_of a)) (height_of (typed_of b)) h))

large_by : (v : Verdict) (a b : Tree) → IsLarge b → built v (n.Two Sum a b) ≡ verified v (built_then (negative_tree b) (λ m. sum_tree a m))
unfolding built
large_by (Err e) a b h = refl
large_by (Ok k) a b h = large_two a b k h ∙ sym (ap (λ x. built_then x (λ m. sum_tree a m)) (large_negative b h))

-- where b is too large, the sum refuses as the difference does
pub large_difference : (a b : Tree) → IsLarge b → sum_tree a b ≡ difference_tree a b
unfolding difference_tree
large_difference a b h = large_by (two_kind Sum (kind_of a) (kind_of b)) a b h

pub small_negative : (b : Tree) → nodes_of (typed_of b) < 10000 → height_of (typed_of b) < 128 → negative_tree b ≡ Ok (tree_with (n.One Neg b) (kind_of b))
unfolding fits nodes_of height_of
small_negative b p q =
    accepted (n.One Neg b) (kind_of b)
    (ap fits (typed_of-One Neg b (kind_of b)) ∙ small (nodes_of (typed_of b) + 1) (height_of (typed_of b) + 1) (omega arith) (omega arith))

small_by : (v : Verdict) (a m : Tree) → built v (n.Two Sum a m) ≡ verified v (built v (n.Two Sum a m))
unfolding built
small_by (Err e) a m = refl
small_by (Ok k) a m = refl

-- a small tree's difference is the sum with its negative
pub small_difference : (a b : Tree) → nodes_of (typed_of b) < 10000 → height_of (typed_of b) < 128
    → built_then (negative_tree b) (λ m. sum_tree a m) ≡ difference_tree a b
unfolding difference_tree
small_difference a b p q =
    let e = small_negative b p q in
    ap (λ x. built_then x (λ m. sum_tree a m)) e
    ∙ small_by (two_kind Sum (kind_of a) (kind_of b)) a (tree_with (n.One Neg b) (kind_of b))
    ∙ ap (λ x. verified (two_kind Sum (kind_of a) (kind_of b)) (built_then x (λ m. sum_tree a m))) (sym e)

-- what `is_full` says of these numbers, of the tree that has them
pub is_large : (b : Tree) (n h : ℕ) → n ≡ nodes_of (typed_of b) → h ≡ height_of (typed_of b) → (10000 ≤ n) ⊎ (128 ≤ h) → IsLarge b
is_large b n h e g (inl p) = inl (subst (λ x. 10000 ≤ x) e p)
is_large b n h e g (inr p) = inr (subst (λ x. 128 ≤ x) g p)
