-- The one pair of a form with an arity
use Rattle.std.proofs.Common.{◌≡◌, ◌≤◌, ℕ, zero, suc, ◌&&◌, ◌||◌, Bool, true, false, refl, sym, subst, arith}
use Rattle.ufl_tree.specs.declared.function.Role.TheVariants.{Test, Trial}
use Rattle.ufl_form.specs.declared.pattern_set.Numbers.{Numbers}
use Rattle.ufl_form.specs.declared.pattern_set.PatternSet.{PatternSet}
use Rattle.ufl_form.specs.Pairs.{has_pair}
use Rattle.ufl_form.specs.Patterns.{only_pair, of_role, product}
use Rattle.admit.specs.Admission.{same_flag, same_numbers, same_pairs, has_arity, rank_of}

both_true : (a b : Bool) → a && b ≡ true → (a ≡ true) × (b ≡ true)
both_true true b h = (refl, h)
both_true false b h = cc

flags : (a b : Bool) → same_flag a b ≡ true → a ≡ b
flags true true h = refl
flags true false h = cc
flags false true h = cc
flags false false h = refl

numbers : (a b : Numbers) → same_numbers a b ≡ true → a ≡ b
numbers a b h =
    let p = both_true (same_flag a.zero b.zero) _ h in
    let q = both_true (same_flag a.one b.one) _ p.1 in
    let x = flags a.zero b.zero p.0 in
    let y = flags a.one b.one q.0 in
    let z = flags a.more b.more q.1 in
    λ i. record { zero = x i; one = y i; more = z i }

pub pairs : (a b : PatternSet) → same_pairs a b ≡ true → a ≡ b
pairs a b h =
    let p = both_true (same_numbers a.zero b.zero) _ h in
    let q = both_true (same_numbers a.one b.one) _ p.1 in
    let x = numbers a.zero b.zero p.0 in
    let y = numbers a.one b.one q.0 in
    let z = numbers a.more b.more q.1 in
    λ i. record { zero = x i; one = y i; more = z i }

-- ---- the three sets
pub record IsPair (p : PatternSet) (i j : ℕ) : Type 0 where
  pub test : 1 ≤ rank_of p → i ≡ 1
  pub trial : 2 ≤ rank_of p → j ≡ 1

no_rank : (i j : ℕ) → IsPair only_pair i j
no_rank i j = record { test = λ h. absurd (omega (arith, h)); trial = λ h. absurd (omega (arith, h)) }

test_pair : (i j : ℕ) → has_pair (of_role Test) i j ≡ true → i ≡ 1
test_pair zero zero h = cc
test_pair zero (suc zero) h = cc
test_pair zero (suc (suc j)) h = cc
test_pair (suc zero) j h = refl
test_pair (suc (suc i)) zero h = cc
test_pair (suc (suc i)) (suc zero) h = cc
test_pair (suc (suc i)) (suc (suc j)) h = cc

one_rank : (i j : ℕ) → has_pair (of_role Test) i j ≡ true → IsPair (of_role Test) i j
one_rank i j h = record { test = λ r. test_pair i j h; trial = λ r. absurd (omega (arith, r)) }

both_pair : (i j : ℕ) → has_pair (product (of_role Test) (of_role Trial)) i j ≡ true → (i ≡ 1) × (j ≡ 1)
unfolding product
both_pair zero zero h = cc
both_pair zero (suc zero) h = cc
both_pair zero (suc (suc j)) h = cc
both_pair (suc zero) zero h = cc
both_pair (suc zero) (suc zero) h = (refl, refl)
both_pair (suc zero) (suc (suc j)) h = cc
both_pair (suc (suc i)) zero h = cc
both_pair (suc (suc i)) (suc zero) h = cc
both_pair (suc (suc i)) (suc (suc j)) h = cc

two_ranks : (i j : ℕ) → has_pair (product (of_role Test) (of_role Trial)) i j ≡ true → IsPair (product (of_role Test) (of_role Trial)) i j
two_ranks i j h = record { test = λ r. (both_pair i j h).0; trial = λ r. (both_pair i j h).1 }

moved : (p q : PatternSet) (i j : ℕ) → p ≡ q → (has_pair q i j ≡ true → IsPair q i j) → has_pair p i j ≡ true → IsPair p i j
moved p q i j e f h = subst (λ x. IsPair x i j) (sym e) (f (subst (λ x. has_pair x i j ≡ true) e h))

arity_choice : (a b c : Bool) (p : PatternSet) → same_pairs p only_pair ≡ a → same_pairs p (of_role Test) ≡ b → same_pairs p (product (of_role Test) (of_role Trial)) ≡ c
    → a || (b || c) ≡ true → (i j : ℕ) → has_pair p i j ≡ true → IsPair p i j
arity_choice true b c p x y z h i j = moved p only_pair i j (pairs p only_pair x) (λ g. no_rank i j)
arity_choice false true c p x y z h i j = moved p (of_role Test) i j (pairs p (of_role Test) y) (one_rank i j)
arity_choice false false true p x y z h i j = moved p (product (of_role Test) (of_role Trial)) i j (pairs p (product (of_role Test) (of_role Trial)) z) (two_ranks i j)
arity_choice false false false p x y z h i j = cc

pub has_its_pair : (p : PatternSet) → has_arity p ≡ true → (i j : ℕ) → has_pair p i j ≡ true → IsPair p i j
has_its_pair p h = arity_choice (same_pairs p only_pair) (same_pairs p (of_role Test)) (same_pairs p (product (of_role Test) (of_role Trial))) p refl refl refl h
