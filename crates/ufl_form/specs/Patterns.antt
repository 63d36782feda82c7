-- Pattern sets: how many test and how many trial functions the terms have as factors, each number 0, 1 or "2 or more"
use Rattle.std.specs.Prelude.{ℕ, zero, suc, Bool, true, false, if◌then◌else◌}
use Rattle.ufl_tree.specs.declared.function.Role.{Role}
use Rattle.ufl_tree.specs.declared.function.Role.TheVariants.{Test, Trial, Position, Coefficient}
use Rattle.ufl_tree.specs.declared.tree.Op2.{Op2}
use Rattle.ufl_tree.specs.declared.tree.Op2.TheVariants.{Sum, Product, Dot, Inner, Outer, Cross}
use Rattle.ufl_tree.specs.Typed.{Typed, number, identity, function, piece, one, two, power, index, partial, tensor, list, variable, diff, TypedList, no_items, item}
use Rattle.ufl_form.specs.declared.pattern_set.Numbers.{Numbers}
use Rattle.ufl_form.specs.declared.pattern_set.PatternSet.{PatternSet}

-- ---- sets of numbers
abbrev pub no_numbers : Numbers
no_numbers = record { zero = false; one = false; more = false }

abbrev pub or : Bool → Bool → Bool
or a b = if a then true else b

abbrev pub either : Numbers → Numbers → Numbers
either a b = record { zero = or a.zero b.zero; one = or a.one b.one; more = or a.more b.more }

-- each number and one more; two or more stay so
abbrev pub one_more : Numbers → Numbers
one_more a = record { zero = false; one = a.zero; more = or a.one a.more }

abbrev pub chosen : Bool → Numbers → Numbers
chosen c a = if c then a else no_numbers

-- each sum of a number of a and a number of b: b for the 0 of a, b and one more for the 1, b and two more for the 2 or more
abbrev pub sums : Numbers → Numbers → Numbers
sums a b = either (chosen a.zero b) (either (chosen a.one (one_more b)) (chosen a.more (one_more (one_more b))))

abbrev pub only_one : Numbers → Numbers
only_one a = record { zero = false; one = a.one; more = false }

abbrev pub only_zero : Numbers → Numbers
only_zero a = record { zero = a.zero; one = false; more = false }

abbrev pub is_some : Numbers → Bool
is_some a = or a.zero (or a.one a.more)

-- 0 in place of each number
abbrev pub forgotten : Numbers → Numbers
forgotten a = record { zero = is_some a; one = false; more = false }

-- ---- sets of pairs: for each number of test functions, the numbers of trial functions
abbrev pub no_pairs : PatternSet
no_pairs = record { zero = no_numbers; one = no_numbers; more = no_numbers }

-- the pair without a factor
abbrev pub only_pair : PatternSet
only_pair = record { zero = record { zero = true; one = false; more = false }; one = no_numbers; more = no_numbers }

abbrev pub united : PatternSet → PatternSet → PatternSet
united a b = record { zero = either a.zero b.zero; one = either a.one b.one; more = either a.more b.more }

-- each pair with one more test function; two or more stay so
abbrev pub test_added : PatternSet → PatternSet
test_added a = record { zero = no_numbers; one = a.zero; more = either a.one a.more }

-- each pair with as many more trial functions as a number of n says
abbrev pub trials_added : Numbers → PatternSet → PatternSet
trials_added n a = record { zero = sums n a.zero; one = sums n a.one; more = sums n a.more }

-- each sum of a pair of a and a pair of b
unfoldable pub product : PatternSet → PatternSet → PatternSet
product a b = united (trials_added a.zero b) (united (test_added (trials_added a.one b)) (test_added (test_added (trials_added a.more b))))

-- each sum of n pairs of a
abbrev pub raised : PatternSet → ℕ → PatternSet
raised a zero = only_pair
raised a (suc n) = product (raised a n) a

abbrev pub of_role : Role → PatternSet
of_role Test = record { zero = no_numbers; one = record { zero = true; one = false; more = false }; more = no_numbers }
of_role Trial = record { zero = record { zero = false; one = true; more = false }; one = no_numbers; more = no_numbers }
of_role Position = only_pair
of_role (Coefficient n) = only_pair

-- those with trial number 1; those with 0
abbrev pub linear_pairs : PatternSet → PatternSet
linear_pairs a = record { zero = only_one a.zero; one = only_one a.one; more = only_one a.more }

abbrev pub constant_pairs : PatternSet → PatternSet
constant_pairs a = record { zero = only_zero a.zero; one = only_zero a.one; more = only_zero a.more }

-- 0 in place of the number of test functions; of trial functions
abbrev pub without_test : PatternSet → PatternSet
without_test a = record { zero = either a.zero (either a.one a.more); one = no_numbers; more = no_numbers }

abbrev pub without_trial : PatternSet → PatternSet
without_trial a = record { zero = forgotten a.zero; one = forgotten a.one; more = forgotten a.more }

abbrev pub without : Role → PatternSet → PatternSet
without Test a = without_test a
without Trial a = without_trial a
without Position a = a
without (Coefficient n) a = a

-- both numbers exchanged
abbrev pub turned : PatternSet → PatternSet
turned a = record {
  zero = record { zero = a.zero.zero; one = a.one.zero; more = a.more.zero };
  one = record { zero = a.zero.one; one = a.one.one; more = a.more.one };
  more = record { zero = a.zero.more; one = a.one.more; more = a.more.more };
}

-- some pair has a number above 0 there
abbrev pub has_test : PatternSet → Bool
has_test a = or (is_some a.one) (is_some a.more)

abbrev pub has_trial : PatternSet → Bool
has_trial a = has_test (turned a)

-- ---- of trees
abbrev pub both : Op2 → PatternSet → PatternSet → PatternSet
both Sum a b = united a b
both Product a b = product a b
both Dot a b = product a b
both Inner a b = product a b
both Outer a b = product a b
both Cross a b = product a b

abbrev mutual
  pub tree_patterns : Typed → PatternSet
  tree_patterns (number k c) = only_pair
  tree_patterns (identity k n) = only_pair
  tree_patterns (function k f) = of_role f.role
  tree_patterns (piece k f n) = of_role f.role
  tree_patterns (one k op a) = tree_patterns a
  tree_patterns (two k op a b) = both op (tree_patterns a) (tree_patterns b)
  tree_patterns (power k a n) = raised (tree_patterns a) n
  tree_patterns (index k a at) = tree_patterns a
  tree_patterns (partial k a i) = tree_patterns a
  tree_patterns (tensor k a by) = tree_patterns a
  tree_patterns (list k ts) = patterns_behind no_pairs ts
  tree_patterns (variable k l a) = tree_patterns a
  tree_patterns (diff k l by a) = tree_patterns a

  -- these pairs and those of the items
  pub patterns_behind : PatternSet → TypedList → PatternSet
  patterns_behind all no_items = all
  patterns_behind all (item t ts) = patterns_behind (united all (tree_patterns t)) ts
