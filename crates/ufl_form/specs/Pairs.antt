-- Which pairs a pattern set has; a number of two or more stands for all such numbers
use Rattle.std.specs.Prelude.{◌≡◌, ℕ, zero, suc, ◌+◌, Bool, true}
use Rattle.ufl_form.specs.declared.pattern_set.Numbers.{Numbers}
use Rattle.ufl_form.specs.declared.pattern_set.PatternSet.{PatternSet}

abbrev pub has_number : Numbers → ℕ → Bool
has_number a zero = a.zero
has_number a (suc zero) = a.one
has_number a (suc (suc n)) = a.more

-- the numbers of trial functions beside so many test functions
abbrev pub row : PatternSet → ℕ → Numbers
row a zero = a.zero
row a (suc zero) = a.one
row a (suc (suc n)) = a.more

abbrev pub has_pair : PatternSet → ℕ → ℕ → Bool
has_pair a m n = has_number (row a m) n

-- p has each sum of a pair of a and a pair of b, and is the least set that has them
pub record IsProduct (p a b : PatternSet) : Type 0 where
  pub has : (i j k l m n : ℕ) → m ≡ i + k → n ≡ j + l → has_pair a i j ≡ true → has_pair b k l ≡ true → has_pair p m n ≡ true
  pub least : (c : PatternSet) → ((i j k l m n : ℕ) → m ≡ i + k → n ≡ j + l → has_pair a i j ≡ true → has_pair b k l ≡ true → has_pair c m n ≡ true)
      → (m n : ℕ) → has_pair p m n ≡ true → has_pair c m n ≡ true
