-- Sums of trees in index notation
use Rattle.std.specs.Prelude.{◌≡◌, ℕ, List, [], ◌∷◌, ◌++◌, map, length}
use Rattle.ufl_tree.specs.declared.plain.Plain.{Plain}
use Rattle.ufl_tree.specs.Reading.{term_of}
use Rattle.ufl_tree.specs.Term.{Term, sum}

-- e adds up these trees in their order, in some brackets
pub data IsSumOf : Term → List Term → Type 0 where
  alone : (e : Term) → IsSumOf e (e ∷ [])
  both : (a b : Term) (xs ys : List Term) → IsSumOf a xs → IsSumOf b ys → IsSumOf (sum a b) (xs ++ ys)

-- e adds up the last trees of a list, so many, and the others are left
pub record IsSumOfLast (old new : List Plain) (n : ℕ) (e : Plain) : Type 0 where
  pub taken : List Plain
  pub parts : old ≡ new ++ taken
  pub count : length taken ≡ n
  pub sum : IsSumOf (term_of e) (map term_of taken)
