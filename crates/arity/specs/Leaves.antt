-- Trees in index notation whose functions all have a property
use Rattle.ufl_tree.specs.declared.function.Function.{Function}
use Rattle.ufl_tree.specs.Term.{Term, num, fun, mark, neg, sum, prod, over, dx, delta, pick, raise, turn, Terms, no_terms, term}

-- P holds at the function of each leaf, and there is no derivative by a function
abbrev mutual
  pub EachLeaf : (Function → Type 0) → Term → Type 0
  EachLeaf P (num c) = Unit {0}
  EachLeaf P (fun f at) = P f
  EachLeaf P (mark l at b) = EachLeaf P b
  EachLeaf P (neg a) = EachLeaf P a
  EachLeaf P (sum a b) = EachLeaf P a × EachLeaf P b
  EachLeaf P (prod a b) = EachLeaf P a × EachLeaf P b
  EachLeaf P (over i n b) = EachLeaf P b
  EachLeaf P (dx i b) = EachLeaf P b
  EachLeaf P (delta i j) = Unit {0}
  EachLeaf P (pick i ts) = EachLeafOfAll P ts
  EachLeaf P (raise l at b) = EachLeaf P b
  EachLeaf P (turn w d b) = ⊥

  pub EachLeafOfAll : (Function → Type 0) → Terms → Type 0
  EachLeafOfAll P no_terms = Unit {0}
  EachLeafOfAll P (term t ts) = EachLeaf P t × EachLeafOfAll P ts
