-- The names of a tree in index notation: those in index places and those that its sums bind
use Rattle.std.specs.Prelude.{ℕ, suc, max}
use Rattle.lower.specs.Keeping.{above, all_above}
use Rattle.ufl_tree.specs.Term.{Term, num, fun, mark, neg, sum, prod, over, dx, delta, pick, raise, turn, Terms, no_terms, term}

-- the least number that is above all of them
abbrev mutual
  pub term_above : Term → ℕ
  term_above (num c) = 0
  term_above (fun f at) = all_above at
  term_above (mark l at b) = max (all_above at) (term_above b)
  term_above (neg a) = term_above a
  term_above (sum a b) = max (term_above a) (term_above b)
  term_above (prod a b) = max (term_above a) (term_above b)
  term_above (over i n b) = max (suc i) (term_above b)
  term_above (dx i b) = max (above i) (term_above b)
  term_above (delta i j) = max (above i) (above j)
  term_above (pick i ts) = max (above i) (terms_above ts)
  term_above (raise l at b) = max (all_above at) (term_above b)
  term_above (turn f g b) = term_above b

  pub terms_above : Terms → ℕ
  terms_above no_terms = 0
  terms_above (term t ts) = max (term_above t) (terms_above ts)
