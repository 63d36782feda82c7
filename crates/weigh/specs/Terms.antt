-- The weights of plain trees, exact
use Rattle.std.specs.Prelude.{ℕ, max, length, Option, None, Some, slice_get}
use Rattle.spaces.specs.Cell.{dimension}
use Rattle.spaces.specs.Space.{Space, cell_of}
use Rattle.ufl_tree.specs.declared.function.Function.{Function}
use Rattle.ufl_tree.specs.Places.{Table}
use Rattle.ufl_tree.specs.Term.{Term, num, fun, mark, neg, sum, prod, over, dx, delta, pick, raise, turn, Terms, no_terms, term}
use Rattle.monos.specs.declared.weight.Weight.{Weight}
use Rattle.weigh.specs.Weighing.{exact, function_weight, number_weight, one_weight, times_weight, join_weight, plus_weight, index_weight, space_weight, linear_weight, label_weight}

-- how many directions the cell of a function has
abbrev pub space_directions : Option Space → ℕ
space_directions None = 1
space_directions (Some s) = dimension (cell_of s)

abbrev pub function_directions : Table → Function → ℕ
function_directions elements f = space_directions (slice_get elements f.element)

-- the largest number of the functions in a tree, at least 1; all functions of a form have one cell
abbrev mutual
  pub term_directions : Table → Term → ℕ
  term_directions elements (num c) = 1
  term_directions elements (fun f at) = function_directions elements f
  term_directions elements (mark l at b) = term_directions elements b
  term_directions elements (neg a) = term_directions elements a
  term_directions elements (sum a b) = max (term_directions elements a) (term_directions elements b)
  term_directions elements (prod a b) = max (term_directions elements a) (term_directions elements b)
  term_directions elements (over i n b) = term_directions elements b
  term_directions elements (dx i b) = term_directions elements b
  term_directions elements (delta i j) = 1
  term_directions elements (pick i ts) = items_directions elements ts
  term_directions elements (raise l at b) = term_directions elements b
  term_directions elements (turn w d b) = term_directions elements b

  pub items_directions : Table → Terms → ℕ
  items_directions elements no_terms = 1
  items_directions elements (term t ts) = max (term_directions elements t) (items_directions elements ts)

abbrev mutual
  pub term_weight : Table → Term → Weight
  term_weight elements (num c) = number_weight exact c
  term_weight elements (fun f at) = function_weight elements f
  term_weight elements (mark l at b) = label_weight exact (length at) (term_weight elements b)
  term_weight elements (neg a) = term_weight elements a
  term_weight elements (sum a b) = plus_weight exact (term_weight elements a) (term_weight elements b)
  term_weight elements (prod a b) = times_weight exact (term_weight elements a) (term_weight elements b)
  term_weight elements (over i n b) = index_weight exact n (term_weight elements b)
  term_weight elements (dx i b) = space_weight exact (term_directions elements b) (term_weight elements b)
  term_weight elements (delta i j) = one_weight exact
  term_weight elements (pick i ts) = items_weight elements ts
  term_weight elements (raise l at b) = linear_weight exact (term_weight elements b)
  term_weight elements (turn w d b) = linear_weight exact (term_weight elements b)

  -- without items that of the number 0
  pub items_weight : Table → Terms → Weight
  items_weight elements no_terms = one_weight exact
  items_weight elements (term t no_terms) = term_weight elements t
  items_weight elements (term t (term u ts)) = join_weight exact (term_weight elements t) (items_weight elements (term u ts))
