-- The meaning of plain trees: a polynomial, at values of the free indices
use Rattle.std.specs.Prelude.{ℕ, zero, suc}
use Rattle.ratio.specs.Value.{fraction_of}
use Rattle.calculus.specs.Polynomial.{Polynomial, nil, plus, times, negative, constant, coefficient_of}
use Rattle.ufl_tree.specs.Term.{Term, num, fun, mark, neg, sum, prod, over, dx, delta, pick, raise, turn, Terms, no_terms, term}
use Rattle.ufl_tree.specs.Indices.{Names, with_name, index_value, index_values}
use Rattle.ufl_tree.specs.Places.{Table, function_place}
use Rattle.ufl_meaning.specs.Environment.{Environment, parameter_number, raised, turned}
use Rattle.calculus.specs.Integral.{sum_below}
use Rattle.ufl_meaning.specs.Operators.{along, at_place, unit_or_nil}

abbrev mutual
  pub meaning : Table → Term → Environment → Names → Polynomial
  meaning elements (num c) env v = constant (fraction_of c)
  meaning elements (fun f at) env v = at_place (function_place elements f (index_values v at)) (env.value f.role)
  meaning elements (mark l at b) env v = plus (meaning elements b env v) (env.offset l (index_values v at))
  meaning elements (neg a) env v = negative (meaning elements a env v)
  meaning elements (sum a b) env v = plus (meaning elements a env v) (meaning elements b env v)
  meaning elements (prod a b) env v = times (meaning elements a env v) (meaning elements b env v)
  meaning elements (over i n b) env v = sum_below n (λ k. meaning elements b env (with_name i k v))
  meaning elements (dx i b) env v = along (index_value v i) (meaning elements b env v)
  meaning elements (delta i j) env v = unit_or_nil (index_value v i) (index_value v j)
  meaning elements (pick i ts) env v = item_meaning elements ts env v (index_value v i)
  meaning elements (raise l at b) env v = coefficient_of (parameter_number env.used) 1 (meaning elements b (raised l (index_values v at) env) v)
  meaning elements (turn w d b) env v = coefficient_of (parameter_number env.used) 1 (meaning elements b (turned w.role d.role env) v)

  -- the item of this number, counted from 0, or 0
  pub item_meaning : Table → Terms → Environment → Names → ℕ → Polynomial
  item_meaning elements no_terms env v i = nil
  item_meaning elements (term t ts) env v zero = meaning elements t env v
  item_meaning elements (term t ts) env v (suc i) = item_meaning elements ts env v i
