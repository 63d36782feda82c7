-- The monomials of an expanded tree add up to its meaning
use Rattle.std.proofs.Common.{◌≡◌, ℕ, zero, suc, ◌==◌, Bool, true, false, [], if◌then◌else◌, refl, sym, ◌∙◌, ap, ap₂}
use mathlib.Core.Path.{fun_ext}
use Rattle.algebra.specs.Fraction.{one_fraction}
use Rattle.ratio.specs.Value.{fraction_of}
use Rattle.calculus.specs.Polynomial.{nil, one, plus, times, negative, plus-nil}
use Rattle.calculus.proofs.PolynomialLaws.{constant-one}
use Rattle.ufl_tree.specs.Term.{Term, num, fun, mark, neg, sum, prod, over, dx, delta, pick, raise, turn, Terms, no_terms, term}
use Rattle.ufl_tree.specs.Indices.{Names, with_name, index_value, index_values}
use Rattle.ufl_tree.specs.Places.{Table, function_place}
use Rattle.ufl_meaning.specs.Environment.{Environment}
use Rattle.ufl_meaning.specs.Operators.{along}
use Rattle.calculus.specs.Integral.{sum_below}
use Rattle.ufl_meaning.specs.Meaning.{meaning, item_meaning}
use Rattle.ufl_meaning.specs.Monomial.{HasNoOffset, monos_value}
use Rattle.normal.specs.Monomials.{IsExpanded, AreExpanded, number_mono, monomials, item_monomials}
use Rattle.normal.proofs.MonomialLaws.{append_value, below_value, number_value, function_value, all_negative_value, products_value, along_value}

module _ (elements : Table) (env : Environment) (still : HasNoOffset env) where
  pub unit_value : (b : Bool) → monos_value env (if b then number_mono one_fraction else []) ≡ (if b then one else nil)
  unit_value true = number_value env one_fraction ∙ constant-one
  unit_value false = refl

  mutual
    pub means : (e : Term) (v : Names) → IsExpanded e → monos_value env (monomials elements e v) ≡ meaning elements e env v
    means (num c) v h = number_value env (fraction_of c)
    means (fun f at) v h = function_value env f (function_place elements f (index_values v at))
    means (mark l at b) v h = means b v h ∙ sym (plus-nil _) ∙ ap (plus _) (sym (still l (index_values v at)))
    means (neg a) v h = all_negative_value env (monomials elements a v) ∙ ap negative (means a v h)
    means (sum a b) v h = append_value env (monomials elements a v) (monomials elements b v) ∙ ap₂ plus (means a v h.0) (means b v h.1)
    means (prod a b) v h = products_value env (monomials elements a v) (monomials elements b v) ∙ ap₂ times (means a v h.0) (means b v h.1)
    means (over i n b) v h = below_value env n (λ k. monomials elements b (with_name i k v)) ∙ ap (sum_below n) (fun_ext (λ k. means b (with_name i k v) h))
    means (dx i b) v h = along_value env (index_value v i) (monomials elements b v) ∙ ap (along (index_value v i)) (means b v h)
    means (delta i j) v h = unit_value (index_value v i == index_value v j)
    means (pick i ts) v h = items_mean ts v h (index_value v i)
    means (raise l at b) v h = absurd h
    means (turn w d b) v h = absurd h

    items_mean : (ts : Terms) (v : Names) → AreExpanded ts → (i : ℕ) → monos_value env (item_monomials elements ts v i) ≡ item_meaning elements ts env v i
    items_mean no_terms v h i = refl
    items_mean (term t ts) v h zero = means t v h.0
    items_mean (term t ts) v h (suc i) = items_mean ts v h.1 i
