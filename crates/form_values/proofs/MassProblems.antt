-- The form c*u*v*dx of linear functions on intervals has the same values in each problem in which it stands
use Rattle.std.proofs.Common.{◌≡◌, ℕ, suc, List, [], ◌∷◌, length, Bool, Option, None, Some, slice_get, if◌then◌else◌, refl, sym, ap, ap₂, ◌∙◌, subst}
use Rattle.std.specs.Prelude.{◌&&◌, nat_lt}
use Rattle.algebra.specs.Fraction.{Fraction, one_fraction, zero_fraction, add}
use Rattle.calculus.specs.Integral.{integral_value}
use Rattle.calculus.specs.Polynomial.{Polynomial, one, times, constant, times-one, times_comm}
use Rattle.calculus.proofs.PolynomialLaws.{constant-one}
use Rattle.ratio.specs.declared.reduced.Ratio.{Ratio}
use Rattle.ratio.specs.Value.{fraction_of}
use Rattle.spaces.specs.declared.cell.Cell.TheVariants.{Interval}
use Rattle.spaces.specs.Space.{Space}
use Rattle.dofs.specs.Basis.{CellOf}
use Rattle.ufl_tree.specs.declared.function.Role.{Role}
use Rattle.ufl_tree.specs.declared.function.Role.TheVariants.{Test, Trial}
use Rattle.ufl_tree.specs.declared.function.On.TheVariants.{All}
use Rattle.ufl_tree.specs.FormTerm.{FormTerm, integral}
use Rattle.ufl_tree.specs.Typed.{Typed}
use Rattle.ufl_tree.specs.Places.{Table, function_place, place_in}
use Rattle.ufl_meaning.specs.Density.{density}
use Rattle.ufl_meaning.specs.Environment.{Environment}
use Rattle.ufl_meaning.specs.Operators.{at_place}
use Rattle.assembly.specs.Sums.{Entry}
use Rattle.form_values.specs.FormValue.{AreTriples, start, start_value, row_value, cell_value, cells_value, is_in_range, form_value}
use Rattle.form_values.specs.Mass.{mass_problem, trial_of, test_of, IsMassIntegrand, plain, scaled, IsMassProblem}
use Rattle.form_values.specs.MassRuns.{line_element}
use Rattle.form_values.specs.Problem.{Problem, cell_of_mesh, labels_in, labels_of, row_count}

-- ---- the integrand
abbrev product_of : Fraction → Polynomial → Polynomial → Polynomial
product_of c u v = times (times (constant c) u) v

abbrev argument_value : Table → Environment → ℕ → Polynomial
argument_value table env e = at_place (function_place table (trial_of e) []) (env.value Trial)

abbrev test_value : Table → Environment → ℕ → Polynomial
test_value table env e = at_place (function_place table (test_of e) []) (env.value Test)

one_times : (c : Fraction) (u v : Polynomial) → c ≡ one_fraction → times u v ≡ product_of c u v
one_times c u v is =
    ap (λ p. times p v) (sym (times-one u) ∙ times_comm u one ∙ ap (λ k. times k u) (sym (ap constant is ∙ constant-one)))

density_is : (table : Table) (body : Typed) (c : Ratio) (e : ℕ) (env : Environment) → IsMassIntegrand body c e
    → density table (integral All body) env ≡ product_of (fraction_of c) (argument_value table env e) (test_value table env e)
density_is table body c e env (plain x y z d n is) = one_times (fraction_of c) (argument_value table env e) (test_value table env e) is
density_is table body c e env (scaled v w x y z d n) = refl

-- ---- the problem
module _ (p : Problem) (c : Ratio) (is : IsMassProblem p c) where
  abbrev q : Problem
  q = mass_problem c p.mesh

  trial_same : (g h : ℕ) (k : CellOf) → argument_value p.elements (start p k g h) is.element ≡ argument_value q.elements (start q k g h) 0
  trial_same g h k =
      ap₂ (λ o t. at_place (place_in o []) (λ i. row_value (slice_get (labels_of p t) h) k i)) is.space is.trial
      ∙ ap (λ o. at_place (place_in (Some line_element) []) (λ i. row_value (slice_get (labels_in p.mesh o) h) k i)) is.space

  test_same : (g h : ℕ) (k : CellOf) → test_value p.elements (start p k g h) is.element ≡ test_value q.elements (start q k g h) 0
  test_same g h k =
      ap₂ (λ o t. at_place (place_in o []) (λ i. row_value (slice_get (labels_of p t) g) k i)) is.space is.test
      ∙ ap (λ o. at_place (place_in (Some line_element) []) (λ i. row_value (slice_get (labels_in p.mesh o) g) k i)) is.space

  cell_same : (g h : ℕ) (k : CellOf) → cell_value p g h k ≡ cell_value q g h k
  cell_same g h k =
      ap (λ f. integral_value k.corners (density p.elements f (start p k g h))) is.form
      ∙ ap (integral_value k.corners) (density_is p.elements is.body c is.element (start p k g h) is.integrand)
      ∙ ap₂ (λ u v. integral_value k.corners (product_of (fraction_of c) u v)) (trial_same g h k) (test_same g h k)

  cells_same : (g h n : ℕ) (cells : List (List ℕ)) → cells_value p g h n cells ≡ cells_value q g h n cells
  cells_same g h n [] = refl
  cells_same g h n (vertices ∷ cells) = ap₂ add (cell_same g h (cell_of_mesh p.mesh n vertices)) (cells_same g h (suc n) cells)

  pub test_rows : row_count p p.test ≡ row_count q q.test
  test_rows = ap (row_count p) is.test ∙ ap (λ o. length (labels_in p.mesh o)) is.space

  pub trial_rows : row_count p p.trial ≡ row_count q q.trial
  trial_rows = ap (row_count p) is.trial ∙ ap (λ o. length (labels_in p.mesh o)) is.space

  pub same_values : (row col : ℕ) → form_value p row col ≡ form_value q row col
  unfolding form_value
  same_values row col =
      ap₂ (λ b x. if b then x else zero_fraction) (ap₂ (λ m n. nat_lt row m && nat_lt col n) test_rows trial_rows)
      (cells_same row col 0 p.mesh.cells)
