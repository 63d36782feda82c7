-- The form c*u*v*dx of two scalar functions, and its problem for the linear element on intervals
use Rattle.std.specs.Prelude.{◌≡◌, ℕ, false, [], ◌∷◌, Option, Some, slice_get}
use Rattle.algebra.specs.Fraction.{Fraction, one_fraction}
use Rattle.ratio.specs.declared.reduced.Ratio.{Ratio}
use Rattle.ratio.specs.Value.{fraction_of}
use Rattle.spaces.specs.declared.cell.Cell.{Cell}
use Rattle.spaces.specs.declared.cell.Cell.TheVariants.{Interval}
use Rattle.spaces.specs.declared.family.Family.TheVariants.{Lagrange}
use Rattle.spaces.specs.Space.{scalar}
use Rattle.mesh_in.specs.MeshData.{MeshData}
use Rattle.ufl_tree.specs.declared.function.Function.{Function}
use Rattle.ufl_tree.specs.declared.function.On.TheVariants.{All}
use Rattle.ufl_tree.specs.declared.function.Role.TheVariants.{Test, Trial}
use Rattle.ufl_tree.specs.declared.tree.Op2.TheVariants.{Product}
use Rattle.ufl_tree.specs.FormTerm.{FormTerm, integral}
use Rattle.ufl_tree.specs.Typed.{Kind, Typed, number, function, two}
use Rattle.form_values.specs.CellLayout.{Occurring}
use Rattle.form_values.specs.Problem.{Problem}

-- of a scalar without free indices; a cell is known where a function occurs
abbrev pub scalar_with : Option Cell → Kind
scalar_with c = record { shape = []; free = []; cell = c }

abbrev pub scalar_on : Cell → Kind
scalar_on c = scalar_with (Some c)

abbrev pub trial_of : ℕ → Function
trial_of e = record { role = Trial; element = e }

abbrev pub test_of : ℕ → Function
test_of e = record { role = Test; element = e }

-- of the arguments of one element
abbrev pub mass_form : Cell → Ratio → ℕ → FormTerm
mass_form cell c e =
    let k = scalar_on cell in
    integral All (two k Product (two k Product (number k c) (function k (trial_of e))) (function k (test_of e)))

abbrev pub mass_problem : Ratio → MeshData Fraction → Problem
mass_problem c m = record {
  elements = scalar Lagrange Interval 1 ∷ [];
  coefficients = [];
  test = Some 0;
  trial = Some 0;
  form = mass_form Interval c 0;
  mesh = m;
  values = λ n. [];
}

-- it has neither coefficients nor the coordinate of space
abbrev pub no_others : Occurring
no_others = record { coefficients = []; position = false }

-- ---- the same form among others
-- the integrands c*u*v of the arguments of element e: a number times the trial function, or that alone where c is 1,
-- times the test function; all are scalars without free indices
pub data IsMassIntegrand : Typed → Ratio → ℕ → Type 0 where
  plain : (x y z : Option Cell) (c : Ratio) (e : ℕ) → fraction_of c ≡ one_fraction
      → IsMassIntegrand (two (scalar_with x) Product (function (scalar_with y) (trial_of e)) (function (scalar_with z) (test_of e))) c e
  scaled : (v w x y z : Option Cell) (c : Ratio) (e : ℕ)
      → IsMassIntegrand (two (scalar_with v) Product
      (two (scalar_with w) Product (number (scalar_with x) c) (function (scalar_with y) (trial_of e)))
      (function (scalar_with z) (test_of e))) c e

-- the form is the integral of such over all cells, and the element is the linear one on intervals, wherever it stands in
-- the table
pub record IsMassProblem (p : Problem) (c : Ratio) : Type 0 where
  pub element : ℕ
  pub body : Typed
  pub form : p.form ≡ integral All body
  pub integrand : IsMassIntegrand body c element
  pub space : slice_get p.elements element ≡ Some (scalar Lagrange Interval 1)
  pub test : p.test ≡ Some element
  pub trial : p.trial ≡ Some element
