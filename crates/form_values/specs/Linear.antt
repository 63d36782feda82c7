-- Forms that are linear in a function, and forms that a function does not occur in
use Rattle.std.specs.Prelude.{◌≡◌, ℕ, suc, false, List, [], ◌∷◌, Option, None, Some, if◌then◌else◌}
use Rattle.std.specs.List.{AllByRecursion}
use Rattle.algebra.specs.Fraction.{Fraction}
use Rattle.calculus.specs.Polynomial.{Polynomial, plus, times, constant}
use Rattle.monos.specs.declared.mono.Atom.{Atom}
use Rattle.monos.specs.Monomial.{Monomial}
use Rattle.ufl_tree.specs.declared.function.Role.{Role}
use Rattle.ufl_tree.specs.declared.function.Role.TheVariants.{Test, Trial, Position}
use Rattle.ufl_meaning.specs.Density.{density}
use Rattle.ufl_meaning.specs.Environment.{Environment, HasOnlyUsed, same_role}
use Rattle.ufl_meaning.specs.Monomial.{HasNoOffset}
use Rattle.form_values.specs.CellLayout.{Occurring}
use Rattle.form_values.specs.Problem.{Problem}

-- other components in place of those of w
abbrev pub with_components : Role → (ℕ → Polynomial) → Environment → Environment
with_components w x env = record env { value = λ r i. if same_role r w then x i else env.value r i }

-- a p + b q
abbrev pub combination : Fraction → Fraction → Polynomial → Polynomial → Polynomial
combination a b p q = plus (times (constant a) p) (times (constant b) q)

-- in environments without offsets: where a variable is moved, its value is affine
abbrev pub IsLinearIn : Role → (Environment → Polynomial) → Type 0
IsLinearIn w f =
    (env : Environment) (a b : Fraction) (x y : ℕ → Polynomial) → HasNoOffset env
    → HasOnlyUsed (with_components w x env) → HasOnlyUsed (with_components w y env)
    → f (with_components w (λ i. combination a b (x i) (y i)) env)
    ≡ combination a b (f (with_components w x env)) (f (with_components w y env))

-- the function of the role doesn't matter
abbrev pub IsBlindTo : Role → (Environment → Polynomial) → Type 0
IsBlindTo w f =
    (env : Environment) (x y : ℕ → Polynomial) → HasNoOffset env
    → HasOnlyUsed (with_components w x env) → HasOnlyUsed (with_components w y env)
    → f (with_components w x env) ≡ f (with_components w y env)

-- in an argument that the form has
abbrev pub IsLinearWhere : Option ℕ → Role → (Environment → Polynomial) → Type 0
IsLinearWhere None w f = Unit {0}
IsLinearWhere (Some e) w f = IsLinearIn w f

-- the form is linear in each of its arguments, and where the position isn't said to occur, it doesn't matter
pub record IsMultilinear (p : Problem) (o : Occurring) : Type 0 where
  pub test : IsLinearWhere p.test Test (density p.elements p.form)
  pub trial : IsLinearWhere p.trial Trial (density p.elements p.form)
  pub position : o.position ≡ false → IsBlindTo Position (density p.elements p.form)

-- ---- sums of monomials
-- how many atoms are of the function of this role
abbrev pub atom_count : Role → List Atom → ℕ
atom_count w [] = 0
atom_count w (a ∷ atoms) = if same_role a.f.role w then suc (atom_count w atoms) else atom_count w atoms

-- each monomial has so many
abbrev pub HaveCount : Role → ℕ → List Monomial → Type 0
HaveCount w n ms = AllByRecursion (λ (m : Monomial). atom_count w m.atoms ≡ n) ms

abbrev pub HaveOneWhere : Option ℕ → Role → List Monomial → Type 0
HaveOneWhere None w ms = Unit {0}
HaveOneWhere (Some e) w ms = HaveCount w 1 ms

-- one test and one trial function, where the form has them, and no position unless it is said to occur
pub record HaveArguments (p : Problem) (o : Occurring) (ms : List Monomial) : Type 0 where
  pub test : HaveOneWhere p.test Test ms
  pub trial : HaveOneWhere p.trial Trial ms
  pub position : o.position ≡ false → HaveCount Position 0 ms
