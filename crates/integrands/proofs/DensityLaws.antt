-- The integrands of a form add up to its density
use Rattle.std.proofs.Common.{◌≡◌, ℕ, ◌≤◌, max, List, [], ◌∷◌, ◌++◌, map, Bool, true, false, if◌then◌else◌, refl, sym, ◌∙◌, ap, ap₂, arith}
use Rattle.algebra.specs.RingLaws as L
use Rattle.calculus.specs.Polynomial.{Polynomial, polynomials, nil, plus, times, negative, constant, coefficient_of, plus_assoc, plus-nil, times-plus}
use Rattle.calculus.proofs.Linear.{negative-plus}
use Rattle.ratio.specs.Value.{fraction_of}
use Rattle.ufl_tree.specs.declared.function.Ix.TheVariants.{Named}
use Rattle.ufl_tree.specs.declared.function.Role.TheVariants.{Trial}
use Rattle.ufl_tree.specs.FormTerm.{FormTerm, integral, sum, scale, left, right, action, adjoint, derivative}
use Rattle.ufl_tree.specs.Places.{Table, IsLawfulTable}
use Rattle.ufl_tree.specs.Typed.{Typed}
use Rattle.ufl_meaning.specs.Density.{covers}
use Rattle.ufl_meaning.specs.Environment.{parameter_number}
use Rattle.ufl_meaning.specs.Prelude.{Environment, HasOnlyUsed, meaning, value, no_names, density}
use Rattle.ufl_meaning.proofs.EnvironmentLaws.{turned_only_used, scaled_only_used, with_function_only_used, exchanged_only_used}
use Rattle.lower.specs.Fitting.{IsFitting}
use Rattle.lower.specs.Keeping.{names_above}
use Rattle.lower.specs.Lowering.{lower}
use Rattle.lower.specs.Shares.{share_of}
use Rattle.lower.proofs.AboveLaws.{names_below}
use Rattle.lower.proofs.FittingLaws.{fitting_kept}
use Rattle.passes.specs.Component.{first_name}
use Rattle.perturb.proofs.CoefficientsOf.{coefficient_laws}
use Rattle.derivatives.proofs.ExpansionLaws.{expanded_means, expanded_ready}
use Rattle.typing.specs.Parts.{ArePartsFitting}
use Rattle.integrands.specs.declared.operator.Operator.{Operator}
use Rattle.integrands.specs.declared.operator.Operator.TheVariants.{Scale, Left, Right, Action, Adjoint, Derivative}
use Rattle.integrands.specs.Flattening.{under, integrand_term, flattened}
use Rattle.integrands.specs.Integrands.{IntegrandTerm, integrand_value, integrands_value, with_body}
use Rattle.integrands.specs.Keeping.{acted, AreExpanded, HaveDensity}
use Rattle.integrands.proofs.OperatorLaws.{acted_nil, is_under, under_ready}

-- ---- operators are additive, and see densities only where no parameter is in use that isn't
acted_plus : (op : Operator) (d e : Environment → Polynomial) (env : Environment) → acted op (λ x. plus (d x) (e x)) env ≡ plus (acted op d env) (acted op e env)
acted_plus (Scale c) d e env = times-plus _ _ _
acted_plus Left d e env = coefficient_laws.adds _ 1 _ _
acted_plus Right d e env = ap negative (coefficient_laws.adds _ 0 _ _) ∙ negative-plus _ _
acted_plus (Action last by) d e env = refl
acted_plus Adjoint d e env = refl
acted_plus (Derivative w u) d e env = coefficient_laws.adds _ 1 _ _

acted_same : (op : Operator) (d e : Environment → Polynomial) → ((x : Environment) → HasOnlyUsed x → d x ≡ e x) → (env : Environment) → HasOnlyUsed env → acted op d env ≡ acted op e env
acted_same (Scale c) d e h env u = ap (times (constant (fraction_of c))) (h env u)
acted_same Left d e h env u = ap (coefficient_of _ 1) (h _ (scaled_only_used Trial env u))
acted_same Right d e h env u = ap (λ (p : Polynomial). negative (coefficient_of (parameter_number env.used) 0 p)) (h _ (scaled_only_used Trial env u))
acted_same (Action last by) d e h env u = h _ (with_function_only_used last by env u)
acted_same Adjoint d e h env u = h _ (exchanged_only_used env u)
acted_same (Derivative w v) d e h env u = ap (coefficient_of _ 1) (h _ (turned_only_used w v env u))

-- ---- lists
value_joined : (elements : Table) (ps qs : List IntegrandTerm) (env : Environment)
    → integrands_value elements (ps ++ qs) env ≡ plus (integrands_value elements ps env) (integrands_value elements qs env)
value_joined elements [] qs env = sym (L.zero-add polynomials _)
value_joined elements (p ∷ ps) qs env = ap (plus (integrand_value elements p env)) (value_joined elements ps qs env) ∙ sym (plus_assoc _ _ _)

value_under : (op : Operator) (elements : Table) (ps : List IntegrandTerm) → AreExpanded ps → (env : Environment) → HasOnlyUsed env
    → integrands_value elements (map (with_body (under op)) ps) env ≡ acted op (integrands_value elements ps) env
value_under op elements [] h env u = sym (acted_nil op env)
value_under op elements (p ∷ ps) h env u =
    ap₂ plus (is_under op p h.0 elements env u) (value_under op elements ps h.1 env u) ∙ sym (acted_plus op (integrand_value elements p) (integrands_value elements ps) env)

-- ---- what is expanded
both_expanded : (ps qs : List IntegrandTerm) → AreExpanded ps → AreExpanded qs → AreExpanded (ps ++ qs)
both_expanded [] qs h k = k
both_expanded (p ∷ ps) qs h k = (h.0, both_expanded ps qs h.1 k)

under_expanded : (op : Operator) (ps : List IntegrandTerm) → AreExpanded ps → AreExpanded (map (with_body (under op)) ps)
under_expanded op [] h = tt
under_expanded op (p ∷ ps) h = (under_ready op p.body h.0, under_expanded op ps h.1)

pub are_expanded : (elements : Table) (f : FormTerm) → AreExpanded (flattened elements f)
are_expanded elements (integral on e) = (expanded_ready (lower share_of elements e Named [] (first_name e [])), tt)
are_expanded elements (sum f g) = both_expanded (flattened elements f) (flattened elements g) (are_expanded elements f) (are_expanded elements g)
are_expanded elements (scale c f) = under_expanded (Scale c) (flattened elements f) (are_expanded elements f)
are_expanded elements (left f) = under_expanded Left (flattened elements f) (are_expanded elements f)
are_expanded elements (right f) = under_expanded Right (flattened elements f) (are_expanded elements f)
are_expanded elements (action f last g) = under_expanded (Action last g.role) (flattened elements f) (are_expanded elements f)
are_expanded elements (adjoint f) = under_expanded Adjoint (flattened elements f) (are_expanded elements f)
are_expanded elements (derivative f w du) = under_expanded (Derivative w.role du.role) (flattened elements f) (are_expanded elements f)

-- ---- an integral
integrand_means : (elements : Table) → IsLawfulTable elements → (e : Typed) → IsFitting elements e → (env : Environment) → HasOnlyUsed env
    → meaning elements (integrand_term elements e) env no_names ≡ value elements e env [] no_names
integrand_means elements lawful e fit env u =
    expanded_means (lower share_of elements e Named [] (first_name e [])) elements env u no_names
    ∙ fitting_kept elements lawful (first_name e []) e (names_below (first_name e []) e (left_of (names_above e))) fit env no_names [] tt
  where
    left_of : (n : ℕ) → n ≤ max n 0
    left_of n = omega arith

-- ---- forms
module _ (elements : Table) (lawful : IsLawfulTable elements) where
  through : (op : Operator) (f : FormTerm) → HaveDensity elements f (flattened elements f) → (env : Environment) → HasOnlyUsed env
      → integrands_value elements (map (with_body (under op)) (flattened elements f)) env ≡ acted op (density elements f) env
  through op f h env u =
      value_under op elements (flattened elements f) (are_expanded elements f) env u
      ∙ acted_same op (integrands_value elements (flattened elements f)) (density elements f) h env u

  pub have_density : (f : FormTerm) → ArePartsFitting elements f → HaveDensity elements f (flattened elements f)
  have_density (integral on e) h env u = plus-nil _ ∙ go (covers on env.marker)
    where
      go : (t : Bool) → (if t then meaning elements (integrand_term elements e) env no_names else nil) ≡ (if t then value elements e env [] no_names else nil)
      go true = integrand_means elements lawful e h env u
      go false = refl
  have_density (sum f g) h env u = value_joined elements (flattened elements f) (flattened elements g) env ∙ ap₂ plus (have_density f h.0 env u) (have_density g h.1 env u)
  have_density (scale c f) h env u = through (Scale c) f (have_density f h) env u
  have_density (left f) h env u = through Left f (have_density f h) env u
  have_density (right f) h env u = through Right f (have_density f h) env u
  have_density (action f last g) h env u = through (Action last g.role) f (have_density f h.0) env u
  have_density (adjoint f) h env u = through Adjoint f (have_density f h) env u
  have_density (derivative f w du) h env u = through (Derivative w.role du.role) f (have_density f h.0) env u
