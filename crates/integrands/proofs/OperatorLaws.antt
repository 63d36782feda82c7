-- What an operator makes of an integrand
use Rattle.std.proofs.Common.{◌≡◌, ℕ, Bool, true, false, if◌then◌else◌, refl, sym, ◌∙◌, ap, subst}
use Rattle.algebra.specs.RingLaws as L
use Rattle.calculus.specs.Polynomial.{Polynomial, polynomials, nil, plus, times, negative, coefficient_of}
use Rattle.ufl_tree.specs.declared.function.On.{On}
use Rattle.ufl_tree.specs.declared.function.Role.{Role}
use Rattle.ufl_tree.specs.Places.{Table}
use Rattle.ufl_tree.specs.Term.{Term}
use Rattle.ufl_meaning.specs.Density.{covers}
use Rattle.ufl_meaning.specs.Environment.{parameter, parameter_number, same_role}
use Rattle.ufl_meaning.specs.Prelude.{Environment, HasOnlyUsed, meaning, no_names, turned}
use Rattle.perturb.proofs.CoefficientsOf.{coefficient_laws}
use Rattle.perturb.proofs.MeaningKept.{linear_is, linear_ready, le_same}
use Rattle.derivatives.specs.Expanded.{IsExpanded}
use Rattle.integrands.specs.declared.operator.Operator.{Operator}
use Rattle.integrands.specs.declared.operator.Operator.TheVariants.{Scale, Left, Right, Action, Adjoint, Derivative}
use Rattle.integrands.specs.Flattening.{under}
use Rattle.integrands.specs.Integrands.{IntegrandTerm, integrand_value, with_body}
use Rattle.integrands.specs.Keeping.{acted, IsUnder, IsApplied}
use Rattle.integrands.proofs.SubstitutionLaws.{replaced_means, exchanged_means, substituted_ready}
use Rattle.integrands.proofs.SidesLaws.{left_ready, left_is, rest_is}

pub under_ready : (op : Operator) (e : Term) → IsExpanded e → IsExpanded (under op e)
under_ready (Scale c) e h = (tt, h)
under_ready Left e h = left_ready 0 e h
under_ready Right e h = substituted_ready 0 _ e h
under_ready (Action last by) e h = substituted_ready 0 _ e h
under_ready Adjoint e h = substituted_ready 0 _ e h
under_ready (Derivative w d) e h = linear_ready 0 w d e h

-- ---- a function that is moved by the parameter
turned_zero : (w d : Role) (env : Environment) → HasOnlyUsed env → (r : Role) (i : ℕ) → coefficient_of (parameter_number env.used) 0 ((turned w d env).value r i) ≡ env.value r i
turned_zero w d env u r i = go (same_role r w)
  where
    go : (t : Bool) → coefficient_of (parameter_number env.used) 0 (if t then plus (env.value r i) (times (parameter env.used) (env.value d i)) else env.value r i) ≡ env.value r i
    go true = coefficient_laws.zero_line _ _ _ (u.values r i env.used (le_same env.used))
    go false = coefficient_laws.zero_free _ _ (u.values r i env.used (le_same env.used))

turned_one : (w d : Role) (env : Environment) → HasOnlyUsed env → (r : Role) (i : ℕ)
    → coefficient_of (parameter_number env.used) 1 ((turned w d env).value r i) ≡ (if same_role r w then env.value d i else nil)
turned_one w d env u r i = go (same_role r w)
  where
    go : (t : Bool) → coefficient_of (parameter_number env.used) 1 (if t then plus (env.value r i) (times (parameter env.used) (env.value d i)) else env.value r i) ≡ (if t then env.value d i else nil)
    go true = coefficient_laws.one_line _ _ _ (u.values r i env.used (le_same env.used)) (u.values d i env.used (le_same env.used))
    go false = coefficient_laws.one_free _ _ (u.values r i env.used (le_same env.used))

-- ---- of a body
pub under_means : (op : Operator) (e : Term) → IsExpanded e → (elements : Table) (env : Environment) → HasOnlyUsed env
    → meaning elements (under op e) env no_names ≡ acted op (λ x. meaning elements e x no_names) env
under_means (Scale c) e h elements env u = refl
under_means Left e h elements env u = sym (left_is env u elements 0 e no_names h)
under_means Right e h elements env u = ap negative (sym (rest_is env u elements 0 e no_names h))
under_means (Action last by) e h elements env u = replaced_means elements last by env 0 e no_names h
under_means Adjoint e h elements env u = exchanged_means elements env 0 e no_names h
under_means (Derivative w d) e h elements env u =
    sym (linear_is coefficient_laws elements env.used env (turned w d env) (turned_zero w d env u)
    (λ m b. coefficient_laws.zero_free _ _ (u.offsets m b env.used (le_same env.used))) w d
    (turned_one w d env u) (λ m b. coefficient_laws.one_free _ _ (u.offsets m b env.used (le_same env.used))) 0 e no_names h)

-- ---- where there is nothing to integrate
pub acted_nil : (op : Operator) (env : Environment) → acted op (λ x. nil) env ≡ nil
acted_nil (Scale c) env = L.mul-zero polynomials _
acted_nil Left env = coefficient_laws.one_free _ nil (coefficient_laws.of_nil _)
acted_nil Right env = ap negative (coefficient_laws.zero_free _ nil (coefficient_laws.of_nil _)) ∙ L.neg-zero polynomials
acted_nil (Action last by) env = refl
acted_nil Adjoint env = refl
acted_nil (Derivative w d) env = coefficient_laws.one_free _ nil (coefficient_laws.of_nil _)

-- the marker stays, whatever the operator does to the functions
acted_where : (op : Operator) (t : Bool) (d : Environment → Polynomial) (env : Environment) → acted op (λ x. if t then d x else nil) env ≡ (if t then acted op d env else nil)
acted_where op true d env = refl
acted_where op false d env = acted_nil op env

pub is_under : (op : Operator) (p : IntegrandTerm) → IsExpanded p.body → IsUnder op p (with_body (under op) p)
is_under op p h elements env u = go (covers p.on env.marker) ∙ sym (there op)
  where
    go : (t : Bool) → (if t then meaning elements (under op p.body) env no_names else nil) ≡ acted op (λ x. if t then meaning elements p.body x no_names else nil) env
    go true = under_means op p.body h elements env u
    go false = sym (acted_nil op env)

    -- each environment that an operator takes has the marker of env
    there : (op : Operator) → acted op (integrand_value elements p) env ≡ acted op (λ x. if covers p.on env.marker then meaning elements p.body x no_names else nil) env
    there (Scale c) = refl
    there Left = refl
    there Right = refl
    there (Action last by) = refl
    there Adjoint = refl
    there (Derivative w d) = refl

pub is_applied : (op : Operator) (p : IntegrandTerm) → IsApplied op p (with_body (under op) p)
is_applied op p = record { tree = refl; expanded = under_ready op p.body; density = is_under op p }

-- what the code makes of a body
pub applied : (op : Operator) (on : On) (e b : Term) → b ≡ under op e → IsApplied op (record { on = on; body = e }) (record { on = on; body = b })
applied op on e b h = subst (λ (x : Term). IsApplied op (record { on = on; body = e }) (record { on = on; body = x })) (sym h) (is_applied op (record { on = on; body = e }))
