-- The density of a form, by its kind
use Rattle.std.proofs.Common.{◌≡◌, ℕ, refl, sym, ◌∙◌, ap, ap₂, List, [], ◌∷◌, ◌++◌, if◌then◌else◌}
use Rattle.ratio.specs.Value.{fraction_of}
use Rattle.ratio.specs.declared.reduced.Ratio.{Ratio}
use Rattle.calculus.specs.Polynomial.{Polynomial, nil, plus, times, negative, constant, coefficient_of}
use Rattle.ufl_tree.specs.declared.function.Function.{Function}
use Rattle.ufl_tree.specs.declared.function.Role.{Role}
use Rattle.ufl_tree.specs.declared.function.Role.TheVariants.{Trial}
use Rattle.ufl_tree.specs.declared.function.On.{On}
use Rattle.ufl_tree.specs.declared.tree.Tree.{Tree}
use Rattle.ufl_tree.specs.FormTerm.{FormTerm}
use Rattle.ufl_tree.specs.Reading.{typed_of}
use Rattle.ufl_tree.specs.Places.{table_of}
use Rattle.ufl_form.specs.declared.form_tree.FormTree.{FormTree}
use Rattle.ufl_form.specs.declared.form_tree.FormTree.TheVariants as v
use Rattle.ufl_form.specs.Reading.{form_of}
use Rattle.ufl_form.proofs.FormReadings as r
use Rattle.ufl_meaning.specs.Environment.{parameter_number}
use Rattle.ufl_meaning.specs.Value.{value}
use Rattle.ufl_meaning.specs.Density.{density, no_names, covers}
use Rattle.tree_values.specs.declared.environment.Change.{Change}
use Rattle.tree_values.specs.declared.environment.Change.TheVariants.{Turned, Scaled, Replaced, Exchanged}
use Rattle.tree_values.specs.declared.scene.Scene.{Scene}
use Rattle.tree_values.specs.Scene.{names_of, changed}
use Rattle.tree_values.specs.Value.{env_of, value_in}
use Rattle.tree_values.specs.Density.{density_in, density_changed, integrand_in}
use Rattle.tree_values.proofs.ValueLaws.{changed_scene}

read : (s : Scene) (f : FormTree) (x : FormTerm) → form_of f ≡ x → density (table_of s.elements.now) x (env_of s) ≡ density_in s f
unfolding density_in
read s f x h = sym (ap (λ x. density (table_of s.elements.now) x (env_of s)) h)

pub in_integral : (s : Scene) (f : FormTree) (on : On) (t u : Tree) (p : Polynomial) → f ≡ v.Integral on t → u ≡ t → p ≡ integrand_in s u → (if covers on s.marker then p else nil) ≡ density_in s f
unfolding integrand_in
in_integral s f on t u p h e is = ap (λ x. if covers on s.marker then x else nil) (is ∙ ap (integrand_in s) e) ∙ read s f _ (ap form_of h ∙ r.form_of-Integral on t)

pub in_sum : (s : Scene) (f a b : FormTree) → f ≡ v.Sum a b → plus (density_in s a) (density_in s b) ≡ density_in s f
unfolding density_in
in_sum s f a b h = read s f _ (ap form_of h ∙ r.form_of-Sum a b)

pub in_scale : (s : Scene) (f a : FormTree) (c : Ratio) → f ≡ v.Scale c a → times (constant (fraction_of c)) (density_in s a) ≡ density_in s f
unfolding density_in
in_scale s f a c h = read s f _ (ap form_of h ∙ r.form_of-Scale c a)

pub in_left : (s : Scene) (f a : FormTree) → f ≡ v.Left a → coefficient_of (parameter_number (env_of s).used) 1 (density_changed s a (Scaled Trial)) ≡ density_in s f
unfolding density_changed
in_left s f a h = read s f _ (ap form_of h ∙ r.form_of-Left a)

pub in_right : (s : Scene) (f a : FormTree) → f ≡ v.Right a → negative (coefficient_of (parameter_number (env_of s).used) 0 (density_changed s a (Scaled Trial))) ≡ density_in s f
unfolding density_changed
in_right s f a h = read s f _ (ap form_of h ∙ r.form_of-Right a)

pub in_action : (s : Scene) (f a : FormTree) (last : Role) (g : Function) → f ≡ v.Action a last g → density_changed s a (Replaced last g.role) ≡ density_in s f
unfolding density_changed
in_action s f a last g h = read s f _ (ap form_of h ∙ r.form_of-Action a last g)

pub in_adjoint : (s : Scene) (f a : FormTree) → f ≡ v.Adjoint a → density_changed s a Exchanged ≡ density_in s f
unfolding density_changed
in_adjoint s f a h = read s f _ (ap form_of h ∙ r.form_of-Adjoint a)

pub in_derivative : (s : Scene) (f a : FormTree) (w du : Function) → f ≡ v.Derivative a w du
    → coefficient_of (parameter_number (env_of s).used) 1 (density_changed s a (Turned w.role du.role)) ≡ density_in s f
unfolding density_changed
in_derivative s f a w du h = read s f _ (ap form_of h ∙ r.form_of-Derivative a w du)

-- ---- other scenes
pub changed_at : (s here : Scene) (f : FormTree) (c : Change) (cs : List Change) → here.elements.now ≡ s.elements.now → here.functions.now ≡ s.functions.now → here.marker ≡ s.marker → here.changes.now ≡ cs
    → cs ≡ s.changes.now ++ c ∷ [] → density_in here f ≡ density_changed s f c
unfolding density_in density_changed
changed_at s here f c cs es fs ms hs is =
    ap₂ (λ x y. density (table_of x) (form_of f) y) es (changed_scene s here c fs ms (hs ∙ is))

pub without_names : (s here : Scene) (t : Tree) → here.elements.now ≡ s.elements.now → env_of here ≡ env_of s → here.names.now ≡ [] → value_in here t [] ≡ integrand_in s t
unfolding value_in integrand_in
without_names s here t es env ns =
    ap₂ (λ x y. value (table_of x) (typed_of t) y [] (names_of here.names.now)) es env
    ∙ ap (λ x. value (table_of s.elements.now) (typed_of t) (env_of s) [] (names_of x)) ns
