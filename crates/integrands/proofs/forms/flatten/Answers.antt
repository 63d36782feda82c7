use Rattle.std.proofs.Common.{◌≡◌, List, [], ◌++◌, sym, ◌∙◌, ap₂, subst}
use Rattle.ufl_tree.specs.Places.{Table, table_of}
use Rattle.ufl_form.specs.declared.form_tree.FormTree.{FormTree}
use Rattle.ufl_form.specs.Reading.{form_of}
use Rattle.passes.proofs.ResultLaws.{ok_then}
use Rattle.integrands.specs.declared.integrand.Integrand.{Integrand}
use Rattle.integrands.specs.Flattening.{flattened}
use Rattle.integrands.specs.Integrands.{IntegrandTerm, integrands_of}
use Rattle.integrands.specs.Keeping.{AreExpanded, HaveDensity, HaveWeight}
use Rattle.integrands.proofs.DensityLaws.{are_expanded, have_density}
use Rattle.integrands.proofs.TotalLaws.{have_weight}
use Rattle.integrands.proofs.forms.flatten.Goals as goal

-- behind none
whole : (elements : Table) (none all : List Integrand) (f g : FormTree) → none ≡ [] → f ≡ g
    → integrands_of all ≡ integrands_of none ++ flattened elements (form_of f) → integrands_of all ≡ flattened elements (form_of g)
whole elements none all f g e k h = h ∙ ap₂ (λ (xs : List Integrand) (x : FormTree). integrands_of xs ++ flattened elements (form_of x)) e k

pub returns-clause-tree : goal.returns-clause-tree
returns-clause-tree c =
    ok_then c.with_form.result (λ all h. whole (table_of c.args.elements.now) _ all.items _ _ c.new.ensures.items c.tree.ensures.same h) c.with_form.ensures

pub returns-clause-expanded : goal.returns-clause-expanded
returns-clause-expanded c =
    ok_then c.with_form.result
    (λ all h. subst AreExpanded (sym (whole (table_of c.args.elements.now) _ all.items _ _ c.new.ensures.items c.tree.ensures.same h)) (are_expanded (table_of c.args.elements.now) (form_of c.args.form.now)))
    c.with_form.ensures

pub returns-clause-density : goal.returns-clause-density
returns-clause-density c = λ fit.
    ok_then c.with_form.result
    (λ all h. subst (λ (ps : List IntegrandTerm). HaveDensity (table_of c.args.elements.now) (form_of c.args.form.now) ps)
    (sym (whole (table_of c.args.elements.now) _ all.items _ _ c.new.ensures.items c.tree.ensures.same h))
    (have_density (table_of c.args.elements.now) c.lawful.ensures (form_of c.args.form.now) (c.fitting.ensures fit)))
    c.with_form.ensures

pub returns-clause-weight : goal.returns-clause-weight
returns-clause-weight c = λ fit.
    ok_then c.with_form.result
    (λ all h. subst (λ (ps : List IntegrandTerm). HaveWeight (table_of c.args.elements.now) (form_of c.args.form.now) ps)
    (sym (whole (table_of c.args.elements.now) _ all.items _ _ c.new.ensures.items c.tree.ensures.same h))
    (have_weight (table_of c.args.elements.now) (form_of c.args.form.now) (c.fitting.ensures fit)))
    c.with_form.ensures
