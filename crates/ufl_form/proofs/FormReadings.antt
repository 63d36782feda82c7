-- What the code's forms are read as, one equation for each variant
use Rattle.std.proofs.Common.{◌≡◌, sym, ap, ◌∙◌}
use Rattle.ratio.specs.declared.reduced.Ratio.{Ratio}
use Rattle.ufl_tree.specs.declared.function.Function.{Function}
use Rattle.ufl_tree.specs.declared.function.On.{On}
use Rattle.ufl_tree.specs.declared.function.Role.{Role}
use Rattle.ufl_tree.specs.declared.tree.Tree.{Tree}
use Rattle.ufl_tree.specs.Reading.{typed_of}
use Rattle.ufl_tree.specs.FormTerm.{FormTerm, integral, sum, scale, left, right, action, adjoint, derivative}
use Rattle.ufl_form.specs.declared.form_tree.FormTree.{FormTree}
use Rattle.ufl_form.specs.declared.form_tree.FormTree.TheOpen.{FormTree-F}
use Rattle.ufl_form.specs.declared.form_tree.FormTree.TheFolds.{fold-FormTree, fold-roll-FormTree}
use Rattle.ufl_form.specs.declared.form_tree.FormTree.TheVariants as v
use Rattle.ufl_form.specs.Reading.{form_of, form_layer}

pub form_of-Integral : (m : On) (e : Tree) → form_of (v.Integral m e) ≡ integral m (typed_of e)
unfolding form_of
form_of-Integral m e = ap (fold-FormTree FormTerm form_layer) (sym (v.rolls-Integral m e)) ∙ fold-roll-FormTree FormTerm form_layer (FormTree-F.Integral m e)

pub form_of-Sum : (f g : FormTree) → form_of (v.Sum f g) ≡ sum (form_of f) (form_of g)
unfolding form_of
form_of-Sum f g = ap (fold-FormTree FormTerm form_layer) (sym (v.rolls-Sum f g)) ∙ fold-roll-FormTree FormTerm form_layer (FormTree-F.Sum f g)

pub form_of-Scale : (c : Ratio) (f : FormTree) → form_of (v.Scale c f) ≡ scale c (form_of f)
unfolding form_of
form_of-Scale c f = ap (fold-FormTree FormTerm form_layer) (sym (v.rolls-Scale c f)) ∙ fold-roll-FormTree FormTerm form_layer (FormTree-F.Scale c f)

pub form_of-Left : (f : FormTree) → form_of (v.Left f) ≡ left (form_of f)
unfolding form_of
form_of-Left f = ap (fold-FormTree FormTerm form_layer) (sym (v.rolls-Left f)) ∙ fold-roll-FormTree FormTerm form_layer (FormTree-F.Left f)

pub form_of-Right : (f : FormTree) → form_of (v.Right f) ≡ right (form_of f)
unfolding form_of
form_of-Right f = ap (fold-FormTree FormTerm form_layer) (sym (v.rolls-Right f)) ∙ fold-roll-FormTree FormTerm form_layer (FormTree-F.Right f)

pub form_of-Action : (f : FormTree) (last : Role) (g : Function) → form_of (v.Action f last g) ≡ action (form_of f) last g
unfolding form_of
form_of-Action f last g = ap (fold-FormTree FormTerm form_layer) (sym (v.rolls-Action f last g)) ∙ fold-roll-FormTree FormTerm form_layer (FormTree-F.Action f last g)

pub form_of-Adjoint : (f : FormTree) → form_of (v.Adjoint f) ≡ adjoint (form_of f)
unfolding form_of
form_of-Adjoint f = ap (fold-FormTree FormTerm form_layer) (sym (v.rolls-Adjoint f)) ∙ fold-roll-FormTree FormTerm form_layer (FormTree-F.Adjoint f)

pub form_of-Derivative : (f : FormTree) (w du : Function) → form_of (v.Derivative f w du) ≡ derivative (form_of f) w du
unfolding form_of
form_of-Derivative f w du = ap (fold-FormTree FormTerm form_layer) (sym (v.rolls-Derivative f w du)) ∙ fold-roll-FormTree FormTerm form_layer (FormTree-F.Derivative f w du)

pub ruleset form_readings = (form_of-Integral, form_of-Sum, form_of-Scale, form_of-Left, form_of-Right, form_of-Action, form_of-Adjoint, form_of-Derivative)
