-- The code's forms, read as data
use Rattle.ufl_tree.specs.FormTerm.{FormTerm, integral, sum, scale, left, right, action, adjoint, derivative}
use Rattle.ufl_tree.specs.Reading.{typed_of}
use Rattle.ufl_form.specs.declared.form_tree.FormTree.{FormTree}
use Rattle.ufl_form.specs.declared.form_tree.FormTree.TheOpen.{FormTree-F}
use Rattle.ufl_form.specs.declared.form_tree.FormTree.TheFolds.{fold-FormTree}

abbrev pub form_layer : FormTree-F FormTerm → FormTerm
form_layer (FormTree-F.Integral m e) = integral m (typed_of e)
form_layer (FormTree-F.Sum f g) = sum f g
form_layer (FormTree-F.Scale c f) = scale c f
form_layer (FormTree-F.Left f) = left f
form_layer (FormTree-F.Right f) = right f
form_layer (FormTree-F.Action f last g) = action f last g
form_layer (FormTree-F.Adjoint f) = adjoint f
form_layer (FormTree-F.Derivative f w du) = derivative f w du

unfoldable pub form_of : FormTree → FormTerm
form_of = fold-FormTree FormTerm form_layer
