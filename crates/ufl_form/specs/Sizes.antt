-- The number of nodes and the height of a form, those of its integrands counted
use Rattle.std.specs.Prelude.{ℕ, ◌+◌, max}
use Rattle.ufl_tree.specs.FormTerm.{FormTerm, integral, sum, scale, left, right, action, adjoint, derivative}
use Rattle.ufl_expr.specs.Sizes.{nodes_of, height_of}

unfoldable pub form_nodes : FormTerm → ℕ
form_nodes (integral m e) = nodes_of e + 1
form_nodes (sum f g) = form_nodes f + form_nodes g + 1
form_nodes (scale c f) = form_nodes f + 1
form_nodes (left f) = form_nodes f + 1
form_nodes (right f) = form_nodes f + 1
form_nodes (action f last g) = form_nodes f + 1
form_nodes (adjoint f) = form_nodes f + 1
form_nodes (derivative f w du) = form_nodes f + 1

unfoldable pub form_height : FormTerm → ℕ
form_height (integral m e) = height_of e + 1
form_height (sum f g) = max (form_height f) (form_height g) + 1
form_height (scale c f) = form_height f + 1
form_height (left f) = form_height f + 1
form_height (right f) = form_height f + 1
form_height (action f last g) = form_height f + 1
form_height (adjoint f) = form_height f + 1
form_height (derivative f w du) = form_height f + 1
