-- The equations of `nodes_of` and `height_of`, one for each variant
use Rattle.std.proofs.Common.{◌≡◌, ℕ, ◌+◌, List, map, Option, None, Some, sym, ap, ◌∙◌}
use Rattle.ratio.specs.declared.reduced.Ratio.{Ratio}
use Rattle.spaces.specs.declared.cell.Cell.{Cell}
use Rattle.spaces.specs.declared.family.Family.{Family}
use Rattle.spaces.specs.declared.element_tree.ElementTree.{ElementTree}
use Rattle.ufl_tree.specs.declared.function.On.{On}
use Rattle.ufl_tree.specs.declared.tree.Tree.{Tree}
use Rattle.ufl_tree.specs.Reading.{typed_of}
use Rattle.ufl_expr.specs.Sizes.{nodes_of as nodes_of_tree, height_of as height_of_tree}
use Rattle.ufl_form.specs.declared.form_tree.FormTree.{FormTree}
use Rattle.ufl_form.specs.Reading.{form_of}
use Rattle.ufl_form.specs.Sizes.{form_nodes, form_height}
use Rattle.ufl_values.specs.declared.words.Word.{Word}
use Rattle.ufl_values.specs.declared.value.Value.{Value, Value-F, fold-Value, fold-roll-Value, out-roll-Value}
use Rattle.ufl_values.specs.declared.value.Value.TheVariants as v
use Rattle.ufl_values.specs.Values.{nodes_of, nodes_layer, height_of, height_layer, total, highest, tuple_in, tuple_of, list_in, list_of}

pub nodes_of-Number : (c : Ratio) → nodes_of (v.Number c) ≡ 1
unfolding nodes_of
nodes_of-Number c = ap (fold-Value ℕ nodes_layer) (sym (v.rolls-Number c)) ∙ fold-roll-Value ℕ nodes_layer (Value-F.Number c)

pub nodes_of-Expr : (e : Tree) → nodes_of (v.Expr e) ≡ nodes_of_tree (typed_of e)
unfolding nodes_of
nodes_of-Expr e = ap (fold-Value ℕ nodes_layer) (sym (v.rolls-Expr e)) ∙ fold-roll-Value ℕ nodes_layer (Value-F.Expr e)

pub nodes_of-Form : (f : FormTree) → nodes_of (v.Form f) ≡ form_nodes (form_of f)
unfolding nodes_of
nodes_of-Form f = ap (fold-Value ℕ nodes_layer) (sym (v.rolls-Form f)) ∙ fold-roll-Value ℕ nodes_layer (Value-F.Form f)

pub nodes_of-Element : (e : ElementTree) → nodes_of (v.Element e) ≡ 1
unfolding nodes_of
nodes_of-Element e = ap (fold-Value ℕ nodes_layer) (sym (v.rolls-Element e)) ∙ fold-roll-Value ℕ nodes_layer (Value-F.Element e)

pub nodes_of-Function : (f : Word) → nodes_of (v.Function f) ≡ 1
unfolding nodes_of
nodes_of-Function f = ap (fold-Value ℕ nodes_layer) (sym (v.rolls-Function f)) ∙ fold-roll-Value ℕ nodes_layer (Value-F.Function f)

pub nodes_of-Cell : (c : Cell) → nodes_of (v.Cell c) ≡ 1
unfolding nodes_of
nodes_of-Cell c = ap (fold-Value ℕ nodes_layer) (sym (v.rolls-Cell c)) ∙ fold-roll-Value ℕ nodes_layer (Value-F.Cell c)

pub nodes_of-Index : (n : ℕ) → nodes_of (v.Index n) ≡ 1
unfolding nodes_of
nodes_of-Index n = ap (fold-Value ℕ nodes_layer) (sym (v.rolls-Index n)) ∙ fold-roll-Value ℕ nodes_layer (Value-F.Index n)

pub nodes_of-Measure : (o : On) → nodes_of (v.Measure o) ≡ 1
unfolding nodes_of
nodes_of-Measure o = ap (fold-Value ℕ nodes_layer) (sym (v.rolls-Measure o)) ∙ fold-roll-Value ℕ nodes_layer (Value-F.Measure o)

pub nodes_of-Text : (f : Option Family) (c : Option Cell) → nodes_of (v.Text f c) ≡ 1
unfolding nodes_of
nodes_of-Text f c = ap (fold-Value ℕ nodes_layer) (sym (v.rolls-Text f c)) ∙ fold-roll-Value ℕ nodes_layer (Value-F.Text f c)

pub nodes_of-Tuple : (vs : List Value) → nodes_of (v.Tuple vs) ≡ total (map nodes_of vs) + 1
unfolding nodes_of
nodes_of-Tuple vs = ap (fold-Value ℕ nodes_layer) (sym (v.rolls-Tuple vs)) ∙ fold-roll-Value ℕ nodes_layer (Value-F.Tuple vs)

pub nodes_of-List : (vs : List Value) → nodes_of (v.List vs) ≡ total (map nodes_of vs) + 1
unfolding nodes_of
nodes_of-List vs = ap (fold-Value ℕ nodes_layer) (sym (v.rolls-List vs)) ∙ fold-roll-Value ℕ nodes_layer (Value-F.List vs)

pub ruleset node_readings = (nodes_of-Number, nodes_of-Expr, nodes_of-Form, nodes_of-Element, nodes_of-Function, nodes_of-Cell, nodes_of-Index, nodes_of-Measure, nodes_of-Text, nodes_of-Tuple, nodes_of-List)

pub height_of-Number : (c : Ratio) → height_of (v.Number c) ≡ 1
unfolding height_of
height_of-Number c = ap (fold-Value ℕ height_layer) (sym (v.rolls-Number c)) ∙ fold-roll-Value ℕ height_layer (Value-F.Number c)

pub height_of-Expr : (e : Tree) → height_of (v.Expr e) ≡ height_of_tree (typed_of e)
unfolding height_of
height_of-Expr e = ap (fold-Value ℕ height_layer) (sym (v.rolls-Expr e)) ∙ fold-roll-Value ℕ height_layer (Value-F.Expr e)

pub height_of-Form : (f : FormTree) → height_of (v.Form f) ≡ form_height (form_of f)
unfolding height_of
height_of-Form f = ap (fold-Value ℕ height_layer) (sym (v.rolls-Form f)) ∙ fold-roll-Value ℕ height_layer (Value-F.Form f)

pub height_of-Element : (e : ElementTree) → height_of (v.Element e) ≡ 1
unfolding height_of
height_of-Element e = ap (fold-Value ℕ height_layer) (sym (v.rolls-Element e)) ∙ fold-roll-Value ℕ height_layer (Value-F.Element e)

pub height_of-Function : (f : Word) → height_of (v.Function f) ≡ 1
unfolding height_of
height_of-Function f = ap (fold-Value ℕ height_layer) (sym (v.rolls-Function f)) ∙ fold-roll-Value ℕ height_layer (Value-F.Function f)

pub height_of-Cell : (c : Cell) → height_of (v.Cell c) ≡ 1
unfolding height_of
height_of-Cell c = ap (fold-Value ℕ height_layer) (sym (v.rolls-Cell c)) ∙ fold-roll-Value ℕ height_layer (Value-F.Cell c)

pub height_of-Index : (n : ℕ) → height_of (v.Index n) ≡ 1
unfolding height_of
height_of-Index n = ap (fold-Value ℕ height_layer) (sym (v.rolls-Index n)) ∙ fold-roll-Value ℕ height_layer (Value-F.Index n)

pub height_of-Measure : (o : On) → height_of (v.Measure o) ≡ 1
unfolding height_of
height_of-Measure o = ap (fold-Value ℕ height_layer) (sym (v.rolls-Measure o)) ∙ fold-roll-Value ℕ height_layer (Value-F.Measure o)

pub height_of-Text : (f : Option Family) (c : Option Cell) → height_of (v.Text f c) ≡ 1
unfolding height_of
height_of-Text f c = ap (fold-Value ℕ height_layer) (sym (v.rolls-Text f c)) ∙ fold-roll-Value ℕ height_layer (Value-F.Text f c)

pub height_of-Tuple : (vs : List Value) → height_of (v.Tuple vs) ≡ highest (map height_of vs) + 1
unfolding height_of
height_of-Tuple vs = ap (fold-Value ℕ height_layer) (sym (v.rolls-Tuple vs)) ∙ fold-roll-Value ℕ height_layer (Value-F.Tuple vs)

pub height_of-List : (vs : List Value) → height_of (v.List vs) ≡ highest (map height_of vs) + 1
unfolding height_of
height_of-List vs = ap (fold-Value ℕ height_layer) (sym (v.rolls-List vs)) ∙ fold-roll-Value ℕ height_layer (Value-F.List vs)

pub ruleset height_readings = (height_of-Number, height_of-Expr, height_of-Form, height_of-Element, height_of-Function, height_of-Cell, height_of-Index, height_of-Measure, height_of-Text, height_of-Tuple, height_of-List)

pub tuple_of-Number : (c : Ratio) → tuple_of (v.Number c) ≡ None
tuple_of-Number c = ap tuple_of (sym (v.rolls-Number c)) ∙ ap tuple_in (out-roll-Value (Value-F.Number c))

pub tuple_of-Expr : (e : Tree) → tuple_of (v.Expr e) ≡ None
tuple_of-Expr e = ap tuple_of (sym (v.rolls-Expr e)) ∙ ap tuple_in (out-roll-Value (Value-F.Expr e))

pub tuple_of-Form : (f : FormTree) → tuple_of (v.Form f) ≡ None
tuple_of-Form f = ap tuple_of (sym (v.rolls-Form f)) ∙ ap tuple_in (out-roll-Value (Value-F.Form f))

pub tuple_of-Element : (e : ElementTree) → tuple_of (v.Element e) ≡ None
tuple_of-Element e = ap tuple_of (sym (v.rolls-Element e)) ∙ ap tuple_in (out-roll-Value (Value-F.Element e))

pub tuple_of-Function : (f : Word) → tuple_of (v.Function f) ≡ None
tuple_of-Function f = ap tuple_of (sym (v.rolls-Function f)) ∙ ap tuple_in (out-roll-Value (Value-F.Function f))

pub tuple_of-Cell : (c : Cell) → tuple_of (v.Cell c) ≡ None
tuple_of-Cell c = ap tuple_of (sym (v.rolls-Cell c)) ∙ ap tuple_in (out-roll-Value (Value-F.Cell c))

pub tuple_of-Index : (n : ℕ) → tuple_of (v.Index n) ≡ None
tuple_of-Index n = ap tuple_of (sym (v.rolls-Index n)) ∙ ap tuple_in (out-roll-Value (Value-F.Index n))

pub tuple_of-Measure : (o : On) → tuple_of (v.Measure o) ≡ None
tuple_of-Measure o = ap tuple_of (sym (v.rolls-Measure o)) ∙ ap tuple_in (out-roll-Value (Value-F.Measure o))

pub tuple_of-Text : (f : Option Family) (c : Option Cell) → tuple_of (v.Text f c) ≡ None
tuple_of-Text f c = ap tuple_of (sym (v.rolls-Text f c)) ∙ ap tuple_in (out-roll-Value (Value-F.Text f c))

pub tuple_of-Tuple : (vs : List Value) → tuple_of (v.Tuple vs) ≡ Some vs
tuple_of-Tuple vs = ap tuple_of (sym (v.rolls-Tuple vs)) ∙ ap tuple_in (out-roll-Value (Value-F.Tuple vs))

pub tuple_of-List : (vs : List Value) → tuple_of (v.List vs) ≡ None
tuple_of-List vs = ap tuple_of (sym (v.rolls-List vs)) ∙ ap tuple_in (out-roll-Value (Value-F.List vs))

pub ruleset tuple_readings = (tuple_of-Number, tuple_of-Expr, tuple_of-Form, tuple_of-Element, tuple_of-Function, tuple_of-Cell, tuple_of-Index, tuple_of-Measure, tuple_of-Text, tuple_of-Tuple, tuple_of-List)

pub list_of-Number : (c : Ratio) → list_of (v.Number c) ≡ None
list_of-Number c = ap list_of (sym (v.rolls-Number c)) ∙ ap list_in (out-roll-Value (Value-F.Number c))

pub list_of-Expr : (e : Tree) → list_of (v.Expr e) ≡ None
list_of-Expr e = ap list_of (sym (v.rolls-Expr e)) ∙ ap list_in (out-roll-Value (Value-F.Expr e))

pub list_of-Form : (f : FormTree) → list_of (v.Form f) ≡ None
list_of-Form f = ap list_of (sym (v.rolls-Form f)) ∙ ap list_in (out-roll-Value (Value-F.Form f))

pub list_of-Element : (e : ElementTree) → list_of (v.Element e) ≡ None
list_of-Element e = ap list_of (sym (v.rolls-Element e)) ∙ ap list_in (out-roll-Value (Value-F.Element e))

pub list_of-Function : (f : Word) → list_of (v.Function f) ≡ None
list_of-Function f = ap list_of (sym (v.rolls-Function f)) ∙ ap list_in (out-roll-Value (Value-F.Function f))

pub list_of-Cell : (c : Cell) → list_of (v.Cell c) ≡ None
list_of-Cell c = ap list_of (sym (v.rolls-Cell c)) ∙ ap list_in (out-roll-Value (Value-F.Cell c))

pub list_of-Index : (n : ℕ) → list_of (v.Index n) ≡ None
list_of-Index n = ap list_of (sym (v.rolls-Index n)) ∙ ap list_in (out-roll-Value (Value-F.Index n))

pub list_of-Measure : (o : On) → list_of (v.Measure o) ≡ None
list_of-Measure o = ap list_of (sym (v.rolls-Measure o)) ∙ ap list_in (out-roll-Value (Value-F.Measure o))

pub list_of-Text : (f : Option Family) (c : Option Cell) → list_of (v.Text f c) ≡ None
list_of-Text f c = ap list_of (sym (v.rolls-Text f c)) ∙ ap list_in (out-roll-Value (Value-F.Text f c))

pub list_of-Tuple : (vs : List Value) → list_of (v.Tuple vs) ≡ None
list_of-Tuple vs = ap list_of (sym (v.rolls-Tuple vs)) ∙ ap list_in (out-roll-Value (Value-F.Tuple vs))

pub list_of-List : (vs : List Value) → list_of (v.List vs) ≡ Some vs
list_of-List vs = ap list_of (sym (v.rolls-List vs)) ∙ ap list_in (out-roll-Value (Value-F.List vs))

pub ruleset list_readings = (list_of-Number, list_of-Expr, list_of-Form, list_of-Element, list_of-Function, list_of-Cell, list_of-Index, list_of-Measure, list_of-Text, list_of-Tuple, list_of-List)
