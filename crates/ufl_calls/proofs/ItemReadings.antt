-- The equations of `item_of`, one for each variant
use Rattle.std.proofs.Common.{◌≡◌, ℕ, List, map, Option, None, Some, Ok, sym, ap, ◌∙◌}
use Rattle.ratio.specs.declared.reduced.Ratio.{Ratio}
use Rattle.spaces.specs.declared.cell.Cell.{Cell}
use Rattle.spaces.specs.declared.family.Family.{Family}
use Rattle.spaces.specs.declared.element_tree.ElementTree.{ElementTree}
use Rattle.ufl_tree.specs.declared.function.On.{On}
use Rattle.ufl_tree.specs.declared.tree.Tree.{Tree}
use Rattle.ufl_form.specs.declared.form_tree.FormTree.{FormTree}
use Rattle.ufl_values.specs.declared.words.Word.{Word}
use Rattle.ufl_values.specs.declared.value.Value.{Value, Value-F, fold-Value, fold-roll-Value}
use Rattle.ufl_values.specs.declared.value.Value.TheVariants as v
use Rattle.ufl_values.specs.Values.{expression_of}
use Rattle.ufl_calls.specs.Tensors.{Item, item_of, item_layer, list_of_items}

pub item_of-Number : (c : Ratio) → item_of (v.Number c) ≡ Some (expression_of (v.Number c))
unfolding item_of
item_of-Number c = ap (fold-Value Item item_layer) (sym (v.rolls-Number c)) ∙ fold-roll-Value Item item_layer (Value-F.Number c)

pub item_of-Expr : (e : Tree) → item_of (v.Expr e) ≡ Some (Ok e)
unfolding item_of
item_of-Expr e = ap (fold-Value Item item_layer) (sym (v.rolls-Expr e)) ∙ fold-roll-Value Item item_layer (Value-F.Expr e)

pub item_of-Form : (f : FormTree) → item_of (v.Form f) ≡ None
unfolding item_of
item_of-Form f = ap (fold-Value Item item_layer) (sym (v.rolls-Form f)) ∙ fold-roll-Value Item item_layer (Value-F.Form f)

pub item_of-Element : (e : ElementTree) → item_of (v.Element e) ≡ None
unfolding item_of
item_of-Element e = ap (fold-Value Item item_layer) (sym (v.rolls-Element e)) ∙ fold-roll-Value Item item_layer (Value-F.Element e)

pub item_of-Function : (f : Word) → item_of (v.Function f) ≡ None
unfolding item_of
item_of-Function f = ap (fold-Value Item item_layer) (sym (v.rolls-Function f)) ∙ fold-roll-Value Item item_layer (Value-F.Function f)

pub item_of-Cell : (c : Cell) → item_of (v.Cell c) ≡ None
unfolding item_of
item_of-Cell c = ap (fold-Value Item item_layer) (sym (v.rolls-Cell c)) ∙ fold-roll-Value Item item_layer (Value-F.Cell c)

pub item_of-Index : (n : ℕ) → item_of (v.Index n) ≡ None
unfolding item_of
item_of-Index n = ap (fold-Value Item item_layer) (sym (v.rolls-Index n)) ∙ fold-roll-Value Item item_layer (Value-F.Index n)

pub item_of-Measure : (o : On) → item_of (v.Measure o) ≡ None
unfolding item_of
item_of-Measure o = ap (fold-Value Item item_layer) (sym (v.rolls-Measure o)) ∙ fold-roll-Value Item item_layer (Value-F.Measure o)

pub item_of-Text : (f : Option Family) (c : Option Cell) → item_of (v.Text f c) ≡ None
unfolding item_of
item_of-Text f c = ap (fold-Value Item item_layer) (sym (v.rolls-Text f c)) ∙ fold-roll-Value Item item_layer (Value-F.Text f c)

pub item_of-Tuple : (vs : List Value) → item_of (v.Tuple vs) ≡ None
unfolding item_of
item_of-Tuple vs = ap (fold-Value Item item_layer) (sym (v.rolls-Tuple vs)) ∙ fold-roll-Value Item item_layer (Value-F.Tuple vs)

pub item_of-List : (vs : List Value) → item_of (v.List vs) ≡ Some (list_of_items None (map item_of vs))
unfolding item_of
item_of-List vs = ap (fold-Value Item item_layer) (sym (v.rolls-List vs)) ∙ fold-roll-Value Item item_layer (Value-F.List vs)

pub ruleset item_readings = (item_of-Number, item_of-Expr, item_of-Form, item_of-Element, item_of-Function, item_of-Cell, item_of-Index, item_of-Measure, item_of-Text, item_of-Tuple, item_of-List)
