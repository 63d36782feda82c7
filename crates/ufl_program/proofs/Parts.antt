-- The expressions and forms in a value
use Rattle.std.proofs.Common.{◌≡◌, ℕ, List, [], ◌∷◌, ◌++◌, map, Option, sym, ap, ◌∙◌, subst, nat_lt, Bool, true, false, if◌then◌else◌}
use Rattle.std.specs.Prelude.{IfSome}
use Rattle.ratio.specs.declared.reduced.Ratio.{Ratio}
use Rattle.spaces.specs.declared.cell.Cell.{Cell}
use Rattle.spaces.specs.declared.family.Family.{Family}
use Rattle.spaces.specs.declared.element_tree.ElementTree.{ElementTree}
use Rattle.ufl_tree.specs.declared.function.On.{On}
use Rattle.ufl_tree.specs.declared.function.On.TheVariants as on
use Rattle.ufl_tree.specs.declared.tree.Tree.{Tree}
use Rattle.ufl_tree.specs.Places.{Table}
use Rattle.ufl_form.specs.declared.form_tree.FormTree.{FormTree}
use Rattle.ufl_values.specs.declared.words.Word.{Word}
use Rattle.ufl_values.specs.declared.value.Value.{Value, Value-F, fold-Value, fold-roll-Value, out-Value, roll-Value, roll-out-Value}
use Rattle.ufl_values.specs.declared.value.Value.TheVariants as v
use Rattle.ufl_values.specs.Values.{tuple_in, tuple_of, list_in, list_of, nodes_of, light}
use Rattle.ufl_program.specs.Sound.{SoundTree, SoundForm}
use Rattle.ufl_program.proofs.TreeLaws.{tree_longer}
use Rattle.ufl_program.proofs.FormLaws.{form_longer}

pub data Part : Type 0 where
  expression : Tree → Part
  form : FormTree → Part

abbrev pub joined : List (List Part) → List Part
joined [] = []
joined (ps ∷ rest) = ps ++ joined rest

abbrev pub parts_layer : Value-F (List Part) → List Part
parts_layer (Value-F.Expr t) = expression t ∷ []
parts_layer (Value-F.Form t) = form t ∷ []
parts_layer (Value-F.Tuple ps) = joined ps
parts_layer (Value-F.List ps) = joined ps
parts_layer _ = []

unfoldable pub parts_of : Value → List Part
parts_of = fold-Value (List Part) parts_layer

parts_of-Number : (c : Ratio) → parts_of (v.Number c) ≡ []
unfolding parts_of
parts_of-Number c = ap (fold-Value (List Part) parts_layer) (sym (v.rolls-Number c)) ∙ fold-roll-Value (List Part) parts_layer (Value-F.Number c)

parts_of-Expr : (t : Tree) → parts_of (v.Expr t) ≡ expression t ∷ []
unfolding parts_of
parts_of-Expr t = ap (fold-Value (List Part) parts_layer) (sym (v.rolls-Expr t)) ∙ fold-roll-Value (List Part) parts_layer (Value-F.Expr t)

parts_of-Form : (t : FormTree) → parts_of (v.Form t) ≡ form t ∷ []
unfolding parts_of
parts_of-Form t = ap (fold-Value (List Part) parts_layer) (sym (v.rolls-Form t)) ∙ fold-roll-Value (List Part) parts_layer (Value-F.Form t)

parts_of-Element : (e : ElementTree) → parts_of (v.Element e) ≡ []
unfolding parts_of
parts_of-Element e = ap (fold-Value (List Part) parts_layer) (sym (v.rolls-Element e)) ∙ fold-roll-Value (List Part) parts_layer (Value-F.Element e)

parts_of-Function : (w : Word) → parts_of (v.Function w) ≡ []
unfolding parts_of
parts_of-Function w = ap (fold-Value (List Part) parts_layer) (sym (v.rolls-Function w)) ∙ fold-roll-Value (List Part) parts_layer (Value-F.Function w)

parts_of-Cell : (c : Cell) → parts_of (v.Cell c) ≡ []
unfolding parts_of
parts_of-Cell c = ap (fold-Value (List Part) parts_layer) (sym (v.rolls-Cell c)) ∙ fold-roll-Value (List Part) parts_layer (Value-F.Cell c)

parts_of-Index : (k : ℕ) → parts_of (v.Index k) ≡ []
unfolding parts_of
parts_of-Index k = ap (fold-Value (List Part) parts_layer) (sym (v.rolls-Index k)) ∙ fold-roll-Value (List Part) parts_layer (Value-F.Index k)

parts_of-Measure : (o : On) → parts_of (v.Measure o) ≡ []
unfolding parts_of
parts_of-Measure o = ap (fold-Value (List Part) parts_layer) (sym (v.rolls-Measure o)) ∙ fold-roll-Value (List Part) parts_layer (Value-F.Measure o)

parts_of-Text : (f : Option Family) (c : Option Cell) → parts_of (v.Text f c) ≡ []
unfolding parts_of
parts_of-Text f c = ap (fold-Value (List Part) parts_layer) (sym (v.rolls-Text f c)) ∙ fold-roll-Value (List Part) parts_layer (Value-F.Text f c)

parts_of-Tuple : (vs : List Value) → parts_of (v.Tuple vs) ≡ joined (map parts_of vs)
unfolding parts_of
parts_of-Tuple vs = ap (fold-Value (List Part) parts_layer) (sym (v.rolls-Tuple vs)) ∙ fold-roll-Value (List Part) parts_layer (Value-F.Tuple vs)

parts_of-List : (vs : List Value) → parts_of (v.List vs) ≡ joined (map parts_of vs)
unfolding parts_of
parts_of-List vs = ap (fold-Value (List Part) parts_layer) (sym (v.rolls-List vs)) ∙ fold-roll-Value (List Part) parts_layer (Value-F.List vs)

-- ---- sound parts
abbrev pub SoundPart : Table → List ℕ → Part → Type 0
SoundPart table numbers (expression t) = SoundTree table numbers t
SoundPart table numbers (form t) = SoundForm table numbers t

abbrev pub SoundParts : Table → List ℕ → List Part → Type 0
SoundParts table numbers [] = Unit {0}
SoundParts table numbers (p ∷ ps) = SoundPart table numbers p × SoundParts table numbers ps

abbrev pub SoundValue : Table → List ℕ → Value → Type 0
SoundValue table numbers a = SoundParts table numbers (parts_of a)

abbrev pub SoundValues : Table → List ℕ → List Value → Type 0
SoundValues table numbers [] = Unit {0}
SoundValues table numbers (a ∷ others) = SoundValue table numbers a × SoundValues table numbers others

both : (table : Table) (numbers : List ℕ) (ps qs : List Part) → SoundParts table numbers ps → SoundParts table numbers qs → SoundParts table numbers (ps ++ qs)
both table numbers [] qs h g = g
both table numbers (p ∷ ps) qs h g = (h.0, both table numbers ps qs h.1 g)

first : (table : Table) (numbers : List ℕ) (ps qs : List Part) → SoundParts table numbers (ps ++ qs) → SoundParts table numbers ps
first table numbers [] qs h = tt
first table numbers (p ∷ ps) qs h = (h.0, first table numbers ps qs h.1)

second : (table : Table) (numbers : List ℕ) (ps qs : List Part) → SoundParts table numbers (ps ++ qs) → SoundParts table numbers qs
second table numbers [] qs h = h
second table numbers (p ∷ ps) qs h = second table numbers ps qs h.1

part_longer : (table more : Table) (numbers others : List ℕ) (p : Part) → SoundPart table numbers p → SoundPart (table ++ more) (numbers ++ others) p
part_longer table more numbers others (expression t) h = tree_longer table more numbers others t h
part_longer table more numbers others (form t) h = form_longer table more numbers others t h

parts_longer : (table more : Table) (numbers others : List ℕ) (ps : List Part) → SoundParts table numbers ps → SoundParts (table ++ more) (numbers ++ others) ps
parts_longer table more numbers others [] h = tt
parts_longer table more numbers others (p ∷ ps) h = (part_longer table more numbers others p h.0, parts_longer table more numbers others ps h.1)

pub value_longer : (table more : Table) (numbers others : List ℕ) (a : Value) → SoundValue table numbers a → SoundValue (table ++ more) (numbers ++ others) a
value_longer table more numbers others a h = parts_longer table more numbers others (parts_of a) h

module _ (table : Table) (numbers : List ℕ) where
  abbrev V : Value → Type 0
  V = SoundValue table numbers

  empty : (a : Value) → parts_of a ≡ [] → V a
  empty a e = subst (SoundParts table numbers) (sym e) tt

  pub of_number : (c : Ratio) → V (v.Number c)
  of_number c = empty (v.Number c) (parts_of-Number c)

  pub of_element : (e : ElementTree) → V (v.Element e)
  of_element e = empty (v.Element e) (parts_of-Element e)

  pub of_function : (w : Word) → V (v.Function w)
  of_function w = empty (v.Function w) (parts_of-Function w)

  pub of_cell : (c : Cell) → V (v.Cell c)
  of_cell c = empty (v.Cell c) (parts_of-Cell c)

  pub of_index : (k : ℕ) → V (v.Index k)
  of_index k = empty (v.Index k) (parts_of-Index k)

  pub of_measure : (o : On) → V (v.Measure o)
  of_measure o = empty (v.Measure o) (parts_of-Measure o)

  pub of_text : (f : Option Family) (c : Option Cell) → V (v.Text f c)
  of_text f c = empty (v.Text f c) (parts_of-Text f c)

  pub of_expression : (t : Tree) → SoundTree table numbers t → V (v.Expr t)
  of_expression t h = subst (SoundParts table numbers) (sym (parts_of-Expr t)) (h, tt)

  pub in_expression : (t : Tree) → V (v.Expr t) → SoundTree table numbers t
  in_expression t h = (subst (SoundParts table numbers) (parts_of-Expr t) h).0

  pub of_form : (t : FormTree) → SoundForm table numbers t → V (v.Form t)
  of_form t h = subst (SoundParts table numbers) (sym (parts_of-Form t)) (h, tt)

  pub in_form : (t : FormTree) → V (v.Form t) → SoundForm table numbers t
  in_form t h = (subst (SoundParts table numbers) (parts_of-Form t) h).0

  into : (vs : List Value) → SoundValues table numbers vs → SoundParts table numbers (joined (map parts_of vs))
  into [] h = tt
  into (a ∷ vs) h = both table numbers (parts_of a) (joined (map parts_of vs)) h.0 (into vs h.1)

  out : (vs : List Value) → SoundParts table numbers (joined (map parts_of vs)) → SoundValues table numbers vs
  out [] h = tt
  out (a ∷ vs) h = (first table numbers (parts_of a) (joined (map parts_of vs)) h, out vs (second table numbers (parts_of a) (joined (map parts_of vs)) h))

  pub of_tuple : (vs : List Value) → SoundValues table numbers vs → V (v.Tuple vs)
  of_tuple vs h = subst (SoundParts table numbers) (sym (parts_of-Tuple vs)) (into vs h)

  pub of_list : (vs : List Value) → SoundValues table numbers vs → V (v.List vs)
  of_list vs h = subst (SoundParts table numbers) (sym (parts_of-List vs)) (into vs h)

  pub in_list : (vs : List Value) → V (v.List vs) → SoundValues table numbers vs
  in_list vs h = out vs (subst (SoundParts table numbers) (parts_of-List vs) h)

  tuple_layer : (l : Value-F Value) → V (roll-Value l) → IfSome (tuple_in l) (SoundValues table numbers)
  tuple_layer (Value-F.Tuple vs) h = out vs (subst (SoundParts table numbers) (ap parts_of (v.rolls-Tuple vs) ∙ parts_of-Tuple vs) h)
  tuple_layer (Value-F.List vs) h = tt
  tuple_layer (Value-F.Number c) h = tt
  tuple_layer (Value-F.Expr t) h = tt
  tuple_layer (Value-F.Form t) h = tt
  tuple_layer (Value-F.Element e) h = tt
  tuple_layer (Value-F.Function w) h = tt
  tuple_layer (Value-F.Cell c) h = tt
  tuple_layer (Value-F.Index k) h = tt
  tuple_layer (Value-F.Measure o) h = tt
  tuple_layer (Value-F.Text f c) h = tt

  list_layer : (l : Value-F Value) → V (roll-Value l) → IfSome (list_in l) (SoundValues table numbers)
  list_layer (Value-F.List vs) h = out vs (subst (SoundParts table numbers) (ap parts_of (v.rolls-List vs) ∙ parts_of-List vs) h)
  list_layer (Value-F.Tuple vs) h = tt
  list_layer (Value-F.Number c) h = tt
  list_layer (Value-F.Expr t) h = tt
  list_layer (Value-F.Form t) h = tt
  list_layer (Value-F.Element e) h = tt
  list_layer (Value-F.Function w) h = tt
  list_layer (Value-F.Cell c) h = tt
  list_layer (Value-F.Index k) h = tt
  list_layer (Value-F.Measure o) h = tt
  list_layer (Value-F.Text f c) h = tt

  pub tuple_items : (a : Value) → V a → IfSome (tuple_of a) (SoundValues table numbers)
  tuple_items a h = tuple_layer (out-Value a) (subst V (sym (roll-out-Value a)) h)

  pub list_items : (a : Value) → V a → IfSome (list_of a) (SoundValues table numbers)
  list_items a h = list_layer (out-Value a) (subst V (sym (roll-out-Value a)) h)

  light_by : (b : Bool) (a : Value) → V a → V (if b then v.Measure on.All else a)
  light_by true a h = of_measure on.All
  light_by false a h = h

  pub of_light : (a : Value) (most : ℕ) → V a → V (light a most)
  unfolding light
  of_light a most h = light_by (nat_lt most (nodes_of a)) a h
