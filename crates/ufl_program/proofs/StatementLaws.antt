-- What holds of what is handed on holds behind it: through the statements of a file, and through the list that it exports
use Rattle.std.proofs.Common.{◌≡◌, ℕ, List, [], ◌∷◌, nat_lt, Bool, true, false, if◌then◌else◌, Option, None, Some, Result, Ok, Err, refl}
use Rattle.std.specs.Prelude.{IfOk, IfSome}
use Rattle.std.specs.List.{AllByRecursion}
use Rattle.ufl_syntax.specs.declared.span.Span.{Span}
use Rattle.ufl_syntax.specs.declared.tree.Stmt.{Stmt}
use Rattle.ufl_read.specs.declared.refusal.FormRefusal.{FormRefusal}
use Rattle.ufl_form.specs.declared.form_tree.FormTree.{FormTree}
use Rattle.ufl_values.specs.declared.refusal.Reason.{Reason}
use Rattle.ufl_values.specs.declared.refusal.Reason.TheVariants as r
use Rattle.ufl_values.specs.declared.value.Value.{Value, Tuple', List'}
use Rattle.ufl_values.specs.declared.value.Value.TheVariants as v
use Rattle.ufl_values.specs.Refused.{placed}
use Rattle.ufl_calls.specs.declared.made.Made.{Made}
use Rattle.ufl_elab.specs.declared.bound.Bound.{Bound}
use Rattle.ufl_elab.specs.declared.program.Named.{Named}
use Rattle.ufl_elab.specs.declared.program.UflProgram.{UflProgram}
use Rattle.ufl_elab.specs.Names.{Name, nodes_in, limited}
use Rattle.ufl_elab.specs.Statements.{State, After, bound, named, with_names, statement, further, statements}
use Rattle.ufl_elab.specs.Exports.{Exports, Chosen, form_bound, named_by, with_form, with_name}
use Rattle.ufl_elab.specs.Programs.{program_of}
use Rattle.ufl_program.proofs.StepLaws.{then_keeps}

-- ---- the names that a statement binds
module _ (P : List Name → Type 0) where
  limited_by : (t : Bool) (xs : List Name) → P xs → IfOk {E = Reason} (if t then Err r.Nodes else Ok xs) P
  limited_by true xs h = tt
  limited_by false xs h = h

  placed_keep : (r : Result (List Name) Reason) (line : ℕ) (word : Span) → IfOk r P → IfOk (placed r line word) P
  placed_keep (Ok xs) line word h = h
  placed_keep (Err e) line word h = tt

  pub named_keep : (file : List ℕ) (st : Stmt) (first : Span) (a : Value) (xs : List Name)
      → IfOk (bound file st.unpack st.line first st.targets a xs) P → IfOk (named file st first a xs) P
  named_keep file st first a xs h =
      placed_keep _ st.line first
      (then_keeps (bound file st.unpack st.line first st.targets a xs) limited P P h (λ ys k. limited_by (nat_lt 1000000 (nodes_in ys)) ys k))

pub with_names_keep : (P : State → Type 0) (r : Result (List Name) FormRefusal) (m : Made)
    → IfOk r (λ xs. P (record { names = xs; made = m })) → IfOk (with_names r m) P
with_names_keep P (Ok xs) m h = h
with_names_keep P (Err e) m h = tt

-- ---- statements
module _ (P : State → Type 0) where
  further_keeps : (r : After) (next : State → After) → IfOk r P → ((state : State) → P state → IfOk (next state) P) → IfOk (further r next) P
  further_keeps (Ok state) next h f = f state h
  further_keeps (Err e) next h f = tt

  pub statements_keep : (Q : Stmt → Type 0) (file : List ℕ) → ((st : Stmt) (state : State) → Q st → P state → IfOk (statement file st state) P)
      → (sts : List Stmt) (state : State) → AllByRecursion Q sts → P state → IfOk (statements file sts state) P
  statements_keep Q file f [] state q h = h
  statements_keep Q file f (st ∷ sts) state q h =
      further_keeps (statement file st state) (λ next. statements file sts next) (f st state q.0 h) (λ next k. statements_keep Q file f sts next q.1 k)

-- ---- what is exported
abbrev form_at : Bound → FormTree → Named
form_at b t = record { line = b.line; from = b.from; len = b.len; form = t }

form_bound_keeps : (Q : Named → Type 0) (b : Bound) (a : Value) → ((t : FormTree) → a ≡ v.Form t → Q (form_at b t)) → IfSome (form_bound b a) Q
form_bound_keeps Q b (v.Form t) h = h t refl
form_bound_keeps Q b (v.Expr t) h = tt
form_bound_keeps Q b (v.Number c) h = tt
form_bound_keeps Q b (v.Element u) h = tt
form_bound_keeps Q b (v.Function x) h = tt
form_bound_keeps Q b (v.Cell c) h = tt
form_bound_keeps Q b (v.Index k) h = tt
form_bound_keeps Q b (v.Measure o) h = tt
form_bound_keeps Q b (v.Text c d) h = tt
form_bound_keeps Q b (Tuple' c d) h = tt
form_bound_keeps Q b (List' c d) h = tt

pub named_by_keeps : (P : Bound → Type 0) (Q : Named → Type 0) (o : Option Bound) → IfSome o P
    → ((b : Bound) (t : FormTree) → P b → b.value ≡ v.Form t → Q (form_at b t)) → IfSome (named_by o) Q
named_by_keeps P Q None h f = tt
named_by_keeps P Q (Some b) h f = form_bound_keeps Q b b.value (λ t e. f b t h e)

module _ (Q : List Named → Type 0) where
  pub with_form_keeps : (P : Named → Type 0) (x : Exports) (o : Option Named) (next : Named → Chosen) → IfSome o P
      → ((u : Named) → P u → IfOk (next u) Q) → IfOk (with_form x o next) Q
  with_form_keeps P x None next h f = tt
  with_form_keeps P x (Some u) next h f = f u h

  pub with_name_keeps : (x : Exports) (o : Option (List ℕ)) (next : List ℕ → Chosen) → ((name : List ℕ) → IfOk (next name) Q)
      → IfOk (with_name x o next) Q
  with_name_keeps x None next f = tt
  with_name_keeps x (Some name) next f = f name

pub program_of_keeps : (P : UflProgram → Type 0) (m : Made) (r : Result (List Named) FormRefusal)
    → IfOk r (λ forms. P (record { elements = m.elements; coefficients = m.coefficients; forms = forms })) → IfOk (program_of m r) P
program_of_keeps P m (Ok forms) h = h
program_of_keeps P m (Err e) h = tt
