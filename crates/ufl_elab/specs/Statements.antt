-- Statements: each takes the names and what is made to the names and what is made then
use Rattle.std.specs.Prelude.{ℕ, ◌==◌, if◌then◌else◌, Bool, true, false, List, [], ◌∷◌, length, Option, None, Some, Result, Ok, Err}
use Rattle.ufl_syntax.specs.declared.span.Span.{Span}
use Rattle.ufl_syntax.specs.Spans.{word_at}
use Rattle.ufl_syntax.specs.declared.tree.AssignOp.{AssignOp}
use Rattle.ufl_syntax.specs.declared.tree.AssignOp.TheVariants as o
use Rattle.ufl_syntax.specs.declared.tree.Stmt.{Stmt}
use Rattle.ufl_syntax.specs.declared.tree.Syn.{Syn}
use Rattle.ufl_read.specs.declared.refusal.FormRefusal.{FormRefusal}
use Rattle.ufl_values.specs.declared.refusal.Reason.{Reason}
use Rattle.ufl_values.specs.declared.refusal.Reason.TheVariants as r
use Rattle.ufl_values.specs.declared.value.Value.{Value}
use Rattle.ufl_values.specs.declared.words.Sign.{Sign}
use Rattle.ufl_values.specs.declared.words.Sign.TheVariants as s
use Rattle.ufl_values.specs.Refused.{placed}
use Rattle.ufl_values.specs.Answer.{and_then}
use Rattle.ufl_values.specs.Values.{list_of, tuple_of}
use Rattle.ufl_values.specs.Operators.{binary_of}
use Rattle.ufl_calls.specs.declared.made.Made.{Made}
use Rattle.ufl_calls.specs.Made.{nothing, unmade}
use Rattle.ufl_calls.specs.Calls.{Refusable, at_word}
use Rattle.ufl_elab.specs.Names.{Name, bound_by, assign, value_in, limited}
use Rattle.ufl_elab.specs.Evaluation.{Place, step, worth, eval_of}

-- what a file has come to
pub record State : Type 0 where
  pub names : List Name
  pub made : Made

abbrev pub start : State
start = record { names = []; made = nothing }

abbrev pub After : Type 0
After = Result State FormRefusal

-- ---- the value of a statement
abbrev pub value_of : Place → Syn → Made → Refusable Value
value_of p written m = worth p.line (eval_of p written m)

-- the old value of the target comes first
abbrev pub updated : Place → Sign → Span → Syn → Made → Refusable Value
updated p sign target written m =
    step (at_word p.line target (unmade (value_in p.names (word_at p.file target)) m)) (λ old m1.
    step (value_of p written m1) (λ change m2. at_word p.line target (unmade (binary_of sign old change) m2)))

abbrev pub assigned : Place → AssignOp → Span → Syn → Made → Refusable Value
assigned p o.Plus target written m = updated p s.Plus target written m
assigned p o.Minus target written m = updated p s.Minus target written m
assigned p _ target written m = value_of p written m

-- ---- its targets
abbrev pub items_by : Option (List Value) → Option (List Value) → Result (List Value) Reason
items_by (Some items) other = Ok items
items_by None (Some items) = Ok items
items_by None None = Err r.Kind

-- the items of a tuple or a list
abbrev pub items_of : Value → Result (List Value) Reason
items_of a = items_by (tuple_of a) (list_of a)

abbrev pub counted : ℕ → List Value → Result (List Value) Reason
counted count items = if length items == count then Ok items else Err r.Kind

-- the items of a tuple or a list of so many
abbrev pub counted_items : ℕ → Value → Result (List Value) Reason
counted_items count a = and_then (items_of a) (counted count)

-- each target is bound to its item, in order
abbrev pub bind_each : List ℕ → ℕ → List Span → List Value → List Name → List Name
bind_each file line (target ∷ targets) (a ∷ items) names =
    bind_each file line targets items (assign names (word_at file target) (bound_by target line a))
bind_each file line _ _ names = names

abbrev pub bound : List ℕ → Bool → ℕ → Span → List Span → Value → List Name → Result (List Name) Reason
bound file false line first targets a names = Ok (assign names (word_at file first) (bound_by first line a))
bound file true line first targets a names =
    and_then (counted_items (length targets) a) (λ items. Ok (bind_each file line targets items names))

-- the word of these refusals is the first target
abbrev pub named : List ℕ → Stmt → Span → Value → List Name → Result (List Name) FormRefusal
named file st first a names =
    placed (and_then (bound file st.unpack st.line first st.targets a names) limited) st.line first

-- ---- a statement
abbrev pub with_names : Result (List Name) FormRefusal → Made → After
with_names (Err e) m = Err e
with_names (Ok names) m = Ok (record { names = names; made = m })

abbrev pub bound_after : List ℕ → Stmt → Span → Refusable Value → List Name → After
bound_after file st first (Err e) names = Err e
bound_after file st first (Ok p) names = with_names (named file st first p.0 names) p.1

abbrev pub place : List ℕ → Stmt → State → Place
place file st state = record { file = file; names = state.names; line = st.line }

-- an import does nothing
abbrev pub assignment : List ℕ → Stmt → List Span → Option Syn → State → After
assignment file st (first ∷ others) (Some written) state =
    bound_after file st first (assigned (place file st state) st.op first written state.made) state.names
assignment file st targets written state = Ok state

unfoldable pub statement : List ℕ → Stmt → State → After
statement file st state = assignment file st st.targets st.value state

-- ---- all statements, in order
abbrev pub further : After → (State → After) → After
further (Err e) next = Err e
further (Ok state) next = next state

abbrev pub statements : List ℕ → List Stmt → State → After
statements file [] state = Ok state
statements file (st ∷ sts) state = further (statement file st state) (λ next. statements file sts next)
