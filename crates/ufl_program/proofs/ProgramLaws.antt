-- The exported forms of a program are sound
use Rattle.std.proofs.Common.{ℕ, ◌==◌, List, [], ◌∷◌, ◌++◌, length, Bool, true, false, if◌then◌else◌, Option, None, Some, Ok, Err, subst}
use Rattle.std.specs.Prelude.{IfOk, IfSome, codes}
use Rattle.std.specs.List.{AllByRecursion}
use Rattle.std.specs.Str.{bytes_eq}
use Rattle.ufl_syntax.specs.declared.span.Span.{Span}
use Rattle.ufl_syntax.specs.Spans.{word_at}
use Rattle.ufl_syntax.specs.declared.tree.AssignOp.{AssignOp}
use Rattle.ufl_syntax.specs.declared.tree.AssignOp.TheVariants as o
use Rattle.ufl_syntax.specs.declared.tree.Stmt.{Stmt}
use Rattle.ufl_syntax.specs.declared.tree.Syn.{Syn}
use Rattle.ufl_tree.specs.Places.{table_of}
use Rattle.ufl_values.specs.declared.refusal.Reason.{Reason}
use Rattle.ufl_values.specs.declared.refusal.Reason.TheVariants as r
use Rattle.ufl_values.specs.declared.value.Value.{Value}
use Rattle.ufl_values.specs.declared.value.Value.TheVariants as v
use Rattle.ufl_values.specs.declared.words.Sign.{Sign}
use Rattle.ufl_values.specs.declared.words.Sign.TheVariants as s
use Rattle.ufl_values.specs.Values.{tuple_of, list_of}
use Rattle.ufl_values.specs.Operators.{binary_of}
use Rattle.ufl_calls.specs.declared.made.Made.{Made}
use Rattle.ufl_calls.specs.Made.{unmade}
use Rattle.ufl_calls.specs.Calls.{Refusable, at_word}
use Rattle.ufl_elab.specs.declared.bound.Bound.{Bound}
use Rattle.ufl_elab.specs.declared.program.Named.{Named}
use Rattle.ufl_elab.specs.Names.{Name, bound_by, assign, get, value_in}
use Rattle.ufl_elab.specs.Evaluation.{Place, step, eval_of}
use Rattle.ufl_elab.specs.Statements.{State, After, start, value_of, updated, assigned, items_by, items_of, counted, counted_items, bind_each, bound, named, bound_after, place, assignment, statement, statements}
use Rattle.ufl_elab.specs.Exports.{Exports, form_named, is_among, choice, name_in, chosen, optional, usual, last_exports, exported_by, exported}
use Rattle.ufl_elab.specs.Programs.{ended, program}
use Rattle.ufl_program.specs.Sound.{AreSound, IsSound}
use Rattle.ufl_program.proofs.StepLaws.{Any, then_keeps}
use Rattle.ufl_program.proofs.StatementLaws.{named_keep, with_names_keep, statements_keep, named_by_keeps, with_form_keeps, with_name_keeps, program_of_keeps}
use Rattle.ufl_program.proofs.Parts.{in_form, tuple_items, list_items}
use Rattle.ufl_program.proofs.OperatorLaws.{binary_keeps}
use Rattle.ufl_program.proofs.MadeLaws.{Sound, AllSound, Makes, sound_still, unmade_keeps}
use Rattle.ufl_program.proofs.NameLaws.{at_word_keeps}
use Rattle.ufl_program.proofs.EvaluationLaws.{SoundNames, names_still, get_keeps, value_in_keeps, step_keeps, worth_keeps, evaluates}

-- ---- the value of a statement
value_keeps : (p : Place) (written : Syn) (m : Made) → SoundNames m p.names → IfOk (value_of p written m) (Makes Sound m)
value_keeps p written m N = worth_keeps p.line (eval_of p written m) m (evaluates p written m N)

updated_keeps : (p : Place) (sign : Sign) (target : Span) (written : Syn) (m : Made) → SoundNames m p.names
    → IfOk (updated p sign target written m) (Makes Sound m)
updated_keeps p sign target written m N =
    step_keeps (at_word p.line target (unmade (value_in p.names (word_at p.file target)) m))
    (λ old m1. step (value_of p written m1) (λ change m2. at_word p.line target (unmade (binary_of sign old change) m2))) m Sound Sound
    (at_word_keeps p.line target (unmade (value_in p.names (word_at p.file target)) m) (Makes Sound m)
    (unmade_keeps (value_in p.names (word_at p.file target)) m Sound (value_in_keeps m p.names (word_at p.file target) N)))
    (λ old n G A. step_keeps (value_of p written n) (λ change m2. at_word p.line target (unmade (binary_of sign old change) m2)) n Sound Sound
    (value_keeps p written n (names_still m n G p.names N))
    (λ change k H B. at_word_keeps p.line target (unmade (binary_of sign old change) k) (Makes Sound k)
    (unmade_keeps (binary_of sign old change) k Sound
    (binary_keeps (table_of k.elements) k.coefficients sign old change (sound_still n k H old A) B))))

assigned_keeps : (p : Place) (op : AssignOp) (target : Span) (written : Syn) (m : Made) → SoundNames m p.names
    → IfOk (assigned p op target written m) (Makes Sound m)
assigned_keeps p o.Plus target written m N = updated_keeps p s.Plus target written m N
assigned_keeps p o.Minus target written m N = updated_keeps p s.Minus target written m N
assigned_keeps p o.Set target written m N = value_keeps p written m N
assigned_keeps p o.ImportAll target written m N = value_keeps p written m N

-- ---- its targets
module _ (m : Made) where
  abbrev Names : List Name → Type 0
  Names = SoundNames m

  assign_by : (t : Bool) (x : Name) (xs ys : List Name) (b : Bound) → Names (x ∷ xs) → Sound m b.value → Names ys
      → Names (if t then record { name = x.name; bound = b } ∷ xs else x ∷ ys)
  assign_by true x xs ys b N B M = (B, N.1)
  assign_by false x xs ys b N B M = (N.0, M)

  assign_keeps : (xs : List Name) (name : List ℕ) (b : Bound) → Names xs → Sound m b.value → Names (assign xs name b)
  assign_keeps [] name b N B = (B, tt)
  assign_keeps (x ∷ xs) name b N B = assign_by (bytes_eq name x.name) x xs (assign xs name b) b N B (assign_keeps xs name b N.1 B)

  items_by_keeps : (a b : Option (List Value)) → IfSome a (AllSound m) → IfSome b (AllSound m) → IfOk (items_by a b) (AllSound m)
  items_by_keeps (Some items) other h g = h
  items_by_keeps None (Some items) h g = g
  items_by_keeps None None h g = tt

  items_keep : (a : Value) → Sound m a → IfOk (items_of a) (AllSound m)
  items_keep a h =
      items_by_keeps (tuple_of a) (list_of a) (tuple_items (table_of m.elements) m.coefficients a h) (list_items (table_of m.elements) m.coefficients a h)

  counted_by : (t : Bool) (items : List Value) → AllSound m items → IfOk {E = Reason} (if t then Ok items else Err r.Kind) (AllSound m)
  counted_by true items h = h
  counted_by false items h = tt

  counted_keep : (count : ℕ) (a : Value) → Sound m a → IfOk (counted_items count a) (AllSound m)
  counted_keep count a h =
      then_keeps (items_of a) (counted count) (AllSound m) (AllSound m) (items_keep a h) (λ items k. counted_by (length items == count) items k)

  each_keeps : (file : List ℕ) (line : ℕ) (targets : List Span) (items : List Value) (xs : List Name) → AllSound m items → Names xs
      → Names (bind_each file line targets items xs)
  each_keeps file line [] items xs h N = N
  each_keeps file line (target ∷ targets) [] xs h N = N
  each_keeps file line (target ∷ targets) (a ∷ items) xs h N =
      each_keeps file line targets items (assign xs (word_at file target) (bound_by target line a)) h.1
      (assign_keeps xs (word_at file target) (bound_by target line a) N h.0)

  bound_keeps : (file : List ℕ) (unpack : Bool) (line : ℕ) (first : Span) (targets : List Span) (a : Value) (xs : List Name) → Sound m a → Names xs
      → IfOk (bound file unpack line first targets a xs) Names
  bound_keeps file false line first targets a xs h N = assign_keeps xs (word_at file first) (bound_by first line a) N h
  bound_keeps file true line first targets a xs h N =
      then_keeps (counted_items (length targets) a) (λ items. Ok (bind_each file line targets items xs)) (AllSound m) Names
      (counted_keep (length targets) a h)
      (λ items k. each_keeps file line targets items xs k N)

  sound_named : (file : List ℕ) (st : Stmt) (first : Span) (a : Value) (xs : List Name) → Sound m a → Names xs → IfOk (named file st first a xs) Names
  sound_named file st first a xs h N = named_keep Names file st first a xs (bound_keeps file st.unpack st.line first st.targets a xs h N)

-- ---- statements
abbrev SoundState : State → Type 0
SoundState state = SoundNames state.made state.names

after_keeps : (file : List ℕ) (st : Stmt) (first : Span) (r : Refusable Value) (xs : List Name) (m : Made) → SoundNames m xs → IfOk r (Makes Sound m)
    → IfOk (bound_after file st first r xs) SoundState
after_keeps file st first (Err e) xs m N h = tt
after_keeps file st first (Ok p) xs m N h =
    with_names_keep SoundState (named file st first p.0 xs) p.1 (sound_named p.1 file st first p.0 xs h.1 (names_still m p.1 h.0 xs N))

assignment_keeps : (file : List ℕ) (st : Stmt) (targets : List Span) (written : Option Syn) (state : State) → SoundState state
    → IfOk (assignment file st targets written state) SoundState
assignment_keeps file st [] written state N = N
assignment_keeps file st (first ∷ others) None state N = N
assignment_keeps file st (first ∷ others) (Some written) state N =
    after_keeps file st first (assigned (place file st state) st.op first written state.made) state.names state.made N
    (assigned_keeps (place file st state) st.op first written state.made N)

statement_keeps : (file : List ℕ) (st : Stmt) (state : State) → SoundState state → IfOk (statement file st state) SoundState
unfolding statement
statement_keeps file st state N = assignment_keeps file st st.targets st.value state N

each_statement : (sts : List Stmt) → AllByRecursion Any sts
each_statement [] = tt
each_statement (st ∷ sts) = (tt, each_statement sts)

-- ---- exported forms
module _ (m : Made) where
  abbrev Form : Named → Type 0
  Form x = Sound m (v.Form x.form)

  abbrev Forms : List Named → Type 0
  Forms = AreSound (table_of m.elements) m.coefficients

  form_named_keeps : (xs : List Name) (name : List ℕ) → SoundNames m xs → IfSome (form_named xs name) Form
  form_named_keeps xs name N =
      named_by_keeps (λ b. Sound m b.value) Form (get xs name) (get_keeps m xs name N) (λ b t h e. subst (Sound m) e h)

  optional_keeps : (o : Option Named) → IfSome o Form → Forms (optional o)
  optional_keeps None h = tt
  optional_keeps (Some x) h = (in_form (table_of m.elements) m.coefficients x.form h, tt)

  joined : (xs ys : List Named) → Forms xs → Forms ys → Forms (xs ++ ys)
  joined [] ys h g = g
  joined (x ∷ xs) ys h g = (h.0, joined xs ys h.1 g)

  usual_keeps : (xs : List Name) → SoundNames m xs → Forms (usual xs)
  usual_keeps xs N =
      joined (optional (form_named xs (codes "a")) ++ optional (form_named xs (codes "L"))) (optional (form_named xs (codes "M")))
      (joined (optional (form_named xs (codes "a"))) (optional (form_named xs (codes "L")))
      (optional_keeps (form_named xs (codes "a")) (form_named_keeps xs (codes "a") N))
      (optional_keeps (form_named xs (codes "L")) (form_named_keeps xs (codes "L") N)))
      (optional_keeps (form_named xs (codes "M")) (form_named_keeps xs (codes "M") N))

  choice_by : (t : Bool) (o : Option Named) → IfSome o Form → IfSome (if t then None else o) Form
  choice_by true o h = tt
  choice_by false o h = h

  chosen_keep : (file : List ℕ) (xs : List Name) (x : Exports) (before : List (List ℕ)) (found : List Named) (es : List Syn) → SoundNames m xs → Forms found
      → IfOk (chosen file xs x before found es) Forms
  chosen_keep file xs x before found [] N h = h
  chosen_keep file xs x before found (e ∷ es) N h =
      with_name_keeps Forms x (name_in file e) _ (λ name.
      with_form_keeps Forms Form x (choice xs before name) (λ form. chosen file xs x (name ∷ before) (found ++ form ∷ []) es)
      (choice_by (is_among name before) (form_named xs name) (form_named_keeps xs name N))
      (λ u U. chosen_keep file xs x (name ∷ before) (found ++ u ∷ []) es N (joined found (u ∷ []) h (in_form (table_of m.elements) m.coefficients u.form U, tt))))

  exported_by_keeps : (file : List ℕ) (o : Option Exports) (xs : List Name) → SoundNames m xs → IfOk (exported_by file o xs) Forms
  exported_by_keeps file None xs N = usual_keeps xs N
  exported_by_keeps file (Some x) xs N = chosen_keep file xs x [] [] x.items N tt

  exported_keep : (file : List ℕ) (sts : List Stmt) (xs : List Name) → SoundNames m xs → IfOk (exported file sts xs) Forms
  unfolding exported
  exported_keep file sts xs N = exported_by_keeps file (last_exports file None sts) xs N

-- ---- programs
ended_keeps : (file : List ℕ) (sts : List Stmt) (r : After) → IfOk r SoundState → IfOk (ended file sts r) IsSound
ended_keeps file sts (Ok state) N = program_of_keeps IsSound state.made (exported file sts state.names) (exported_keep state.made file sts state.names N)
ended_keeps file sts (Err e) N = tt

pub program_sound : (file : List ℕ) (sts : List Stmt) → IfOk (program file sts) IsSound
unfolding program
program_sound file sts = ended_keeps file sts (statements file sts start) (statements_keep SoundState Any file (λ st state q h. statement_keeps file st state h) sts start (each_statement sts) tt)
