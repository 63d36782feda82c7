-- The word of each exported form is a target of a statement on its line, and no two have one name
use Rattle.std.proofs.Common.{◌≡◌, ◌≢◌, ℕ, List, [], ◌∷◌, ◌++◌, length, Bool, true, false, if◌then◌else◌, Option, None, Some, Result, Ok, Err, refl, sym, ◌∙◌, subst, append-nil, codes, arith}
use Rattle.std.specs.Prelude.{All, IfOk, IfSome}
use Rattle.std.specs.List.{AllByRecursion, Contains}
use Rattle.std.specs.Str.{bytes_eq}
use Rattle.std.proofs.lemmas.Bool.{true≢false}
use Rattle.std.proofs.lemmas.List.Elements.{All-contains_itself, All-get_or, All-nil, All-push, All-weaker, recursion_from_All}
use Rattle.std.proofs.lemmas.List.Quantifiers.{all_pairs_push}
use Rattle.std.proofs.lemmas.Slice.Eq.{bytes_eq-Decides}
use Rattle.ufl_syntax.specs.declared.span.Span.{Span}
use Rattle.ufl_syntax.specs.Spans.{word_at}
use Rattle.ufl_syntax.specs.declared.tree.Stmt.{Stmt}
use Rattle.ufl_syntax.specs.declared.tree.Syn.{Syn}
use Rattle.ufl_read.specs.declared.refusal.FormRefusal.{FormRefusal}
use Rattle.ufl_values.specs.declared.value.Value.{Value}
use Rattle.ufl_calls.specs.Calls.{Refusable}
use Rattle.ufl_elab.specs.declared.bound.Bound.{Bound}
use Rattle.ufl_elab.specs.declared.program.Named.{Named}
use Rattle.ufl_elab.specs.declared.program.UflProgram.{UflProgram}
use Rattle.ufl_elab.specs.Names.{Name, bound_by, assign, get}
use Rattle.ufl_elab.specs.Statements.{State, After, start, assigned, counted_items, bind_each, bound, bound_after, named, place, assignment, statement, statements}
use Rattle.ufl_elab.specs.Exports.{Exports, form_named, is_among, choice, name_in, chosen, optional, usual, last_exports, exported_by, exported}
use Rattle.ufl_elab.specs.Programs.{ended, program}
use Rattle.ufl_program.specs.Names.{word_of, name_of, IsTarget, AreTargets, DifferInName}
use Rattle.ufl_program.proofs.StepLaws.{Any, anything, then_keeps}
use Rattle.ufl_program.proofs.StatementLaws.{named_keep, with_names_keep, statements_keep, named_by_keeps, with_form_keeps, with_name_keeps, program_of_keeps}

same_name : (a b : List ℕ) → bytes_eq a b ≡ true → a ≡ b
same_name a b e = (bytes_eq-Decides a b).0 e

other_name : (a b : List ℕ) → bytes_eq a b ≡ false → a ≢ b
other_name a b e same = true≢false (sym ((bytes_eq-Decides a b).1 same) ∙ e)

abbrev span_of : Bound → Span
span_of b = record { from = b.from; len = b.len }

-- P holds of each target, with the line of its statement
module _ (file : List ℕ) (P : ℕ → Span → Type 0) where
  -- ---- names
  -- the target by which the name was bound last
  abbrev IsBound : List ℕ → Bound → Type 0
  IsBound name b = (word_at file (span_of b) ≡ name) × P b.line (span_of b)

  abbrev AreBound : List Name → Type 0
  AreBound = AllByRecursion (λ x. IsBound x.name x.bound)

  assigned_by : (t : Bool) (x : Name) (xs ys : List Name) (name : List ℕ) (b : Bound) → bytes_eq name x.name ≡ t → AreBound (x ∷ xs) → IsBound name b
      → AreBound ys → AreBound (if t then record { name = x.name; bound = b } ∷ xs else x ∷ ys)
  assigned_by true x xs ys name b e N B M = ((B.0 ∙ same_name name x.name e, B.1), N.1)
  assigned_by false x xs ys name b e N B M = (N.0, M)

  assign_keeps : (xs : List Name) (name : List ℕ) (b : Bound) → AreBound xs → IsBound name b → AreBound (assign xs name b)
  assign_keeps [] name b N B = (B, tt)
  assign_keeps (x ∷ xs) name b N B = assigned_by (bytes_eq name x.name) x xs (assign xs name b) name b refl N B (assign_keeps xs name b N.1 B)

  got_by : (t : Bool) (x : Name) (o : Option Bound) (name : List ℕ) → bytes_eq name x.name ≡ t → IsBound x.name x.bound → IfSome o (IsBound name)
      → IfSome (if t then Some x.bound else o) (IsBound name)
  got_by true x o name e B h = (B.0 ∙ sym (same_name name x.name e), B.1)
  got_by false x o name e B h = h

  get_keeps : (xs : List Name) (name : List ℕ) → AreBound xs → IfSome (get xs name) (IsBound name)
  get_keeps [] name N = tt
  get_keeps (x ∷ xs) name N = got_by (bytes_eq name x.name) x (get xs name) name refl N.0 (get_keeps xs name N.1)

  -- ---- statements
  each_keeps : (line : ℕ) (targets : List Span) (items : List Value) (xs : List Name) → AllByRecursion (P line) targets → AreBound xs
      → AreBound (bind_each file line targets items xs)
  each_keeps line [] items xs T N = N
  each_keeps line (target ∷ targets) [] xs T N = N
  each_keeps line (target ∷ targets) (a ∷ items) xs T N =
      each_keeps line targets items (assign xs (word_at file target) (bound_by target line a)) T.1
      (assign_keeps xs (word_at file target) (bound_by target line a) N (refl, T.0))

  bound_keeps : (unpack : Bool) (line : ℕ) (first : Span) (targets : List Span) (a : Value) (xs : List Name) → P line first → AllByRecursion (P line) targets
      → AreBound xs → IfOk (bound file unpack line first targets a xs) AreBound
  bound_keeps false line first targets a xs F T N = assign_keeps xs (word_at file first) (bound_by first line a) N (refl, F)
  bound_keeps true line first targets a xs F T N =
      then_keeps (counted_items (length targets) a) (λ items. Ok (bind_each file line targets items xs)) Any AreBound (anything _)
      (λ items k. each_keeps line targets items xs T N)

  abbrev BindsTargets : Stmt → Type 0
  BindsTargets st = AllByRecursion (P st.line) st.targets

  abbrev BoundIn : State → Type 0
  BoundIn state = AreBound state.names

  after_keeps : (st : Stmt) (first : Span) (r : Refusable Value) (xs : List Name) → P st.line first → BindsTargets st → AreBound xs
      → IfOk (bound_after file st first r xs) BoundIn
  after_keeps st first (Err e) xs F T N = tt
  after_keeps st first (Ok p) xs F T N =
      with_names_keep BoundIn (named file st first p.0 xs) p.1
      (named_keep AreBound file st first p.0 xs (bound_keeps st.unpack st.line first st.targets p.0 xs F T N))

  assignment_keeps : (st : Stmt) (targets : List Span) (written : Option Syn) (state : State) → AllByRecursion (P st.line) targets → BindsTargets st → BoundIn state
      → IfOk (assignment file st targets written state) BoundIn
  assignment_keeps st [] written state F T N = N
  assignment_keeps st (first ∷ others) None state F T N = N
  assignment_keeps st (first ∷ others) (Some written) state F T N =
      after_keeps st first (assigned (place file st state) st.op first written state.made) state.names F.0 T N

  statement_keeps : (st : Stmt) (state : State) → BindsTargets st → BoundIn state → IfOk (statement file st state) BoundIn
  unfolding statement
  statement_keeps st state T N = assignment_keeps st st.targets st.value state T T N

  -- ---- exported forms
  abbrev IsNamed : List ℕ → Named → Type 0
  IsNamed name n = (name_of file n ≡ name) × P n.line (word_of n)

  form_named_keeps : (xs : List Name) (name : List ℕ) → AreBound xs → IfSome (form_named xs name) (IsNamed name)
  form_named_keeps xs name N = named_by_keeps (IsBound name) (IsNamed name) (get xs name) (get_keeps xs name N) (λ b t B e. B)

  -- the forms that are found, with their names
  record AreFound (before : List (List ℕ)) (found : List Named) : Type 0 where
    targets : All (λ n. P n.line (word_of n)) found
    distinct : DifferInName file found
    others : (name : List ℕ) → is_among name before ≡ false → All (λ n. name_of file n ≢ name) found

  not_among : (t r : Bool) → (if t then true else r) ≡ false → (t ≡ false) × (r ≡ false)
  not_among true r h = cc
  not_among false r h = (refl, h)

  nothing_found : AreFound [] []
  nothing_found = record {
    targets = All-nil (λ n. P n.line (word_of n));
    distinct = λ i j d h k. absurd (omega (arith, k));
    others = λ name h. All-nil (λ n. name_of file n ≢ name);
  }

  one_more : (before : List (List ℕ)) (found : List Named) (name : List ℕ) (n : Named) → AreFound before found → is_among name before ≡ false → IsNamed name n
      → AreFound (name ∷ before) (found ++ n ∷ [])
  one_more before found name n F new N = record {
    targets = All-push (λ m. P m.line (word_of m)) found n F.targets N.1;
    distinct = all_pairs_push (λ l m. name_of file l ≢ name_of file m) found n F.distinct
        (λ k d h same. All-get_or (λ m. name_of file m ≢ name) found k d h (F.others name new) (same ∙ N.0));
    others = λ other h.
        let p = not_among (bytes_eq name other) (is_among other before) h in
        All-push (λ m. name_of file m ≢ other) found n (F.others other p.1) (λ same. other_name name other p.0 (sym N.0 ∙ same));
  }

  skipped : (before : List (List ℕ)) (found : List Named) (name : List ℕ) → AreFound before found → AreFound (name ∷ before) found
  skipped before found name F = record {
    targets = F.targets;
    distinct = F.distinct;
    others = λ other h. F.others other (not_among (bytes_eq name other) (is_among other before) h).1;
  }

  maybe_more : (before : List (List ℕ)) (found : List Named) (name : List ℕ) (o : Option Named) → AreFound before found → is_among name before ≡ false
      → IfSome o (IsNamed name) → AreFound (name ∷ before) (found ++ optional o)
  maybe_more before found name None F new N = subst (AreFound (name ∷ before)) (sym (append-nil found)) (skipped before found name F)
  maybe_more before found name (Some n) F new N = one_more before found name n F new N

  abbrev HaveNames : List Named → Type 0
  HaveNames forms = All (λ n. P n.line (word_of n)) forms × DifferInName file forms

  usual_keep : (xs : List Name) → AreBound xs → HaveNames (usual xs)
  usual_keep xs N =
      let a = maybe_more [] [] (codes "a") (form_named xs (codes "a")) nothing_found refl (form_named_keeps xs (codes "a") N) in
      let l = maybe_more (codes "a" ∷ []) (optional (form_named xs (codes "a"))) (codes "L") (form_named xs (codes "L")) a refl (form_named_keeps xs (codes "L") N) in
      let m = maybe_more (codes "L" ∷ codes "a" ∷ []) (optional (form_named xs (codes "a")) ++ optional (form_named xs (codes "L"))) (codes "M") (form_named xs (codes "M")) l refl
      (form_named_keeps xs (codes "M") N) in
      (m.targets, m.distinct)

  chosen_by : (t : Bool) (name : List ℕ) (before : List (List ℕ)) (o : Option Named) → is_among name before ≡ t → IfSome o (IsNamed name)
      → IfSome (if t then None else o) (λ n. (is_among name before ≡ false) × IsNamed name n)
  chosen_by true name before o e h = tt
  chosen_by false name before None e h = tt
  chosen_by false name before (Some n) e h = (e, h)

  chosen_keep : (xs : List Name) (x : Exports) (before : List (List ℕ)) (found : List Named) (es : List Syn) → AreBound xs → AreFound before found
      → IfOk (chosen file xs x before found es) HaveNames
  chosen_keep xs x before found [] N F = (F.targets, F.distinct)
  chosen_keep xs x before found (e ∷ es) N F =
      with_name_keeps HaveNames x (name_in file e) _ (λ name.
      with_form_keeps HaveNames (λ n. (is_among name before ≡ false) × IsNamed name n) x (choice xs before name)
      (λ form. chosen file xs x (name ∷ before) (found ++ form ∷ []) es)
      (chosen_by (is_among name before) name before (form_named xs name) refl (form_named_keeps xs name N))
      (λ n c. chosen_keep xs x (name ∷ before) (found ++ n ∷ []) es N (one_more before found name n F c.0 c.1)))

  exported_by_keeps : (o : Option Exports) (xs : List Name) → AreBound xs → IfOk (exported_by file o xs) HaveNames
  exported_by_keeps None xs N = usual_keep xs N
  exported_by_keeps (Some x) xs N = chosen_keep xs x [] [] x.items N nothing_found

  exported_keep : (sts : List Stmt) (xs : List Name) → AreBound xs → IfOk (exported file sts xs) HaveNames
  unfolding exported
  exported_keep sts xs N = exported_by_keeps (last_exports file None sts) xs N

  -- ---- programs
  ended_keeps : (sts : List Stmt) (r : After) → IfOk r BoundIn → IfOk (ended file sts r) (λ p. HaveNames p.forms)
  ended_keeps sts (Ok state) N = program_of_keeps (λ p. HaveNames p.forms) state.made (exported file sts state.names) (exported_keep sts state.names N)
  ended_keeps sts (Err e) N = tt

  pub program_names : (sts : List Stmt) → AllByRecursion BindsTargets sts → IfOk (program file sts) (λ p. HaveNames p.forms)
  unfolding program
  program_names sts T = ended_keeps sts (statements file sts start) (statements_keep BoundIn BindsTargets file statement_keeps sts start T tt)

-- each target of statements is one of them
own_targets : (sts : List Stmt) → AllByRecursion (λ st. AllByRecursion (IsTarget sts st.line) st.targets) sts
own_targets sts =
    recursion_from_All _ sts
    (All-weaker (Contains sts) (λ st. AllByRecursion (IsTarget sts st.line) st.targets)
    (λ st among. recursion_from_All _ st.targets
    (All-weaker (Contains st.targets) (IsTarget sts st.line) (λ target in_it. (among.0, st, among.1, among.2, (refl, in_it))) st.targets
    (All-contains_itself st.targets)))
    sts (All-contains_itself sts))

both_of : (r : Result UflProgram FormRefusal) (Q R : UflProgram → Type 0) → IfOk r (λ p. Q p × R p) → IfOk r Q × IfOk r R
both_of (Ok p) Q R h = h
both_of (Err e) Q R h = (tt, tt)

pub exported_targets : (file : List ℕ) (sts : List Stmt)
    → IfOk (program file sts) (λ p. AreTargets sts p.forms) × IfOk (program file sts) (λ p. DifferInName file p.forms)
exported_targets file sts =
    both_of (program file sts) (λ p. AreTargets sts p.forms) (λ p. DifferInName file p.forms)
    (program_names file (IsTarget sts) sts (own_targets sts))
