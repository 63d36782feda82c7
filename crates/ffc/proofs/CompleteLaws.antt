-- Where every input is accepted and nothing passes, no cause of a refusal holds
use Rattle.std.proofs.Common.{◌≡◌, ℕ, List, [], ◌∷◌, ◌++◌, Option, None, Some, Result, Ok, Err, refl, sym, ◌∙◌, ap, subst, inl, inr}
use Rattle.algebra.specs.Fraction.{Fraction}
use Rattle.ends.specs.Count.{Rises}
use Rattle.ends.specs.Held.{Held, bytes_of}
use Rattle.spaces.specs.Cell.{dimension}
use Rattle.spaces.specs.declared.cell.Cell.{Cell}
use Rattle.mesh_in.specs.MeshData.{MeshData}
use Rattle.mesh_in.specs.MeshText.{meaning}
use Rattle.mesh_in.specs.declared.refusal.MeshRefusal.{MeshRefusal}
use Rattle.monos.specs.declared.weight.Weight.{Weight}
use Rattle.weigh.specs.Weighing.{exact}
use Rattle.admit.specs.Admission.{admission}
use Rattle.ufl_tree.specs.Places.{table_of}
use Rattle.ufl_form.specs.declared.table.FormKind.{FormKind}
use Rattle.ufl_form.specs.Table.{form_kind}
use Rattle.ufl_read.specs.declared.refusal.FormRefusal.{FormRefusal}
use Rattle.ufl_elab.specs.declared.program.Named.{Named}
use Rattle.ufl_elab.specs.declared.program.UflProgram.{UflProgram}
use Rattle.form_files.specs.Admissions.{IsFileOf, admitted_program}
use Rattle.form_files.specs.Checks.{checked}
use Rattle.form_files.proofs.OutcomeLaws.{one_of}
use Rattle.form_assembly.proofs.CellRuns.{only_memory}
use Rattle.answers.specs.Outcome.{run_outcome}
use Rattle.answers.specs.declared.outcome.Outcome.{Outcome}
use Rattle.answers.specs.declared.outcome.Outcome.TheVariants.{Done, Usage, Form, NotYet, Mesh, Passed, ReadFault, WriteFault, Memory}
use Rattle.ffc.specs.Answer.{CanPrint, CanAssemble, CanAnswer, Compiles, Checks, Assembles, CheckCause, FormCause, HasCause, HoldFile, IsCaused, IsCheckText, IsComplete}
use Rattle.ffc.specs.Assemble.{RunCause, AssembleCause, HasForm}
use Rattle.ffc.specs.Forms.{CompileCause, IsNamed, NamedCause, NamedRefused, ProgramCause, form_named, occurring_of, problem_of, term_of}
use Rattle.ffc.specs.Inputs.{Loads, IsText, LoadCause, IsMeshText, HasMesh, MeshRefuses, MeshCause}
use Rattle.ffc.specs.Words.{HaveNoShape}

same_text : (files : List Held) (content : Option (List Held)) (name text other : List ℕ) → content ≡ Some files → bytes_of files name ≡ Some text → IsText content name other → other ≡ text
same_text files content name text other told held is = same (sym (subst (λ (k : Option (List Held)). IsText k name other) told is) ∙ held)
  where
    same : Some other ≡ Some text → other ≡ text
    same e = cc

load_accepted : (l : Loads) (file : ℕ) (name : List ℕ) (o : Outcome) → ¬ Rises l.before l.now → LoadCause l file name o → o ≡ Memory
load_accepted l file name o still (inl is) = is
load_accepted l file name o still (inr (is, rises, failed)) = absurd (still rises)

-- ---- a form file whose text is known
abbrev Said : Type 0
Said = Result UflProgram FormRefusal

ok_err : {A : Type 0} (a : A) (e : FormRefusal) → ◌≡◌ {A = Result A FormRefusal} (Ok a) (Err e) → ⊥
ok_err a e h = cc

same_ok : {A E : Type 0} (a b : A) → ◌≡◌ {A = Result A E} (Ok a) (Ok b) → a ≡ b
same_ok a b e = cc

one_said : (file : List ℕ) (a b : Said) → IsFileOf file a → IsFileOf file b → a ≡ b
one_said file a b = one_of file admitted_program a b

no_program_cause : (file : List ℕ) (p : UflProgram) (o : Outcome) → IsFileOf file (Ok p) → ProgramCause file o → o ≡ Memory
no_program_cause file p o is (inl memory) = memory
no_program_cause file p o is (inr (e, refused, same)) = absurd (ok_err p e (one_said file (Ok p) (Err e) is refused))

one_program : (file : List ℕ) (p q : UflProgram) → IsFileOf file (Ok p) → IsFileOf file (Ok q) → p ≡ q
one_program file p q a b = same_ok p q (one_said file (Ok p) (Ok q) a b)

compile_accepted : (file : List ℕ) (o : Outcome) → CanPrint file → CompileCause file o → o ≡ Memory
compile_accepted file o can (inl h) = no_program_cause file can.program o can.says h
compile_accepted file o can (inr (p, is, none, same)) =
    absurd (can.some (ap (λ q. q.forms) (one_program file can.program p can.says is) ∙ none))

check_accepted : (file lines : List ℕ) (o : Outcome) → IsCheckText file lines → CheckCause file o → o ≡ Memory
check_accepted file lines o is (inl memory) = memory
check_accepted file lines o is (inr (e, refused, same)) = absurd (ok_err lines e (one_of file (checked file) (Ok lines) (Err e) is refused))

-- ---- the form of a name
none_some : {A : Type 0} (x : Option A) (a : A) → x ≡ None → x ≡ Some a → ⊥
none_some x a none some = apart (sym none ∙ some)
  where
    apart : None ≡ Some a → ⊥
    apart e = cc

one_some : {A : Type 0} (x : Option A) (a b : A) → x ≡ Some a → x ≡ Some b → a ≡ b
one_some x a b e f = same (sym e ∙ f)
  where
    same : Some a ≡ Some b → a ≡ b
    same e = cc

named_refused : (file name : List ℕ) (p : UflProgram) (n : Named) (o : Outcome) → IsNamed file p name n → NamedRefused file p name o → ⊥
named_refused file name p n o has (inl (none, same)) = none_some (form_named file p.forms name) n none has.named
named_refused file name p n o has (inr (m, some, occurs, same)) =
    occurs (ap (λ k. (occurring_of p k).coefficients) (one_some (form_named file p.forms name) m n some has.named) ∙ has.without)

named_accepted : (file name : List ℕ) (p : UflProgram) (n : Named) (k : FormKind) (w : Weight) (o : Outcome) → HasForm file name p n k w → NamedCause file name o → o ≡ Memory
named_accepted file name p n k w o has (inl h) = no_program_cause file p o has.says h
named_accepted file name p n k w o has (inr (q, is, h)) =
    absurd (named_refused file name q n o (subst (λ r. IsNamed file r name n) (one_program file p q has.says is) has.is_named) h)

-- what holds of the form of a name holds of the one that is accepted
same_form : (file name : List ℕ) (p q : UflProgram) (n m : Named) (k j : FormKind) (w v : Weight) → HasForm file name p n k w → HasForm file name q m j v
    → (P : UflProgram → Named → FormKind → Weight → Type 0) → P q m j v → P p n k w
same_form file name p q n m k j w v has other P h = at_weight (at_kind (at_named (subst (λ x. P x m j v) same h)))
  where
    same : q ≡ p
    same = one_program file q p other.says has.says

    named : m ≡ n
    named = one_some (form_named file p.forms name) m n (ap (λ x. form_named file x.forms name) (sym same) ∙ other.is_named.named) has.is_named.named

    kind : j ≡ k
    kind = same_ok j k (sym (ap (λ x. form_kind (term_of x)) (sym named) ∙ other.admitted.kind) ∙ has.admitted.kind)

    weighed : (x : UflProgram) (y : Named) (z : FormKind) → q ≡ x → m ≡ y → j ≡ z → admission exact (dimension z.cell) (table_of x.elements) (term_of y) ≡ Ok v
    weighed x y z e f g =
        ap (λ (t : UflProgram). admission exact (dimension z.cell) (table_of t.elements) (term_of y)) (sym e)
        ∙ ap (λ (t : Named). admission exact (dimension z.cell) (table_of q.elements) (term_of t)) (sym f)
        ∙ ap (λ (t : FormKind). admission exact (dimension t.cell) (table_of q.elements) (term_of m)) (sym g) ∙ other.admitted.admitted

    weight : v ≡ w
    weight = same_ok v w (sym (weighed p n k same named kind) ∙ has.admitted.admitted)

    at_named : P p m j v → P p n j v
    at_named x = subst (λ y. P p y j v) named x

    at_kind : P p n j v → P p n k v
    at_kind x = subst (λ y. P p n y v) kind x

    at_weight : P p n k v → P p n k w
    at_weight x = subst (λ y. P p n k y) weight x

-- ---- a mesh that is accepted
no_mesh_refusal : (c : Cell) (r : MeshRefusal) (text : List ℕ) (m : MeshData Fraction) → IsMeshText c text m → MeshRefuses c r text → ⊥
no_mesh_refusal c r text m (is, kind) (inl h) = apart (sym is ∙ h)
  where
    apart : Ok m ≡ Err r → ⊥
    apart e = cc
no_mesh_refusal c r text m (is, kind) (inr (n, h, other, refused)) = other (ap (λ (x : MeshData Fraction). x.kind) (same_ok n m (sym h ∙ is)) ∙ kind)

abbrev HoldMesh : List Held → List ℕ → Cell → MeshData Fraction → Type 0
HoldMesh files name c m = HoldFile files name (λ text. IsMeshText c text m)

mesh_accepted : (l : Loads) (files : List Held) (name : List ℕ) (c : Cell) (m : MeshData Fraction) (o : Outcome) → l.content ≡ Some files → HoldMesh files name c m
    → ¬ Rises l.before l.now → MeshCause l name c o → o ≡ Memory
mesh_accepted l files name c m o told holds still (inl h) = load_accepted l 2 name o still h
mesh_accepted l files name c m o told (text, held, f) still (inr (r, other, same, is, h)) =
    absurd (no_mesh_refusal c r text m f (subst (MeshRefuses c r) (same_text files l.content name text other told held is) h))

same_mesh : (content : Option (List Held)) (files : List Held) (name : List ℕ) (c : Cell) (m n : MeshData Fraction) → content ≡ Some files → HoldMesh files name c m
    → HasMesh content name c n → n ≡ m
same_mesh content files name c m n told (text, held, f) (other, is, g) =
    same_ok n m (sym g.0 ∙ ap meaning (same_text files content name text other told held is) ∙ f.0)

-- ---- both
run_accepted : (p : UflProgram) (n : Named) (w : Weight) (m : MeshData Fraction) (o : Outcome) → CanAssemble p n w m → RunCause p n w m o → o ≡ Memory
run_accepted p n w m o can (e, is, r) = is ∙ ap run_outcome (only_memory (problem_of p n m) (occurring_of p n) w can.values can.rooms e r)

abbrev RunsRefused : Loads → List ℕ → Outcome → UflProgram → Named → FormKind → Weight → Type 0
RunsRefused l mesh o p n k w = (m : MeshData Fraction) × HasMesh l.content mesh k.cell m × RunCause p n w m o

assemble_accepted : (l : Loads) (files : List Held) (file name mesh : List ℕ) (p : UflProgram) (n : Named) (k : FormKind) (w : Weight) (m : MeshData Fraction) (o : Outcome) → l.content ≡ Some files
    → HasForm file name p n k w → HoldMesh files mesh k.cell m → CanAssemble p n w m → ¬ Rises l.before l.now → AssembleCause l file name mesh o → o ≡ Memory
assemble_accepted l files file name mesh p n k w m o told has g can still (inl h) = named_accepted file name p n k w o has h
assemble_accepted l files file name mesh p n k w m o told has g can still (inr (q, x, j, v, other, inl h)) =
    mesh_accepted l files mesh k.cell m o told g still (same_form file name p q n x k j w v has other (λ a b c d. MeshCause l mesh c.cell o) h)
assemble_accepted l files file name mesh p n k w m o told has g can still (inr (q, x, j, v, other, inr h)) =
    let r = same_form file name p q n x k j w v has other (RunsRefused l mesh o) h in
    run_accepted p n w m o can (subst (λ (y : MeshData Fraction). RunCause p n w y o) (same_mesh l.content files mesh k.cell m r.0 told g r.1) r.2)

-- ---- the program
-- where the form file is held, its cause is one of its text
of_text : (l : Loads) (files : List Held) (form text : List ℕ) (o : Outcome) (Holds : List ℕ → Type 0) → l.content ≡ Some files → bytes_of files form ≡ Some text
    → ¬ Rises l.before l.now → FormCause l form o Holds → (Holds text → o ≡ Memory) → o ≡ Memory
of_text l files form text o Holds told held still (inl h) next = load_accepted l 1 form o still h
of_text l files form text o Holds told held still (inr (file, is, h)) next =
    next (subst Holds (same_text files l.content form text file told held is) h)

has_shape : (files : List Held) (words : List (List ℕ)) → CanAnswer files words → HaveNoShape words → ⊥
has_shape files words (Compiles form e held) none = none.compile form e
has_shape files words (Checks form lines e held) none = none.check form e
has_shape files words (Assembles form name mesh p n k w m e f g h) none = none.assemble form name mesh e

refused : (l : Loads) (words : List (List ℕ)) (o : Outcome) (files : List Held) → HasCause l words o → l.content ≡ Some files → CanAnswer files words → ¬ Rises l.before l.now → o ≡ Memory
refused l words o files h told (Compiles form e (text, held, can)) still =
    of_text l files form text o _ told held still (h.compile form e) (compile_accepted text o can)
refused l words o files h told (Checks form lines e (text, held, is)) still =
    of_text l files form text o _ told held still (h.check form e) (check_accepted text lines o is)
refused l words o files h told (Assembles form name mesh p n k w m e (text, held, has) g can) still =
    of_text l files form text o _ told held still (h.assemble form name mesh e)
    (assemble_accepted l files text name mesh p n k w m o told has g can still)

pub complete : (l : Loads) (words : List (List ℕ)) (before now : ℕ) (o : Outcome) → (o ≡ Usage → HaveNoShape words) → IsCaused l words o → (o ≡ WriteFault → Rises before now) → IsComplete l words before now o
complete l words before now Done usage caused fault = λ files told can still quiet. inl refl
complete l words before now Usage usage caused fault = λ files told can still quiet. absurd (has_shape files words can (usage refl))
complete l words before now WriteFault usage caused fault = λ files told can still quiet. absurd (quiet (fault refl))
complete l words before now Memory usage caused fault = λ files told can still quiet. inr refl
complete l words before now (Form r) usage caused fault = λ files told can still quiet. inr (refused l words (Form r) files (caused tt) told can still)
complete l words before now (NotYet n) usage caused fault = λ files told can still quiet. inr (refused l words (NotYet n) files (caused tt) told can still)
complete l words before now (Mesh r) usage caused fault = λ files told can still quiet. inr (refused l words (Mesh r) files (caused tt) told can still)
complete l words before now (Passed s) usage caused fault = λ files told can still quiet. inr (refused l words (Passed s) files (caused tt) told can still)
complete l words before now (ReadFault k) usage caused fault = λ files told can still quiet. inr (refused l words (ReadFault k) files (caused tt) told can still)
