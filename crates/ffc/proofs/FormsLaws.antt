-- Forms and their functions, one after the other
use Rattle.std.proofs.Common.{◌≡◌, ◌≢◌, ℕ, suc, ◌+◌, ◌<◌, ◌⊎◌, inl, inr, Bool, true, false, true≢false, List, [], ◌∷◌, ◌++◌, map, length, take, get_or, Option, None, Some, Result, Ok, Err, if◌then◌else◌, refl, sym, ap, ◌∙◌, subst, arith}
use Rattle.std.specs.Prelude.{IfOk, IsOk}
use Rattle.std.specs.Bool.{IsTrue}
use Rattle.std.specs.Str.{bytes_eq}
use Rattle.std.proofs.Math.Seq.{take-suc}
use Rattle.std.proofs.lemmas.List.{append-nil, append_assoc}
use Rattle.std.specs.List.{AllByRecursion}
use Rattle.c_unit.specs.declared.unit.CFun.{CFun}
use Rattle.monos.specs.declared.weight.Weight.{Weight}
use Rattle.spaces.specs.Cell.{dimension}
use Rattle.ufl_tree.specs.FormTerm.{FormTerm}
use Rattle.ufl_tree.specs.Places.{table_of}
use Rattle.ufl_expr.specs.declared.refusal.TypeRefusal.{TypeRefusal}
use Rattle.ufl_form.specs.declared.table.FormKind.{FormKind}
use Rattle.ufl_form.specs.Reading.{form_of}
use Rattle.ufl_form.specs.Table.{form_kind}
use Rattle.weigh.specs.declared.refusal.WeightRefusal.{WeightRefusal}
use Rattle.weigh.specs.Weighing.{exact}
use Rattle.admit.specs.Admission.{admission}
use Rattle.assembly.specs.declared.funs.Funs.{Funs}
use Rattle.assembly.specs.declared.funs.MarkedFun.{MarkedFun}
use Rattle.ufl_elab.specs.declared.program.Named.{Named}
use Rattle.ufl_elab.specs.declared.program.UflProgram.{UflProgram}
use Rattle.ufl_elab.specs.Programs.{program}
use Rattle.ufl_program.specs.Names.{name_of}
use Rattle.ufl_program.specs.Sound.{AreSound, IsSound, SoundForm}
use Rattle.ufl_program.proofs.ProgramLaws.{program_sound}
use Rattle.ufl_read.specs.declared.refusal.FormKind.TheVariants as Kind
use Rattle.ufl_read.specs.declared.refusal.FormRefusal.{FormRefusal}
use Rattle.ufl_read.specs.Refusals.{wordless}
use Rattle.form_files.specs.declared.admissions.Admitted.{Admitted}
use Rattle.form_files.specs.Admissions.{IsFileOf, admission_of, admitted_all, admitted_by, admitted_program, dimension_by, dimension_of, first_refused, next_refused}
use Rattle.form_files.specs.Checks.{IsCheck}
use Rattle.form_files.specs.FileProgram.{OrMemory, Says, unread, read}
use Rattle.form_values.specs.CellLayout.{Occurring}
use Rattle.form_layouts.specs.Occurring.{occurring}
use Rattle.form_kernels.specs.Admitted.{HasFormFunctions, IsAdmittedForm}
use Rattle.answers.specs.Outcome.{form_outcome}
use Rattle.answers.specs.declared.outcome.Outcome.{Outcome}
use Rattle.ffc.specs.Answer.{CheckCause}
use Rattle.ffc.specs.Forms.{HasWeight, IsAdmitted, IsExported, ProgramCause, form_named, occurring_of, term_of}
use Rattle.ffc.specs.Unit.{IsFormUnit, AreFunctionsOf, none, more, function_list}

-- ---- exported forms are admitted
weight_by : (f : FormTerm) (n : Named) (r : Result Weight WeightRefusal) (a : Admitted) → admitted_by f n r ≡ Ok a → (w : Weight) × (r ≡ Ok w)
weight_by f n (Ok w) a h = (w, refl)
weight_by f n (Err e) a h = cc

not_ok : false ≡ true → ⊥
not_ok e = cc

first_is : (r : Result Admitted FormRefusal) (others : Result Unit FormRefusal) → IsOk (next_refused r others) → (a : Admitted) × (r ≡ Ok a)
first_is (Ok a) others h = (a, refl)
first_is (Err e) others h = absurd (not_ok h)

others_are : (r : Result Admitted FormRefusal) (others : Result Unit FormRefusal) → IsOk (next_refused r others) → IsOk others
others_are (Ok a) others h = h
others_are (Err e) others h = absurd (not_ok h)

all_exported : (p : UflProgram) (ns : List Named) → AreSound (table_of p.elements) p.coefficients ns → IsOk (first_refused (table_of p.elements) ns)
    → AllByRecursion (IsExported p) ns
all_exported p [] sound h = tt
all_exported p (n ∷ ns) sound h =
    let a = first_is (admission_of (table_of p.elements) n) (first_refused (table_of p.elements) ns) h in
    let w = weight_by (term_of n) n (admission exact (dimension_of (term_of n)) (table_of p.elements) (term_of n)) a.0 a.1 in (
      record { sound = sound.0; weight = w.0; admitted = w.1 },
      all_exported p ns sound.1 (others_are (admission_of (table_of p.elements) n) (first_refused (table_of p.elements) ns) h),
    )

said_sound : (file : List ℕ) (r : Result UflProgram FormRefusal) → Says file r → IfOk r IsSound
said_sound file r (unread x) = tt
said_sound file r (read sts x) = program_sound file sts

-- an admitted program is the one that the file says
all_admitted : (p q : UflProgram) (v : Result Unit FormRefusal) → admitted_all q v ≡ Ok p → (q ≡ p) × IsOk v
all_admitted p q (Ok u) h = (cc, refl)
all_admitted p q (Err e) h = cc

pub exported : (file : List ℕ) (p : UflProgram) → IsFileOf file (Ok p) → AllByRecursion (IsExported p) p.forms
exported file p (said, says, e) = go said (said_sound file said says) e
  where
    go : (r : Result UflProgram FormRefusal) → IfOk r IsSound → admitted_program r ≡ Ok p → AllByRecursion (IsExported p) p.forms
    go (Err x) sound h = cc
    go (Ok q) sound h =
        let a = all_admitted p q (first_refused (table_of q.elements) q.forms) h in
        subst (λ (x : UflProgram). AllByRecursion (IsExported x) x.forms) a.0 (all_exported q q.forms sound a.1)

kind_by : (r : Result FormKind TypeRefusal) → IsOk r → (k : FormKind) × (r ≡ Ok k)
kind_by (Ok k) h = (k, refl)
kind_by (Err e) h = absurd (not_ok h)

-- on its cell
pub has_weight : (p : UflProgram) (n : Named) → IsExported p n → IsOk (form_kind (form_of n.form)) → HasWeight p n
has_weight p n is typed =
    let k = kind_by (form_kind (form_of n.form)) typed in (
      k.0,
      is.weight,
      record {
        fits = is.sound.fits;
        numbered = is.sound.numbered;
        kind = k.1;
        admitted = subst (λ d. admission exact d (table_of p.elements) (term_of n) ≡ Ok is.weight) (ap dimension_by k.1) is.admitted;
      },
    )

-- the form of a name is one of the forms
pub named_exported : (p : UflProgram) (file name : List ℕ) (ns : List Named) (n : Named) → AllByRecursion (IsExported p) ns → form_named file ns name ≡ Some n → IsExported p n
named_exported p file name [] n all h = cc
named_exported p file name (m ∷ ns) n all h = go (bytes_eq (name_of file m) name) (named_exported p file name ns n all.1) h
  where
    go : (t : Bool) → (form_named file ns name ≡ Some n → IsExported p n) → (if t then Some m else form_named file ns name) ≡ Some n → IsExported p n
    go true later e = subst (IsExported p) (same m n e) all.0
      where
        same : (a b : Named) → Some a ≡ Some b → a ≡ b
        same a b e = cc
    go false later e = later e

pub found : (file name : List ℕ) (xs ys : List Named) (n : Named) → xs ≡ ys → Some n ≡ form_named file xs name → form_named file ys name ≡ Some n
found file name xs ys n e h = ap (λ l. form_named file l name) (sym e) ∙ sym h

-- ---- their functions
pub functions_behind : (file : List ℕ) (p : UflProgram) (ns : List Named) (fs own : List CFun) (n : Named) → AreFunctionsOf file p ns fs → IsFormUnit file p n own
    → AreFunctionsOf file p (ns ++ n ∷ []) (fs ++ own)
functions_behind file p [] [] own n none is = subst (AreFunctionsOf file p (n ∷ [])) (append-nil own) (more is none)
functions_behind file p [] (_ ∷ _) own n x is = elim x [ ]
functions_behind file p (m ∷ ns) fs own n (more {own = first} {others = rest} h are) is =
    subst (AreFunctionsOf file p (m ∷ (ns ++ n ∷ []))) (sym (append_assoc first rest own)) (more h (functions_behind file p ns rest own n are is))

pub functions_at : (file : List ℕ) (p : UflProgram) (forms : List Named) (k : ℕ) (n : Named) (fs own all : List CFun) → k < length forms → n ≡ get_or forms k n
    → all ≡ fs ++ own → AreFunctionsOf file p (take k forms) fs → IsFormUnit file p n own → AreFunctionsOf file p (take (k + 1) forms) all
functions_at file p forms k n fs own all within is pushed are unit =
    let next : suc k ≡ k + 1 = omega arith in
    let front : take (k + 1) forms ≡ take k forms ++ n ∷ [] =
    sym (ap (λ j. take j forms) next) ∙ take-suc forms k n within ∙ ap (λ x. take k forms ++ x ∷ []) (sym is) in
    subst (λ x. AreFunctionsOf file p x all) (sym front)
    (subst (AreFunctionsOf file p (take k forms ++ n ∷ [])) (sym pushed) (functions_behind file p (take k forms) fs own n are unit))

-- over a list that is that of the coefficients
module _ (p : UflProgram) (n : Named) (coefs : List ℕ) (same : coefs ≡ p.coefficients) where
  pub weight_over : HasWeight p n → (k : FormKind) × (w : Weight) × IsAdmittedForm (table_of p.elements) coefs (term_of n) k w
  weight_over (k, w, a) = (k, w, subst (λ xs. IsAdmittedForm (table_of p.elements) xs (term_of n) k w) (sym same) a)

  -- the functions of a form, which was admitted with some weight
  pub form_unit : (file name : List ℕ) (funs : Funs) → name ≡ name_of file n → HasWeight p n
      → ((k : FormKind) (w : Weight) → IsAdmittedForm (table_of p.elements) coefs (term_of n) k w → HasFormFunctions (table_of p.elements) coefs (term_of n) k.cell w name funs)
      → IsFormUnit file p n (function_list funs)
  form_unit file name funs named (k, w, a) h = record {
    kind = k;
    weight = w;
    funs = funs;
    admitted = a;
    functions =
        subst (λ xs. HasFormFunctions (table_of p.elements) xs (term_of n) k.cell w (name_of file n) funs) same
        (subst (λ x. HasFormFunctions (table_of p.elements) coefs (term_of n) k.cell w x funs) named
        (h k w (subst (λ xs. IsAdmittedForm (table_of p.elements) xs (term_of n) k w) (sym same) a)));
    list = refl;
  }

-- ---- one function behind the others
map_behind : (ms : List MarkedFun) (m : MarkedFun) → map (λ (x : MarkedFun). x.fun) (ms ++ m ∷ []) ≡ map (λ (x : MarkedFun). x.fun) ms ++ m.fun ∷ []
map_behind [] m = refl
map_behind (x ∷ ms) m = ap (λ (fs : List CFun). x.fun ∷ fs) (map_behind ms m)

pub pushed_more : (first fs all : List CFun) (ms : List MarkedFun) (m : MarkedFun) → fs ≡ first ++ map (λ (x : MarkedFun). x.fun) ms → all ≡ fs ++ m.fun ∷ []
    → all ≡ first ++ map (λ (x : MarkedFun). x.fun) (ms ++ m ∷ [])
pushed_more first fs all ms m e pushed =
    pushed ∙ ap (λ (xs : List CFun). xs ++ m.fun ∷ []) e ∙ append_assoc first (map (λ (x : MarkedFun). x.fun) ms) (m.fun ∷ [])
    ∙ ap (λ (xs : List CFun). first ++ xs) (sym (map_behind ms m))

pub pushed_all : (funs : Funs) (old first all : List CFun) (ms : List MarkedFun) → first ≡ old ++ funs.plain ∷ [] → all ≡ first ++ map (λ (x : MarkedFun). x.fun) ms
    → ms ≡ funs.marked.items → all ≡ old ++ function_list funs
pushed_all funs old first all ms start e same =
    e ∙ ap (λ (xs : List CFun). xs ++ map (λ (x : MarkedFun). x.fun) ms) start ∙ append_assoc old (funs.plain ∷ []) (map (λ (x : MarkedFun). x.fun) ms)
    ∙ ap (λ (xs : List MarkedFun). old ++ (funs.plain ∷ map (λ (x : MarkedFun). x.fun) xs)) same

-- ---- refusals of the file
pub program_refused : (file : List ℕ) (e : FormRefusal) (o : Outcome) → o ≡ form_outcome e → OrMemory (IsFileOf file) (Err e) → ProgramCause file o
program_refused file e o same (inl memory) = inl (same ∙ ap form_outcome memory)
program_refused file e o same (inr is) = inr (e, is, same)

pub check_refused : (file : List ℕ) (e : FormRefusal) (o : Outcome) → o ≡ form_outcome e → (e ≡ wordless Kind.Memory 0) ⊎ IsCheck file (Err e) → CheckCause file o
check_refused file e o same (inl memory) = inl (same ∙ ap form_outcome memory)
check_refused file e o same (inr is) = inr (e, is, same)

-- ---- coefficients that occur
pub some_occur : (p : UflProgram) (n : Named) (o : Occurring) (count : ℕ) (empty : Bool) → o ≡ occurring count (term_of n) → count ≡ length p.coefficients
    → (o.coefficients ≡ [] → IsTrue empty) → empty ≡ false → (occurring_of p n).coefficients ≢ []
some_occur p n o count empty is e test filled h =
    true≢false (sym (test (ap (λ (x : Occurring). x.coefficients) (is ∙ ap (λ k. occurring k (term_of n)) e) ∙ h)) ∙ filled)
