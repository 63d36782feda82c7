-- Which exported forms are admitted
use Rattle.std.specs.Prelude.{◌≡◌, ℕ, List, [], ◌∷◌, Result, Ok, Err}
use Rattle.spaces.specs.Cell.{dimension}
use Rattle.ufl_tree.specs.Places.{Table, table_of}
use Rattle.ufl_tree.specs.FormTerm.{FormTerm}
use Rattle.ufl_expr.specs.declared.refusal.TypeRefusal.{TypeRefusal}
use Rattle.ufl_form.specs.declared.table.FormKind.{FormKind as KindOfForm}
use Rattle.ufl_form.specs.Reading.{form_of}
use Rattle.ufl_form.specs.Table.{form_kind, form_patterns}
use Rattle.monos.specs.declared.weight.Weight.{Weight}
use Rattle.weigh.specs.declared.refusal.WeightRefusal.{WeightRefusal}
use Rattle.weigh.specs.declared.refusal.WeightRefusal.TheVariants as w
use Rattle.weigh.specs.Refusals.{size}
use Rattle.weigh.specs.Weighing.{exact}
use Rattle.admit.specs.Admission.{admission, rank_of}
use Rattle.ufl_read.specs.declared.refusal.FormKind.{FormKind}
use Rattle.ufl_read.specs.declared.refusal.FormKind.TheVariants as k
use Rattle.ufl_read.specs.declared.refusal.FormRefusal.{FormRefusal}
use Rattle.ufl_elab.specs.declared.program.Named.{Named}
use Rattle.ufl_elab.specs.declared.program.UflProgram.{UflProgram}
use Rattle.form_files.specs.declared.admissions.Admitted.{Admitted}
use Rattle.form_files.specs.FileProgram.{Says, OrMemory}

abbrev pub refused_kind : WeightRefusal → FormKind
refused_kind w.Arity = k.Arity
refused_kind w.Cost = k.Cost
refused_kind w.Size = k.Size

-- its line and word are those of the target of its last assignment
abbrev pub refused : WeightRefusal → Named → FormRefusal
refused r n = record { kind = refused_kind r; line = n.line; from = n.from; len = n.len }

-- the dimension of the cell that a form has
abbrev pub dimension_by : Result KindOfForm TypeRefusal → ℕ
dimension_by (Ok kind) = dimension kind.cell
dimension_by (Err _) = 0

abbrev pub dimension_of : FormTerm → ℕ
dimension_of f = dimension_by (form_kind f)

abbrev pub admitted_by : FormTerm → Named → Result Weight WeightRefusal → Result Admitted FormRefusal
admitted_by f n (Err r) = Err (refused r n)
admitted_by f n (Ok weight) =
    Ok (record { rank = rank_of (form_patterns f); cost = weight.cost; size = size (dimension_of f) weight })

abbrev pub admission_of : Table → Named → Result Admitted FormRefusal
admission_of t n = admitted_by (form_of n.form) n (admission exact (dimension_of (form_of n.form)) t (form_of n.form))

abbrev pub next_refused : Result Admitted FormRefusal → Result Unit FormRefusal → Result Unit FormRefusal
next_refused (Err e) others = Err e
next_refused (Ok _) others = others

-- the refusal of the first form that isn't admitted
abbrev pub first_refused : Table → List Named → Result Unit FormRefusal
first_refused t [] = Ok tt
first_refused t (n ∷ ns) = next_refused (admission_of t n) (first_refused t ns)

abbrev pub admitted_all : UflProgram → Result Unit FormRefusal → Result UflProgram FormRefusal
admitted_all p (Err e) = Err e
admitted_all p (Ok _) = Ok p

abbrev pub admitted_program : Result UflProgram FormRefusal → Result UflProgram FormRefusal
admitted_program (Err e) = Err e
admitted_program (Ok p) = admitted_all p (first_refused (table_of p.elements) p.forms)

-- what the file says, where its forms are admitted
abbrev pub IsFileOf : List ℕ → Result UflProgram FormRefusal → Type 0
IsFileOf file want = (said : Result UflProgram FormRefusal) × Says file said × (admitted_program said ≡ want)

abbrev pub IsFormFile : List ℕ → Result UflProgram FormRefusal → Type 0
IsFormFile file = OrMemory (IsFileOf file)
