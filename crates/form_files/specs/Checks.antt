-- What `check` prints of a form file
use Rattle.std.specs.Prelude.{◌≡◌, ℕ, ◌++◌, List, [], ◌∷◌, codes, decimal, Result, Ok, Err}
use Rattle.ufl_tree.specs.Places.{Table, table_of}
use Rattle.ufl_read.specs.declared.refusal.FormKind.TheVariants as k
use Rattle.ufl_read.specs.declared.refusal.FormRefusal.{FormRefusal}
use Rattle.ufl_read.specs.Refusals.{wordless}
use Rattle.ufl_elab.specs.declared.program.Named.{Named}
use Rattle.ufl_elab.specs.declared.program.UflProgram.{UflProgram}
use Rattle.ufl_program.specs.Names.{name_of}
use Rattle.form_files.specs.declared.admissions.Admitted.{Admitted}
use Rattle.form_files.specs.Admissions.{admission_of}
use Rattle.form_files.specs.FileProgram.{Says}

abbrev pub joined : List (List ℕ) → List ℕ
joined [] = []
joined (piece ∷ pieces) = piece ++ joined pieces

abbrev pub form_line : List ℕ → Admitted → List ℕ
form_line name a = joined (codes "form " ∷ name ∷ codes " rank " ∷ decimal a.rank ∷ codes " cost " ∷ decimal a.cost
    ∷ codes " size " ∷ decimal a.size ∷ codes "\n" ∷ [])

abbrev pub behind : List ℕ → Result (List ℕ) FormRefusal → Result (List ℕ) FormRefusal
behind line (Err e) = Err e
behind line (Ok lines) = Ok (line ++ lines)

abbrev pub line_with : List ℕ → Result Admitted FormRefusal → Result (List ℕ) FormRefusal → Result (List ℕ) FormRefusal
line_with name (Err e) others = Err e
line_with name (Ok a) others = behind (form_line name a) others

-- one line for each form, or the refusal of the first that isn't admitted
abbrev pub form_lines : List ℕ → Table → List Named → Result (List ℕ) FormRefusal
form_lines file t [] = Ok []
form_lines file t (n ∷ ns) = line_with (name_of file n) (admission_of t n) (form_lines file t ns)

abbrev pub some_lines : List ℕ → Table → List Named → Result (List ℕ) FormRefusal
some_lines file t [] = Err (wordless k.NoForm 0)
some_lines file t (n ∷ ns) = form_lines file t (n ∷ ns)

abbrev pub checked : List ℕ → Result UflProgram FormRefusal → Result (List ℕ) FormRefusal
checked file (Err e) = Err e
checked file (Ok p) = some_lines file (table_of p.elements) p.forms

-- what the file says, checked
abbrev pub IsCheck : List ℕ → Result (List ℕ) FormRefusal → Type 0
IsCheck file want = (said : Result UflProgram FormRefusal) × Says file said × (checked file said ≡ want)
