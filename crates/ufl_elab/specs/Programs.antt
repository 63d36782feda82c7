-- The program of a file: its statements, one after the other, and then the forms that it exports
use Rattle.std.specs.Prelude.{◌≡◌, ◌⊎◌, ℕ, List, Result, Ok, Err}
use Rattle.ufl_syntax.specs.declared.tree.Stmt.{Stmt}
use Rattle.ufl_read.specs.declared.refusal.FormKind.TheVariants.{Memory}
use Rattle.ufl_read.specs.declared.refusal.FormRefusal.{FormRefusal}
use Rattle.ufl_read.specs.Refusals.{wordless}
use Rattle.ufl_calls.specs.declared.made.Made.{Made}
use Rattle.ufl_elab.specs.declared.program.Named.{Named}
use Rattle.ufl_elab.specs.declared.program.UflProgram.{UflProgram}
use Rattle.ufl_elab.specs.Statements.{After, start, statements}
use Rattle.ufl_elab.specs.Exports.{exported}

abbrev pub program_of : Made → Result (List Named) FormRefusal → Result UflProgram FormRefusal
program_of m (Err e) = Err e
program_of m (Ok forms) = Ok (record { elements = m.elements; coefficients = m.coefficients; forms = forms })

abbrev pub ended : List ℕ → List Stmt → After → Result UflProgram FormRefusal
ended file sts (Err e) = Err e
ended file sts (Ok state) = program_of state.made (exported file sts state.names)

unfoldable pub program : List ℕ → List Stmt → Result UflProgram FormRefusal
program file sts = ended file sts (statements file sts start)

-- the wanted value or refusal, or want of memory
abbrev pub Gives : {A : Type 0} → Result A FormRefusal → Result A FormRefusal → Type 0
Gives (Ok a) want = want ≡ Ok a
Gives (Err e) want = (e ≡ wordless Memory 0) ⊎ (want ≡ Err e)
