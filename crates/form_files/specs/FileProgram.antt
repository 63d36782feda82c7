-- What the text of a form file says: its program, or the first refusal
use Rattle.std.specs.Prelude.{◌≡◌, ◌⊎◌, ℕ, List, Result, Ok, Err}
use Rattle.ufl_syntax.specs.declared.tree.Stmt.{Stmt}
use Rattle.ufl_read.specs.declared.refusal.FormKind.TheVariants.{Memory}
use Rattle.ufl_read.specs.declared.refusal.FormRefusal.{FormRefusal}
use Rattle.ufl_read.specs.Refusals.{IsFile, IsRefusedFile, wordless}
use Rattle.ufl_elab.specs.declared.program.UflProgram.{UflProgram}
use Rattle.ufl_elab.specs.Programs.{program}

-- the reading goes over the whole text before the first statement is elaborated
pub data Says : List ℕ → Result UflProgram FormRefusal → Type 0 where
  unread : {text : List ℕ} {e : FormRefusal} → IsRefusedFile text e → Says text (Err e)
  read : {text : List ℕ} (sts : List Stmt) → IsFile text sts → Says text (program text sts)

abbrev pub OrMemory : {A : Type 0} → (Result A FormRefusal → Type 0) → Result A FormRefusal → Type 0
OrMemory IsWanted (Ok a) = IsWanted (Ok a)
OrMemory IsWanted (Err e) = (e ≡ wordless Memory 0) ⊎ IsWanted (Err e)

-- that, or want of memory
abbrev pub Answers : List ℕ → Result UflProgram FormRefusal → Type 0
Answers text = OrMemory (Says text)
