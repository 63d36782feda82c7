-- The names of the exported forms of a file are identifiers that differ
use Rattle.std.proofs.Common.{◌≡◌, ℕ, List, None, Result, Ok, Err, subst}
use Rattle.std.specs.Prelude.{All, IfOk}
use Rattle.ufl_syntax.specs.declared.tree.Stmt.{Stmt}
use Rattle.ufl_syntax.specs.Spans.{word_at}
use Rattle.ufl_read.specs.declared.statements.TheConstants.{DEPTH_LIMIT}
use Rattle.ufl_read.specs.declared.refusal.FormRefusal.{FormRefusal}
use Rattle.ufl_read.specs.Refusals.{IsFile}
use Rattle.ufl_tree.specs.Places.{table_of}
use Rattle.ufl_elab.specs.declared.program.UflProgram.{UflProgram}
use Rattle.ufl_elab.specs.Programs.{program}
use Rattle.ufl_program.specs.Names.{name_of, DifferInName}
use Rattle.ufl_program.proofs.ExportLaws.{program_names}
use Rattle.form_files.specs.FileProgram.{Says, unread, read}
use Rattle.form_files.specs.Admissions.{IsFileOf, admitted_all, admitted_program, first_refused}
use Rattle.form_files.specs.Names.{HasNames, IsIdentifier}
use Rattle.form_files.proofs.WordLaws.{identifiers}
use Rattle.form_files.proofs.TargetLaws.{file_targets}

read_names : (file : List ℕ) (sts : List Stmt) → IsFile file sts → IfOk (program file sts) (HasNames file)
read_names file sts (h, ts, s, d) =
    named (program file sts)
    (program_names file (λ line t. IsIdentifier (word_at file t)) sts
    (file_targets (λ t. IsIdentifier (word_at file t)) DEPTH_LIMIT d (identifiers file ts None s)))
  where
    named : (r : Result UflProgram FormRefusal) → IfOk r (λ p. All (λ n. IsIdentifier (name_of file n)) p.forms × DifferInName file p.forms)
        → IfOk r (HasNames file)
    named (Ok p) k = record { identifiers = k.0; distinct = k.1 }
    named (Err e) k = tt

names_of_said : (file : List ℕ) (r : Result UflProgram FormRefusal) → Says file r → IfOk r (HasNames file)
names_of_said file r (unread x) = tt
names_of_said file r (read sts x) = read_names file sts x

pub exported_names : (file : List ℕ) (p : UflProgram) → Says file (Ok p) → HasNames file p
exported_names file p says = names_of_said file (Ok p) says

-- an admitted program is the one that the file says
admitted_is : (p q : UflProgram) (v : Result Unit FormRefusal) → admitted_all q v ≡ Ok p → q ≡ p
admitted_is p q (Ok u) h = cc
admitted_is p q (Err e) h = cc

pub admitted_names : (file : List ℕ) (p : UflProgram) → IsFileOf file (Ok p) → HasNames file p
admitted_names file p (said, says, e) = go said says e
  where
    go : (r : Result UflProgram FormRefusal) → Says file r → admitted_program r ≡ Ok p → HasNames file p
    go (Err x) is h = cc
    go (Ok q) is h = subst (HasNames file) (admitted_is p q (first_refused (table_of q.elements) q.forms) h) (exported_names file q is)
