-- What is loaded of a form file says what the file says
use Rattle.std.proofs.Common.{◌≡◌, ℕ, ◌+◌, ◌≤◌, inl, inr, List, length, take, Option, Result, Ok, Err, refl, sym, subst}
use Rattle.ends.specs.Held.{Held}
use Rattle.slices.specs.declared.form_toks.TheConstants.{FORM_LIMIT}
use Rattle.ufl_read.specs.declared.refusal.FormRefusal.{FormRefusal}
use Rattle.ufl_elab.specs.declared.program.UflProgram.{UflProgram}
use Rattle.form_files.specs.FileProgram.{Says, unread, read}
use Rattle.form_files.specs.Admissions.{IsFileOf, admitted_program}
use Rattle.form_files.proofs.OutcomeLaws.{front_admitted, front_check}
use Rattle.answers.specs.declared.outcome.Outcome.{Outcome}
use Rattle.ffc.specs.declared.command.Command.{Command}
use Rattle.ffc.specs.declared.command.Command.TheVariants.{Compile, Check, Assemble}
use Rattle.ffc.specs.Answer.{AnswersFile, FileCause, CheckCause}
use Rattle.ffc.specs.Assemble.{AssembleCause, IsAssembledText}
use Rattle.ffc.specs.Compile.{IsUnitText}
use Rattle.ffc.specs.Forms.{ProgramCause, NamedCause, CompileCause}
use Rattle.ffc.specs.Inputs.{Loads}
use Rattle.ffc.proofs.LoadLaws.{whole}

short_of : (file : List ℕ) (a : Result UflProgram FormRefusal) (p : UflProgram) → Says file a → admitted_program a ≡ Ok p → length file ≤ FORM_LIMIT
short_of file a p (unread {e = e} h) is = cc
short_of file a p (read sts h) is = h.0

-- a file with a program is all that is loaded of it
pub file_whole : (text : List ℕ) (p : UflProgram) → IsFileOf (take (FORM_LIMIT + 1) text) (Ok p) → take (FORM_LIMIT + 1) text ≡ text
file_whole text p h = whole text (take (FORM_LIMIT + 1) text) FORM_LIMIT refl (short_of (take (FORM_LIMIT + 1) text) h.0 p h.1 h.2)

-- ---- answers
front_answer : (content : Option (List Held)) (command : Command) (text out : List ℕ) → AnswersFile content command (take (FORM_LIMIT + 1) text) out
    → AnswersFile content command text out
front_answer content (Compile form) text out h = subst (λ f. IsUnitText f out) (file_whole text h.program h.says) h
front_answer content (Check form) text out h = front_check text (Ok out) h
front_answer content (Assemble form name mesh) text out h =
    subst (λ f. IsAssembledText content f name.now mesh.now out) (file_whole text h.program h.has_form.says) h

pub loaded_answer : (content : Option (List Held)) (command : Command) (text file out : List ℕ) → take (FORM_LIMIT + 1) text ≡ file → AnswersFile content command file out
    → AnswersFile content command text out
loaded_answer content command text file out e h = front_answer content command text out (subst (λ f. AnswersFile content command f out) (sym e) h)

-- ---- causes
program_cause : (text : List ℕ) (o : Outcome) → ProgramCause (take (FORM_LIMIT + 1) text) o → ProgramCause text o
program_cause text o (inl memory) = inl memory
program_cause text o (inr (e, is, same)) = inr (e, front_admitted text (Err e) is, same)

compile_cause : (text : List ℕ) (o : Outcome) → CompileCause (take (FORM_LIMIT + 1) text) o → CompileCause text o
compile_cause text o (inl h) = inl (program_cause text o h)
compile_cause text o (inr h) = subst (λ f. CompileCause f o) (file_whole text h.0 h.1) (inr h)

named_cause : (text name : List ℕ) (o : Outcome) → NamedCause (take (FORM_LIMIT + 1) text) name o → NamedCause text name o
named_cause text name o (inl h) = inl (program_cause text o h)
named_cause text name o (inr h) = subst (λ f. NamedCause f name o) (file_whole text h.0 h.1) (inr h)

assemble_cause : (l : Loads) (text name mesh : List ℕ) (o : Outcome) → AssembleCause l (take (FORM_LIMIT + 1) text) name mesh o → AssembleCause l text name mesh o
assemble_cause l text name mesh o (inl h) = inl (named_cause text name o h)
assemble_cause l text name mesh o (inr h) = subst (λ f. AssembleCause l f name mesh o) (file_whole text h.0 h.4.says) (inr h)

check_cause : (text : List ℕ) (o : Outcome) → CheckCause (take (FORM_LIMIT + 1) text) o → CheckCause text o
check_cause text o (inl memory) = inl memory
check_cause text o (inr (e, is, same)) = inr (e, front_check text (Err e) is, same)

front_cause : (l : Loads) (command : Command) (text : List ℕ) (o : Outcome) → FileCause l command (take (FORM_LIMIT + 1) text) o → FileCause l command text o
front_cause l (Compile form) text o h = compile_cause text o h
front_cause l (Check form) text o h = check_cause text o h
front_cause l (Assemble form name mesh) text o h = assemble_cause l text name.now mesh.now o h

pub loaded_cause : (l : Loads) (command : Command) (text file : List ℕ) (o : Outcome) → take (FORM_LIMIT + 1) text ≡ file → FileCause l command file o → FileCause l command text o
loaded_cause l command text file o e h = front_cause l command text o (subst (λ f. FileCause l command f o) (sym e) h)
