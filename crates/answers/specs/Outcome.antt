-- The status of each outcome
use Rattle.std.specs.Prelude.{ℕ}
use Rattle.mesh_in.specs.declared.refusal.MeshKind.{MeshKind}
use Rattle.mesh_in.specs.declared.refusal.MeshKind.TheVariants as kind
use Rattle.mesh_in.specs.declared.refusal.MeshRefusal.{MeshRefusal}
use Rattle.assembly.specs.declared.run_refusal.RunRefusal.{RunRefusal}
use Rattle.assembly.specs.declared.run_refusal.RunRefusal.TheVariants as run
use Rattle.ufl_read.specs.declared.refusal.FormKind.{FormKind}
use Rattle.ufl_read.specs.declared.refusal.FormKind.TheVariants as form
use Rattle.ufl_read.specs.declared.refusal.FormRefusal.{FormRefusal}
use Rattle.answers.specs.declared.outcome.Spot.TheVariants as spot
use Rattle.answers.specs.declared.outcome.Outcome.{Outcome}
use Rattle.answers.specs.declared.outcome.Outcome.TheVariants.{Done, Usage, Form, NotYet, Mesh, Passed, ReadFault, WriteFault, Memory}

abbrev pub status_of : Outcome → ℕ
status_of Done = 0
status_of Usage = 2
status_of (Form _) = 3
status_of (NotYet _) = 3
status_of (Mesh _) = 4
status_of (Passed _) = 7
status_of (ReadFault _) = 8
status_of WriteFault = 9
status_of Memory = 10

-- a refusal of the form file as the outcome
abbrev pub outcome_of_form : FormKind → FormRefusal → Outcome
outcome_of_form form.Memory r = Memory
outcome_of_form _ r = Form r

abbrev pub form_outcome : FormRefusal → Outcome
form_outcome r = outcome_of_form r.kind r

-- a refusal of the mesh as the outcome
abbrev pub outcome_of_kind : MeshKind → MeshRefusal → Outcome
outcome_of_kind kind.Memory r = Memory
outcome_of_kind _ r = Mesh r

abbrev pub mesh_outcome : MeshRefusal → Outcome
mesh_outcome r = outcome_of_kind r.kind r

-- the refusals of a mesh with too many entries, and of one with a degenerate cell
abbrev pub too_many : MeshRefusal
too_many = record { kind = kind.TooManyEntries; line = 0; cell = 0 }

abbrev pub degenerate : ℕ → MeshRefusal
degenerate cell = record { kind = kind.Degenerate; line = 0; cell = cell }

-- a refusal of the run as the outcome
abbrev pub run_outcome : RunRefusal → Outcome
run_outcome run.TooManyEntries = Mesh too_many
run_outcome (run.Zero cell at) = Mesh (degenerate cell)
run_outcome (run.CellPassed cell at op left right) = Passed (spot.Cell cell)
run_outcome (run.SumPassed row col) = Passed (spot.Sum row col)
run_outcome run.Memory = Memory
