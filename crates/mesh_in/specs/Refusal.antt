-- The refusals of a mesh
use Rattle.std.specs.Prelude.{ℕ}
use Rattle.mesh_in.specs.declared.refusal.MeshKind.{MeshKind}
use Rattle.mesh_in.specs.declared.refusal.MeshKind.TheVariants.{Memory}
use Rattle.mesh_in.specs.declared.refusal.MeshRefusal.{MeshRefusal}

-- one that blames a line, or with 0 the text as a whole
abbrev pub refusal : MeshKind → ℕ → MeshRefusal
refusal kind line = record { kind = kind; line = line; cell = 0 }

abbrev pub out_of_memory : MeshRefusal
out_of_memory = refusal Memory 0
