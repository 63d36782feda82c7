use Rattle.std.proofs.Common.{◌*◌, ap₂, []}
use Rattle.std.specs.Prelude.{nat_lt}
use Rattle.mesh_in.specs.MeshData.{fractions}
use Rattle.assembly.specs.Assembly.{most_entries}
use Rattle.form_assembly.proofs.form_assembly.are_too_many.Goals as goal

pub returns : goal.returns
returns c = λ numbers o.
    ap₂ (λ cells entries. nat_lt most_entries (cells * entries)) c.cells.ensures (c.entry_count.ensures.value numbers (fractions c.args.mesh.now) (λ n. []) o)
