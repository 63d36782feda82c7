use Rattle.std.proofs.Common.{◌∙◌, ap, sym}
use Rattle.mesh_in.specs.MeshText.{meaning}
use Rattle.ffc.specs.Inputs.{loads}
use Rattle.ffc.proofs.LoadLaws.{same_meaning, mesh_fits}
use Rattle.ffc.proofs.inputs.load_mesh.Goals as goal

pub returns-clause-cause : goal.returns-clause-cause
returns-clause-cause g c =
    let t = c.in_ok-text.ensures.ok in
    mesh_fits (loads (g.F.Files.content c.args.files.now) (g.F.Files.faults c.args.files.now) (g.F.Files.faults c.load.new.files) (g.F.Files.last_failed c.load.new.files)) c.args.name.now c.args.cell t.0 c.in_ok-text.text.items c.as_slice.result.now c.in-Err.refusal c.from.result t.1
    t.2 c.as_slice.ensures.value c.in-Err.ensures.refusal c.from.ensures

pub returns-in-Ok-clause-mesh : goal.returns-in-Ok-clause-mesh
returns-in-Ok-clause-mesh g c =
    let t = c.in_ok-text.ensures.ok in
    (t.0, t.1, (sym (ap meaning c.as_slice.ensures.value ∙ same_meaning t.0 c.in_ok-text.text.items t.2) ∙ c.in-Ok.ensures.mesh, c.in-Ok.ensures.kind))
