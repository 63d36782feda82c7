use Rattle.std.proofs.Common.{inl, refl}
use Rattle.std.proofs.lemmas.Result.{err_from_is_err_and}
use Rattle.mesh_in.specs.MeshData.{fractions}
use Rattle.answers.specs.Outcome.{run_outcome}
use Rattle.ffc.specs.Inputs.{loads}
use Rattle.ffc.proofs.AssembleLaws.{named_cause, mesh_cause, run_cause, assembled}
use Rattle.ffc.proofs.assemble.assemble.Goals as goal

pub returns-in_err-named-clause-cause : goal.returns-in_err-named-clause-cause
returns-in_err-named-clause-cause g c =
    let p = err_from_is_err_and c.from_residual-in_err-named.result c.from_residual-in_err-named.ensures.1 in
    rw (p.1, p.2)
    (inl (named_cause c.args.file.now c.args.name.now c.in_ok-program.program c.in_ok-program.ensures.says c.as_bytes-name.result.now c.in_err-named.field-0.0
    c.as_bytes-name.ensures.value c.in_err-named.ensures.cause))

pub returns-in_err-mesh-clause-cause : goal.returns-in_err-mesh-clause-cause
returns-in_err-mesh-clause-cause g c =
    let p = err_from_is_err_and c.from_residual-in_err-mesh.result c.from_residual-in_err-mesh.ensures.1 in
    let l = loads (g.F.Files.content c.args.files.now) (g.F.Files.faults c.args.files.now) (g.F.Files.faults c.load_mesh.new.files) (g.F.Files.last_failed c.load_mesh.new.files) in
    rw (p.1, p.2)
    (mesh_cause c.args.file.now c.args.name.now c.as_bytes-name.result.now c.in_ok-program.program c.in_ok-named.named.now c.cell.result c.as_bytes-name.ensures.value
    c.in_ok-program.ensures.says c.in_ok-named.ensures.named c.cell.ensures l c.args.mesh.now c.in_err-mesh.field-0.0 c.in_ok-named.ensures.weight c.in_err-mesh.ensures.cause)

pub returns-in_err-text-clause-cause : goal.returns-in_err-text-clause-cause
returns-in_err-text-clause-cause g c =
    let p = err_from_is_err_and c.from_residual-in_err-text.result c.from_residual-in_err-text.ensures.1 in
    let l = loads (g.F.Files.content c.args.files.now) (g.F.Files.faults c.args.files.now) (g.F.Files.faults c.load_mesh.new.files) (g.F.Files.last_failed c.load_mesh.new.files) in
    rw (p.1, p.2)
    (run_cause c.args.file.now c.args.name.now c.as_bytes-name.result.now c.in_ok-program.program c.in_ok-named.named.now c.cell.result c.as_bytes-name.ensures.value
    c.in_ok-program.ensures.says c.in_ok-named.ensures.named c.cell.ensures l c.args.mesh.now (fractions c.in_ok-mesh.mesh) c.in_err-text.field-0.0
    (run_outcome c.in_err-text.field-0.0) c.in_ok-named.ensures.weight c.in_ok-mesh.ensures.mesh refl c.in_err-text.ensures.refusal)

pub returns-clause-text : goal.returns-clause-text
returns-clause-text g c =
    assembled c.args.file.now c.args.name.now c.as_bytes-name.result.now c.in_ok-program.program c.in_ok-named.named.now c.cell.result c.as_bytes-name.ensures.value
    c.in_ok-program.ensures.says c.in_ok-named.ensures.named c.cell.ensures (g.F.Files.content c.args.files.now) c.args.mesh.now (fractions c.in_ok-mesh.mesh) c.in_ok-text.text.items
    c.in_ok-named.ensures.weight c.in_ok-mesh.ensures.mesh c.in_ok-text.ensures.whole c.in_ok-text.ensures.text
