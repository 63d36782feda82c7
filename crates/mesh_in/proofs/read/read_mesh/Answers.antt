use Rattle.std.proofs.Common.{subst}
use Rattle.mesh_in.specs.Reader.{Gives}
use Rattle.mesh_in.proofs.TextLaws.{mesh_read, refusal_read, mesh_text_again, refused_text_again}
use Rattle.mesh_in.proofs.read.read_mesh.Goals as goal

pub returns-clause-mesh : goal.returns-clause-mesh
returns-clause-mesh c = mesh_read c.args.text.now c.read_any.result c.read_any.ensures

pub returns-clause-every_mesh : goal.returns-clause-every_mesh
returns-clause-every_mesh c = λ m is. subst (Gives c.read_any.result) (mesh_text_again c.args.text.now m is) c.read_any.ensures

pub returns-clause-refusal : goal.returns-clause-refusal
returns-clause-refusal c = refusal_read c.args.text.now c.read_any.result c.read_any.ensures

pub returns-clause-every_refusal : goal.returns-clause-every_refusal
returns-clause-every_refusal c = λ e is. subst (Gives c.read_any.result) (refused_text_again c.args.text.now e is) c.read_any.ensures
