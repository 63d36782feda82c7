use Rattle.std.proofs.Common.{refl}
use Rattle.tree_values.specs.PolyValue.{value_of}
use Rattle.tree_values.proofs.ResultLaws.{ok_as}
use Rattle.tree_values.proofs.DensityLaws as l
use Rattle.tree_values.proofs.densities.integrand.Goals as goal

pub returns : goal.returns
returns c = ok_as value_of c.value.result _ _ (l.without_names c.args.scene.now _ c.args.tree.now refl refl refl) c.value.ensures
