use Rattle.std.proofs.Common.{ap, ◌∙◌, arith}
use Rattle.std.specs.List.{flat_map}
use Rattle.std.proofs.lemmas.List.{take_all}
use Rattle.monos.specs.Monomial.{directions}
use Rattle.kernel_statements.proofs.digits.directions.Goals as goal

pub returns : goal.returns
returns c = c.loop-atom.invariant ∙ ap (flat_map directions) (take_all c.loop-atom.atom-index c.args.atoms.now (omega arith))
