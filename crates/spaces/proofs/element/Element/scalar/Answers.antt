use Rattle.std.proofs.Common.{◌≡◌, true}
use Rattle.spaces.specs.Family.{has_degree}
use Rattle.spaces.proofs.SpaceLaws.{described_scalar}
use Rattle.spaces.proofs.element.Element.scalar.Goals as goal

pub invariant_of-result : goal.invariant_of-result
invariant_of-result c =
    let h : has_degree c.args.family c.args.degree ≡ true = cc in
    described_scalar c.args.family c.args.cell c.args.degree c.node_count.result h c.node_count.ensures
