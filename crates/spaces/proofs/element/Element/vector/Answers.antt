use Rattle.spaces.proofs.SpaceLaws.{described_vector_tree}
use Rattle.spaces.proofs.element.Element.vector.Goals as goal

pub invariant_of-result : goal.invariant_of-result
invariant_of-result c = described_vector_tree _ _ _ _ _ _ _ _ c.in_ok-part.ensures c.part.view_is c.part.invariant c.in_ok-flat.ensures
