use Rattle.std.proofs.Common.{arith}
use Rattle.spaces.proofs.SpaceLaws.{count_is, described_at}
use Rattle.spaces.proofs.element.Element.value_size.Goals as goal

pub overflow_cast-result : goal.overflow_cast-result
overflow_cast-result c = let d = described_at _ _ _ _ _ c.self.view_is c.self.invariant in omega (arith, count_is _ _ _ c.items.ensures d.parts_are, d.few)

pub returns-clause-size : goal.returns-clause-size
returns-clause-size c = let d = described_at _ _ _ _ _ c.self.view_is c.self.invariant in count_is _ _ _ c.items.ensures d.parts_are

pub returns-clause-some : goal.returns-clause-some
returns-clause-some c = let d = described_at _ _ _ _ _ c.self.view_is c.self.invariant in omega (arith, count_is _ _ _ c.items.ensures d.parts_are, d.some)

pub returns-clause-few : goal.returns-clause-few
returns-clause-few c = let d = described_at _ _ _ _ _ c.self.view_is c.self.invariant in omega (arith, count_is _ _ _ c.items.ensures d.parts_are, d.few)
