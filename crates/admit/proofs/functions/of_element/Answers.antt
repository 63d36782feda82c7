use Rattle.std.proofs.Common.{◌≡◌, ◌≤◌, ◌-◌, List, sym, ◌∙◌, ap, arith}
use Rattle.spaces.specs.Scalar.{Scalar}
use Rattle.spaces.specs.Space.{scalars}
use Rattle.spaces.specs.Reading.{space_of}
use Rattle.admit.proofs.PartLaws.{low_part, low_scalars, one_more, part_there}
use Rattle.admit.proofs.functions.of_element.Goals as goal

pub with_part-w-requires-clause-degree : goal.with_part-w-requires-clause-degree
with_part-w-requires-clause-degree c =
    low_part (scalars (space_of c.args.element.now)) (c.loop-k.k - 1) c.in-Some.part (low_scalars (space_of c.args.element.now) c.tree-tree.ensures.lawful) (sym c.part_of.ensures ∙ c.in-Some.is)

pub loop-k-preserved : goal.loop-k-preserved
loop-k-preserved c =
    let ss : List Scalar = scalars (space_of c.args.element.now) in
    let b = c.loop-k.invariant.below in
    record {
      below = omega (arith, b);
      value = one_more ss c.loop-k.k c.in-Some.part c.loop-k.w c.with_part-w.result c.loop-k-test.true (low_scalars (space_of c.args.element.now) c.tree-tree.ensures.lawful) (sym c.part_of.ensures ∙ c.in-Some.is) c.loop-k.invariant.value
          c.with_part-w.ensures.value;
      denominators = c.with_part-w.ensures.denominators;
    }

pub unreachable-requires : goal.unreachable-requires
unreachable-requires c =
    part_there (scalars (space_of c.args.element.now)) c.loop-k.k c.loop-k-test.true c.loop-k.invariant.below (sym c.part_of.ensures ∙ c.in_default.is)
