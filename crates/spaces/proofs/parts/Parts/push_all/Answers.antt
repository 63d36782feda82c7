use Rattle.std.proofs.Common.{map, ap}
use Rattle.std.proofs.lemmas.List.{drop_all}
use Rattle.spaces.specs.Scalar.{scalar_of}
use Rattle.spaces.proofs.PartsLaws.{drop_scalars, room_left, appended-push, appended-end}
use Rattle.spaces.specs.declared.parts.Part.{Part}
use Rattle.spaces.specs.declared.family.Family.TheVariants.{Lagrange}
use Rattle.spaces.proofs.parts.Parts.push_all.Goals as goal

pub push-requires : goal.push-requires
push-requires c = room_left c.loop-part.self c.args.self.now _ _ _ _ (drop_scalars c.args.parts.now c.loop-part.part-index _ c.loop-part-test.true) c.loop-part.invariant c.requires

pub loop-part-preserved : goal.loop-part-preserved
loop-part-preserved c =
    let none : Part = record { family = Lagrange; degree = 0; nodes = 0; offset = 0 } in
    appended-push c.loop-part.self _ _ _ _ _ (drop_scalars c.args.parts.now c.loop-part.part-index none c.loop-part-test.true) c.in_ok-push.ensures c.loop-part.invariant

pub returns : goal.returns
returns c = appended-end _ _ _ (ap (map scalar_of) (drop_all c.loop-part.part-index c.args.parts.now c.loop-part-test.false)) c.loop-part.invariant
