use Rattle.std.proofs.Common.{[], ◌∷◌, arith, ap, ◌∙◌}
use Rattle.spaces.specs.Scalar.{scalar_of, appended}
use Rattle.spaces.proofs.PartsLaws.{left_over, none_left, laid_out-is, copies_left, appended-push, appended-end}
use Rattle.spaces.proofs.parts.Parts.copies.Goals as goal

pub push-requires : goal.push-requires
push-requires c = omega (arith, c.loop-i.invariant.1)

pub loop-i-init : goal.loop-i-init
loop-i-init c = (ap (appended c.none-parts.result) (copies_left c.args.copies _) ∙ laid_out-is _ _ c.none-parts.ensures, omega (arith, ap (λ p. p.local) c.none-parts.ensures))

pub loop-i-preserved : goal.loop-i-preserved
loop-i-preserved c = (
  appended-push c.loop-i.parts _ _ _ _ _ (left_over c.args.copies c.loop-i._i (scalar_of c.args.part ∷ []) c.loop-i-test.true) c.in_ok-push.ensures c.loop-i.invariant.0,
  omega (arith, ap (λ p. p.local) c.in_ok-push.ensures, c.loop-i.invariant.1),
)

pub returns : goal.returns
returns c = appended-end _ _ _ (none_left c.args.copies c.loop-i._i (scalar_of c.args.part ∷ []) c.loop-i-test.false) c.loop-i.invariant.0
