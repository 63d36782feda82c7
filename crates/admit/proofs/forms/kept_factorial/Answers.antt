use Rattle.std.proofs.Common.{◌≡◌, min, sym, ◌∙◌, ap, subst, arith}
use Rattle.calculus.specs.LocalFunction.{factorial}
use Rattle.weigh.specs.Weighing.{kept}
use Rattle.admit.proofs.FormLaws.{factorial_kept_at}
use Rattle.admit.proofs.forms.kept_factorial.Goals as goal

pub returns : goal.returns
returns c =
    let e = c.loop-k-test.false in
    let f = c.loop-k.auto.k-end in
    let g = c.min-k-end.ensures in
    let last : c.loop-k.k ≡ min c.args.n 40 = omega (arith, e, f, g) in
    c.loop-k.invariant ∙ ap (λ m. kept (factorial m)) last ∙ factorial_kept_at c.args.n
