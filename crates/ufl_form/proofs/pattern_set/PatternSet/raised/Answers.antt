use Rattle.std.proofs.Common.{◌≡◌, ap, ◌∙◌, sym, add-one, arith}
use Rattle.ufl_form.specs.Patterns.{product, raised}
use Rattle.ufl_form.proofs.pattern_set.PatternSet.raised.Goals as goal

pub loop-number-preserved : goal.loop-number-preserved
loop-number-preserved c =
    c.product-all.ensures ∙ ap (λ x. product x c.args.self) c.loop-number.invariant ∙ ap (raised c.args.self) (sym (add-one c.loop-number.number))

pub returns : goal.returns
returns c =
    let same : c.loop-number.number ≡ c.args.n = omega (arith, c.loop-number-test.false, c.loop-number.auto.number-end) in
    c.loop-number.invariant ∙ ap (raised c.args.self) same
