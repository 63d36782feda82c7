use Rattle.std.proofs.Common.{◌≡◌, ◌-◌, ◌<◌, ◌≤◌, sym, ◌∙◌, ap, subst, arith}
use Rattle.ratio.specs.NumberText.{scaled_by_tens, power_positive}
use Rattle.ratio.specs.Value.{fraction_of, valued}
use Rattle.ratio.proofs.FitLaws.{fitting_of, none_fitting}
use Rattle.ratio.proofs.Tens.{lowered_start, lowered_goes, lowered_stops}
use Rattle.ratio.proofs.decimal.lowered.Goals as goal

pub one_over-requires-clause-positive : goal.one_over-requires-clause-positive
one_over-requires-clause-positive c = subst (λ n. 0 < n) (sym c.power_of_ten.ensures.value) (power_positive _)

pub returns-in_err-value : goal.returns-in_err-value
returns-in_err-value c =
    let part : c.min-step.result ≤ c.loop-left.left = omega arith in
    ap valued c.from_residual.ensures
    ∙ none_fitting (scaled_by_tens c.args.m 0 c.args.k)
    (lowered_stops c.args.m c.args.k c.loop-left.left c.min-step.result c.power_of_ten.result (fraction_of c.loop-left.value) (fraction_of c.one_over.result)
    c.requires c.loop-left.invariant.within part c.loop-left.invariant.value c.one_over.ensures c.power_of_ten.ensures.value
    (sym c.mul.ensures ∙ ap valued c.in_err-value.was))

pub returns : goal.returns
returns c =
    let all : c.args.k - c.loop-left.left ≡ c.args.k = omega arith in
    fitting_of c.loop-left.value (scaled_by_tens c.args.m 0 c.args.k) (c.loop-left.invariant.value ∙ ap (λ n. scaled_by_tens c.args.m 0 n) all)

pub loop-left-init : goal.loop-left-init
loop-left-init c =
    let none : 0 ≡ c.args.k - c.args.k = omega arith in
    record { within = omega arith; value = c.whole-value.ensures ∙ lowered_start c.args.m ∙ ap (λ n. scaled_by_tens c.args.m 0 n) none }

pub loop-left-preserved : goal.loop-left-preserved
loop-left-preserved c =
    let part : c.min-step.result ≤ c.loop-left.left = omega arith in
    record {
      within = omega arith;
      value =
          lowered_goes c.args.m c.args.k c.loop-left.left c.min-step.result c.power_of_ten.result (fraction_of c.loop-left.value) (fraction_of c.one_over.result) (fraction_of c.in_ok-value.value)
          c.loop-left.invariant.within part c.loop-left.invariant.value c.one_over.ensures c.power_of_ten.ensures.value
          (sym c.mul.ensures ∙ ap valued c.in_ok-value.was);
    }
