use Rattle.std.proofs.Common.{◌*◌, ◌^◌, ◌<◌, sym, ◌∙◌, ap, subst, lit<}
use native.Mathlib.Nat as N
use Rattle.ratio.specs.NumberText.{scaled_by_tens}
use Rattle.ratio.specs.Value.{valued}
use Rattle.ratio.proofs.FitLaws.{fitting_of, none_fitting}
use Rattle.ratio.proofs.Tens.{wide_power, wide_whole, whole_is}
use Rattle.ratio.proofs.decimal.raised.Goals as goal

pub returns-then-k-gt-WIDEST : goal.returns-then-k-gt-WIDEST
returns-then-k-gt-WIDEST c = none_fitting (scaled_by_tens c.args.m c.args.k 0) (wide_whole c.args.m c.args.k (wide_power c.args.m c.args.k c.requires c.if-k-gt-WIDEST.true))

pub returns-in_err-top : goal.returns-in_err-top
returns-in_err-top c =
    ap valued c.from_residual.ensures
    ∙ none_fitting (scaled_by_tens c.args.m c.args.k 0) (wide_whole c.args.m c.args.k (λ l. c.in_err-top.ensures (subst (λ n. c.args.m * n < 2 ^ 128) (sym c.power_of_ten.ensures.value) (N.lt_trans l (lit< tt)))))

pub returns-then-top-lt-LIMIT : goal.returns-then-top-lt-LIMIT
returns-then-top-lt-LIMIT c =
    fitting_of c.whole.result (scaled_by_tens c.args.m c.args.k 0) (c.whole.ensures ∙ whole_is c.in_ok-top.top c.args.m c.args.k (c.in_ok-top.ensures.1 ∙ ap (λ n. c.args.m * n) c.power_of_ten.ensures.value))

pub returns-else-top-lt-LIMIT : goal.returns-else-top-lt-LIMIT
returns-else-top-lt-LIMIT c =
    none_fitting (scaled_by_tens c.args.m c.args.k 0) (wide_whole c.args.m c.args.k (λ l. N.lt_irrefl (2 ^ 127) (N.lt_of_le_of_lt c.if-top-lt-LIMIT.false (subst (λ n. n < 2 ^ 127) (sym (c.in_ok-top.ensures.1 ∙ ap (λ n. c.args.m * n) c.power_of_ten.ensures.value)) l))))
