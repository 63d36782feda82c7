use Rattle.std.proofs.Common.{◌≡◌, ℕ, ◌+◌, ◌*◌, ◌-◌, ◌^◌, ◌∙◌, ap, arith}
use Rattle.calculus.specs.LocalFunction.{factorial}
use Rattle.weigh.specs.Weighing.{kept}
use Rattle.admit.proofs.FormLaws.{factorial_within}
use Rattle.admit.proofs.StepLaws.{kept_times}
use Rattle.admit.proofs.forms.kept_size.Goals as goal

pub returns : goal.returns
returns c =
    let w = c.args.w.now in
    let n : ℕ = factorial (w.deg + c.args.d) in
    let first : c.kept_factorial.result ≡ kept n =
    c.kept_factorial.ensures ∙ ap (λ m. kept (factorial m)) c.saturating_add.ensures ∙ factorial_within (2 ^ 128 - 1) (w.deg + c.args.d) (omega arith) in
    let scale : c.product-scale.result ≡ kept (n * w.fac) = c.product-scale.ensures ∙ ap (λ m. kept (m * w.fac)) first ∙ kept_times n w.fac in
    let cost : c.product.result ≡ kept (n * w.fac * w.cost) = c.product.ensures ∙ ap (λ m. kept (m * w.cost)) scale ∙ kept_times (n * w.fac) w.cost in
    let num : c.product-2.result ≡ kept (n * w.fac * w.cost * w.num) = c.product-2.ensures ∙ ap (λ m. kept (m * w.num)) cost ∙ kept_times (n * w.fac * w.cost) w.num in
    c.product-3.ensures ∙ ap (λ m. kept (m * w.s)) num ∙ kept_times (n * w.fac * w.cost * w.num) w.s
