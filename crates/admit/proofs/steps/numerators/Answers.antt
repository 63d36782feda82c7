use Rattle.std.proofs.Common.{◌≡◌, ℕ, ◌*◌, ◌/◌, ◌≤◌, sym, ◌∙◌, ap, ap₂, subst}
use Rattle.algebra.specs.GcdLaws.{gcd_positive_left}
use Rattle.weigh.specs.Steps.{lcm}
use Rattle.weigh.specs.Weighing.{kept}
use Rattle.admit.specs.Put.{put_by}
use Rattle.admit.proofs.StepLaws.{lcm_by_left, lcm_by_right, put_kept}
use Rattle.admit.proofs.steps.numerators.Goals as goal

pub nonzero_div-b : goal.nonzero_div-b
nonzero_div-b c = subst (λ n. 1 ≤ n) (sym c.requires.divisor) (gcd_positive_left c.args.a.now.den c.args.b.now.den c.requires.left)

pub nonzero_div-a : goal.nonzero_div-a
nonzero_div-a c = subst (λ n. 1 ≤ n) (sym c.requires.divisor) (gcd_positive_left c.args.a.now.den c.args.b.now.den c.requires.left)

pub returns : goal.returns
returns c =
    let x : ℕ = c.args.a.now.num * (lcm c.args.a.now.den c.args.b.now.den / c.args.a.now.den) in
    let y : ℕ = c.args.b.now.num * (lcm c.args.a.now.den c.args.b.now.den / c.args.b.now.den) in
    let left : c.product-left.result ≡ kept x =
    c.product-left.ensures ∙ ap (λ g. kept (c.args.a.now.num * (c.args.b.now.den / g))) c.requires.divisor
    ∙ ap (λ n. kept (c.args.a.now.num * n)) (sym (lcm_by_left c.args.a.now.den c.args.b.now.den c.requires.left)) in
    let right : c.product-right.result ≡ kept y =
    c.product-right.ensures ∙ ap (λ g. kept (c.args.b.now.num * (c.args.a.now.den / g))) c.requires.divisor
    ∙ ap (λ n. kept (c.args.b.now.num * n)) (sym (lcm_by_right c.args.a.now.den c.args.b.now.den c.requires.right)) in
    c.put_together.ensures ∙ ap₂ (λ m n. kept (put_by c.args.how m n)) left right ∙ put_kept c.args.how x y
