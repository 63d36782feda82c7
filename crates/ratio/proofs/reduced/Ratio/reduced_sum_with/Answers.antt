use Rattle.std.proofs.Common.{◌≡◌, ◌/◌, ◌<◌, ◌^◌, unsigned_abs, subst, sym, ap, ◌∙◌}
use Rattle.algebra.specs.Gcd.{gcd}
use Rattle.algebra.specs.Sign.{signed, is_negative}
use Rattle.ratio.specs.Value.{fraction_of}
use Rattle.algebra.specs.Fraction.{add as plus}
use Rattle.algebra.specs.GcdLaws.{gcd_positive_right}
use Rattle.ratio.proofs.ProductLaws.{none_where, below_limit, plain_integer, value_where}
use Rattle.ratio.proofs.SumLaws.{sum_steps, built_sum, SumFound}
use Rattle.ratio.proofs.reduced.Ratio.reduced_sum_with.Goals as goal

pub scaled_quotient-requires-clause-some : goal.scaled_quotient-requires-clause-some
scaled_quotient-requires-clause-some c = subst (λ n. 0 < n) (sym c.greatest_common_divisor-g.ensures) (gcd_positive_right _ _ c.args.o.positive)

pub scaled_quotient-requires-2-clause-some : goal.scaled_quotient-requires-2-clause-some
scaled_quotient-requires-2-clause-some c = subst (λ n. 0 < n) (sym c.greatest_common_divisor-g.ensures) (gcd_positive_right _ _ c.args.o.positive)

pub quotient_product-requires-clause-left : goal.quotient_product-requires-clause-left
quotient_product-requires-clause-left c = subst (λ n. 0 < n) (sym c.greatest_common_divisor-g.ensures) (gcd_positive_right _ _ c.args.o.positive)

pub quotient_product-requires-clause-right : goal.quotient_product-requires-clause-right
quotient_product-requires-clause-right c = subst (λ n. 0 < n) (sym c.greatest_common_divisor-h.ensures) (gcd_positive_right _ _ (subst (λ n. 0 < n) (sym c.greatest_common_divisor-g.ensures) (gcd_positive_right _ _ c.args.o.positive)))

pub nonzero_div-size : goal.nonzero_div-size
nonzero_div-size c = subst (λ n. 0 < n) (sym c.greatest_common_divisor-h.ensures) (gcd_positive_right _ _ (subst (λ n. 0 < n) (sym c.greatest_common_divisor-g.ensures) (gcd_positive_right _ _ c.args.o.positive)))

pub returns-in_err-bottom-clause-passes : goal.returns-in_err-bottom-clause-passes
returns-in_err-bottom-clause-passes c =
    let s = sum_steps c.args.self c.args.o c.greatest_common_divisor-g.result c.in_ok-p.p c.in_ok-q.q c.in_ok-t.t c.unsigned_abs-size.result c.greatest_common_divisor-h.result c.greatest_common_divisor-g.ensures
    c.in_ok-p.ensures c.in_ok-q.ensures c.in_ok-t.ensures c.unsigned_abs-size.ensures.value c.greatest_common_divisor-h.ensures in
    none_where c.from_residual-in_err-bottom.result c.from_residual-in_err-bottom.ensures (λ k. c.in_err-bottom.ensures (below_limit _ (s.0.fits.0 k.3).1))

pub build-requires-clause-positive : goal.build-requires-clause-positive
build-requires-clause-positive c =
    let s = sum_steps c.args.self c.args.o c.greatest_common_divisor-g.result c.in_ok-p.p c.in_ok-q.q c.in_ok-t.t c.unsigned_abs-size.result c.greatest_common_divisor-h.result c.greatest_common_divisor-g.ensures
    c.in_ok-p.ensures c.in_ok-q.ensures c.in_ok-t.ensures c.unsigned_abs-size.ensures.value c.greatest_common_divisor-h.ensures in
    subst (λ n. 0 < n) (sym c.in_ok-bottom.ensures.1) s.0.positive

pub build-requires-clause-lowest : goal.build-requires-clause-lowest
build-requires-clause-lowest c =
    let s = sum_steps c.args.self c.args.o c.greatest_common_divisor-g.result c.in_ok-p.p c.in_ok-q.q c.in_ok-t.t c.unsigned_abs-size.result c.greatest_common_divisor-h.result c.greatest_common_divisor-g.ensures
    c.in_ok-p.ensures c.in_ok-q.ensures c.in_ok-t.ensures c.unsigned_abs-size.ensures.value c.greatest_common_divisor-h.ensures in
    subst (λ n. gcd (c.unsigned_abs-size.result / c.greatest_common_divisor-h.result) n ≡ 1) (sym c.in_ok-bottom.ensures.1) s.0.lowest

pub returns-clause-passes : goal.returns-clause-passes
returns-clause-passes c =
    let s = sum_steps c.args.self c.args.o c.greatest_common_divisor-g.result c.in_ok-p.p c.in_ok-q.q c.in_ok-t.t c.unsigned_abs-size.result c.greatest_common_divisor-h.result c.greatest_common_divisor-g.ensures
    c.in_ok-p.ensures c.in_ok-q.ensures c.in_ok-t.ensures c.unsigned_abs-size.ensures.value c.greatest_common_divisor-h.ensures in
    let found = subst (SumFound c.args.self.n c.args.o.n c.args.self.d c.args.o.d c.in_ok-t.t (c.unsigned_abs-size.result / c.greatest_common_divisor-h.result)) (sym c.in_ok-bottom.ensures.1) s.0 in
    (λ v. (s.1, s.2, s.3, found.fits.1 (c.build.ensures.passes.0 v)), λ k. c.build.ensures.passes.1 (found.fits.0 k.3))

pub returns-clause-value : goal.returns-clause-value
returns-clause-value c =
    let s = sum_steps c.args.self c.args.o c.greatest_common_divisor-g.result c.in_ok-p.p c.in_ok-q.q c.in_ok-t.t c.unsigned_abs-size.result c.greatest_common_divisor-h.result c.greatest_common_divisor-g.ensures
    c.in_ok-p.ensures c.in_ok-q.ensures c.in_ok-t.ensures c.unsigned_abs-size.ensures.value c.greatest_common_divisor-h.ensures in
    let found = subst (SumFound c.args.self.n c.args.o.n c.args.self.d c.args.o.d c.in_ok-t.t (c.unsigned_abs-size.result / c.greatest_common_divisor-h.result)) (sym c.in_ok-bottom.ensures.1) s.0 in
    value_where c.build.result (λ r. (r.n ≡ signed c.negative.result (c.unsigned_abs-size.result / c.greatest_common_divisor-h.result)) × (r.d ≡ c.in_ok-bottom.bottom)) (λ r. fraction_of r ≡ plus (fraction_of c.args.self) (fraction_of c.args.o))
    c.build.ensures.value
    (λ r p. built_sum r c.args.self c.args.o c.negative.result c.in_ok-t.t (c.unsigned_abs-size.result / c.greatest_common_divisor-h.result) c.in_ok-bottom.bottom
    (c.negative.ensures ∙ ap is_negative (plain_integer c.in_ok-t.t (subst (λ z. unsigned_abs z < 2 ^ 127) (sym c.in_ok-t.ensures.1) c.in_ok-t.ensures.0))) p found)
