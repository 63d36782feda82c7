use Rattle.std.proofs.Common.{◌≡◌, ◌*◌, ◌<◌, ◌^◌, ◌*ℤ◌, unsigned_abs, ◌↔◌, subst, subst₂, sym, ap₂, ◌∙◌}
use Rattle.algebra.specs.Gcd.{gcd}
use Rattle.ratio.specs.Value.{fraction_of}
use Rattle.ratio.specs.Parts.{Fits}
use Rattle.algebra.specs.Fraction.{mul as times}
use Rattle.algebra.specs.GcdLaws.{gcd_positive_right}
use Rattle.ratio.proofs.ProductLaws.{found, none_where, plain_size, below_limit, plain_integer, built_product, value_where}
use Rattle.algebra.specs.Sign.{signed, signs_differ}
use Rattle.ratio.proofs.reduced.Ratio.reduced_product_with.Goals as goal

pub quotient_product-requires-clause-left : goal.quotient_product-requires-clause-left
quotient_product-requires-clause-left c = subst (λ n. 0 < n) (sym c.greatest_common_divisor-g.ensures) (gcd_positive_right _ _ c.args.o.positive)

pub quotient_product-requires-clause-right : goal.quotient_product-requires-clause-right
quotient_product-requires-clause-right c = subst (λ n. 0 < n) (sym c.greatest_common_divisor-h.ensures) (gcd_positive_right _ _ c.args.self.positive)

pub quotient_product-requires-2-clause-left : goal.quotient_product-requires-2-clause-left
quotient_product-requires-2-clause-left c = subst (λ n. 0 < n) (sym c.greatest_common_divisor-h.ensures) (gcd_positive_right _ _ c.args.self.positive)

pub quotient_product-requires-2-clause-right : goal.quotient_product-requires-2-clause-right
quotient_product-requires-2-clause-right c = subst (λ n. 0 < n) (sym c.greatest_common_divisor-g.ensures) (gcd_positive_right _ _ c.args.o.positive)

pub returns-in_err-top-clause-passes : goal.returns-in_err-top-clause-passes
returns-in_err-top-clause-passes c =
    let f = found c.args.self.n c.args.o.n c.args.self.d c.args.o.d _ _ _ _ c.args.self.positive c.args.o.positive c.args.self.lowest c.args.o.lowest
    (plain_size c.args.self.n _ c.args.self.fits c.unsigned_abs-a.ensures.value) (plain_size c.args.o.n _ c.args.o.fits c.unsigned_abs-c.ensures.value) c.greatest_common_divisor-g.ensures c.greatest_common_divisor-h.ensures in
    none_where c.from_residual.result c.from_residual.ensures (λ k. c.in_err-top.ensures (below_limit _ (f.fits.0 k).0))

pub returns-in_err-bottom-clause-passes : goal.returns-in_err-bottom-clause-passes
returns-in_err-bottom-clause-passes c =
    let f = found c.args.self.n c.args.o.n c.args.self.d c.args.o.d _ _ _ _ c.args.self.positive c.args.o.positive c.args.self.lowest c.args.o.lowest
    (plain_size c.args.self.n _ c.args.self.fits c.unsigned_abs-a.ensures.value) (plain_size c.args.o.n _ c.args.o.fits c.unsigned_abs-c.ensures.value) c.greatest_common_divisor-g.ensures c.greatest_common_divisor-h.ensures in
    none_where c.from_residual-in_err-bottom.result c.from_residual-in_err-bottom.ensures (λ k. c.in_err-bottom.ensures (below_limit _ (f.fits.0 k).1))

pub build-requires-clause-positive : goal.build-requires-clause-positive
build-requires-clause-positive c =
    let f = found c.args.self.n c.args.o.n c.args.self.d c.args.o.d _ _ _ _ c.args.self.positive c.args.o.positive c.args.self.lowest c.args.o.lowest
    (plain_size c.args.self.n _ c.args.self.fits c.unsigned_abs-a.ensures.value) (plain_size c.args.o.n _ c.args.o.fits c.unsigned_abs-c.ensures.value) c.greatest_common_divisor-g.ensures c.greatest_common_divisor-h.ensures in
    subst (λ n. 0 < n) (sym c.in_ok-bottom.ensures.1) f.positive

pub build-requires-clause-lowest : goal.build-requires-clause-lowest
build-requires-clause-lowest c =
    let f = found c.args.self.n c.args.o.n c.args.self.d c.args.o.d _ _ _ _ c.args.self.positive c.args.o.positive c.args.self.lowest c.args.o.lowest
    (plain_size c.args.self.n _ c.args.self.fits c.unsigned_abs-a.ensures.value) (plain_size c.args.o.n _ c.args.o.fits c.unsigned_abs-c.ensures.value) c.greatest_common_divisor-g.ensures c.greatest_common_divisor-h.ensures in
    subst₂ (λ m n. gcd m n ≡ 1) (sym c.in_ok-top.ensures.1) (sym c.in_ok-bottom.ensures.1) f.lowest

pub returns-clause-passes : goal.returns-clause-passes
returns-clause-passes c =
    let f = found c.args.self.n c.args.o.n c.args.self.d c.args.o.d _ _ _ _ c.args.self.positive c.args.o.positive c.args.self.lowest c.args.o.lowest
    (plain_size c.args.self.n _ c.args.self.fits c.unsigned_abs-a.ensures.value) (plain_size c.args.o.n _ c.args.o.fits c.unsigned_abs-c.ensures.value) c.greatest_common_divisor-g.ensures c.greatest_common_divisor-h.ensures in
    let fits = subst₂ (λ m n. Fits (unsigned_abs (c.args.self.n *ℤ c.args.o.n)) (c.args.self.d * c.args.o.d) ↔ ((m < 2 ^ 127) × (n < 2 ^ 127))) (sym c.in_ok-top.ensures.1) (sym c.in_ok-bottom.ensures.1) f.fits in
    (λ s. fits.1 (c.build.ensures.passes.0 s), λ k. c.build.ensures.passes.1 (fits.0 k))

pub returns-clause-value : goal.returns-clause-value
returns-clause-value c =
    let f = found c.args.self.n c.args.o.n c.args.self.d c.args.o.d _ _ _ _ c.args.self.positive c.args.o.positive c.args.self.lowest c.args.o.lowest
    (plain_size c.args.self.n _ c.args.self.fits c.unsigned_abs-a.ensures.value) (plain_size c.args.o.n _ c.args.o.fits c.unsigned_abs-c.ensures.value) c.greatest_common_divisor-g.ensures c.greatest_common_divisor-h.ensures in
    value_where c.build.result (λ r. (r.n ≡ signed c.differ.result c.in_ok-top.top) × (r.d ≡ c.in_ok-bottom.bottom)) (λ r. fraction_of r ≡ times (fraction_of c.args.self) (fraction_of c.args.o))
    c.build.ensures.value
    (λ r p. built_product r c.args.self c.args.o c.differ.result c.in_ok-top.top c.in_ok-bottom.bottom
    (c.differ.ensures ∙ ap₂ signs_differ (plain_integer c.args.self.n c.args.self.fits) (plain_integer c.args.o.n c.args.o.fits))
    p
    (subst₂ (λ m n. m * (c.args.self.d * c.args.o.d) ≡ unsigned_abs c.args.self.n * unsigned_abs c.args.o.n * n) (sym c.in_ok-top.ensures.1) (sym c.in_ok-bottom.ensures.1) f.cross))
