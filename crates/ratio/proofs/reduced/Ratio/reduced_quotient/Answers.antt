use Rattle.std.proofs.Common.{◌≡◌, pos, ◌*◌, ◌/◌, ◌<◌, ◌*ℤ◌, subst, subst₂, sym, ap, ap₂, ◌∙◌, pos_of_ne-zero, to_z-of_z}
use Rattle.algebra.specs.Sign.{signed, signs_differ}
use Rattle.algebra.specs.GcdLaws.{gcd_positive_right}
use Rattle.ratio.proofs.ProductLaws.{lowest_terms, signed_cross, plain_number, value_where}
use Rattle.ratio.proofs.reduced.Ratio.reduced_quotient.Goals as goal

pub nonzero_div-a : goal.nonzero_div-a
nonzero_div-a c = subst (λ n. 0 < n) (sym c.greatest_common_divisor-g.ensures) (gcd_positive_right _ _ (pos_of_ne-zero c.if-b-eq0.false))

pub nonzero_div-b : goal.nonzero_div-b
nonzero_div-b c = subst (λ n. 0 < n) (sym c.greatest_common_divisor-g.ensures) (gcd_positive_right _ _ (pos_of_ne-zero c.if-b-eq0.false))

pub build-requires-clause-positive : goal.build-requires-clause-positive
build-requires-clause-positive c = (lowest_terms _ c.unsigned_abs-b.result c.greatest_common_divisor-g.result (pos_of_ne-zero c.if-b-eq0.false) c.greatest_common_divisor-g.ensures).positive

pub build-requires-clause-lowest : goal.build-requires-clause-lowest
build-requires-clause-lowest c = (lowest_terms c.unsigned_abs-a.result c.unsigned_abs-b.result c.greatest_common_divisor-g.result (pos_of_ne-zero c.if-b-eq0.false) c.greatest_common_divisor-g.ensures).lowest

pub returns-clause-value : goal.returns-clause-value
returns-clause-value c =
    let l = lowest_terms c.unsigned_abs-a.result c.unsigned_abs-b.result c.greatest_common_divisor-g.result (pos_of_ne-zero c.if-b-eq0.false) c.greatest_common_divisor-g.ensures in
    let a = plain_number c.args.n c.unsigned_abs-a.result c.ranges.n c.unsigned_abs-a.ensures.value in
    let b = plain_number c.args.d c.unsigned_abs-b.result c.ranges.d c.unsigned_abs-b.ensures.value in
    value_where c.build.result (λ r. (r.n ≡ signed c.differ.result (c.unsigned_abs-a.result / c.greatest_common_divisor-g.result)) × (r.d ≡ c.unsigned_abs-b.result / c.greatest_common_divisor-g.result)) (λ r. r.n *ℤ c.args.d ≡ c.args.n *ℤ pos r.d)
    c.build.ensures.value
    (λ r p. ap (λ z. z *ℤ c.args.d) (p.0 ∙ ap (λ s. signed s (c.unsigned_abs-a.result / c.greatest_common_divisor-g.result)) (c.differ.ensures ∙ ap₂ signs_differ (to_z-of_z c.ranges.n) (to_z-of_z c.ranges.d)))
    ∙ signed_cross c.args.n c.args.d (c.unsigned_abs-a.result / c.greatest_common_divisor-g.result) (c.unsigned_abs-b.result / c.greatest_common_divisor-g.result)
    (subst₂ (λ m n. c.unsigned_abs-a.result / c.greatest_common_divisor-g.result * n ≡ m * (c.unsigned_abs-b.result / c.greatest_common_divisor-g.result)) a b l.cross)
    ∙ ap (λ k. c.args.n *ℤ pos k) (sym p.1))
