use Rattle.std.proofs.Common.{sym, ◌∙◌, ap, subst, ◌≡◌, ◌<◌, ◌^◌, arith}
use Rattle.algebra.specs.Gcd.{gcd}
use Rattle.algebra.specs.Sign.{is_negative}
use Rattle.algebra.specs.GcdLaws.{coprime_comm, coprime_from_gcd, gcd_from_coprime}
use Rattle.ratio.proofs.SignLaws.{no_reciprocal, no_size, some_size, is_reciprocal, inverse_value}
use Rattle.ratio.proofs.ProductLaws.{plain_integer, plain_size, value_where}
use Rattle.ratio.specs.Value.{fraction_of}
use Rattle.algebra.specs.Fraction.{inverse}
use Rattle.ratio.proofs.reduced.Ratio.inv.Goals as goal

pub returns-then-size-eq0 : goal.returns-then-size-eq0
returns-then-size-eq0 c = no_reciprocal c.args.self (no_size c.args.self.n c.unsigned_abs-size.result (plain_size c.args.self.n _ c.args.self.fits c.unsigned_abs-size.ensures.value) c.if-size-eq0.true)

pub build-requires-clause-lowest : goal.build-requires-clause-lowest
build-requires-clause-lowest c =
    subst (λ k. gcd c.args.self.d k ≡ 1) (sym (plain_size c.args.self.n _ c.args.self.fits c.unsigned_abs-size.ensures.value))
    (gcd_from_coprime _ _ (coprime_comm _ _ (coprime_from_gcd _ _ c.args.self.lowest)))

pub returns : goal.returns
returns c =
    let size = plain_size c.args.self.n c.unsigned_abs-size.result c.args.self.fits c.unsigned_abs-size.ensures.value in
    let some : 0 < c.unsigned_abs-size.result = omega arith in
    let nonzero = some_size c.args.self.n c.unsigned_abs-size.result size some in
    is_reciprocal c.build.result c.args.self nonzero
    (c.build.ensures.passes.1 (c.args.self.small, subst (λ k. k < 2 ^ 127) (sym size) c.args.self.fits))
    (value_where c.build.result _ (λ r. fraction_of r ≡ inverse (fraction_of c.args.self)) c.build.ensures.value
    (λ r p. inverse_value r c.args.self c.unsigned_abs-size.result c.negative.result nonzero (c.negative.ensures ∙ ap is_negative (plain_integer c.args.self.n c.args.self.fits)) size p))
