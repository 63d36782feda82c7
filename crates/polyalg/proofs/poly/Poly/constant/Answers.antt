use Rattle.std.proofs.Common.{◌≡◌, subst, IfOk}
use Rattle.ratio.specs.Value.{fraction_of}
use Rattle.polyalg.proofs.MonomialLaws.{constant_monomial}
use Rattle.polyalg.specs.Terms.{value_of}
use Rattle.polyalg.proofs.Variables.{in_constant}
use Rattle.polyalg.proofs.poly.Poly.constant.Goals as goal

pub returns-clause-value : goal.returns-clause-value
returns-clause-value c = subst (λ q. IfOk c.single.result (λ p. value_of p ≡ q)) (constant_monomial (fraction_of c.args.c)) c.single.ensures.value

pub returns-clause-variables : goal.returns-clause-variables
returns-clause-variables c d = c.single.ensures.variables d (λ i l. in_constant i)
