use Rattle.ratio.specs.Value.{fraction_of}
use Rattle.kernel_statements.proofs.QuotientLaws.{has_reciprocal, reciprocal_is, has_quotient, quotient_is}
use Rattle.kernel_statements.proofs.counted.quotient.Goals as goal

pub unreachable-requires-in-None : goal.unreachable-requires-in-None
unreachable-requires-in-None c = has_reciprocal (fraction_of c.args.y) c.requires.some (c.in-None.ensures)

pub unreachable-requires : goal.unreachable-requires
unreachable-requires c =
    has_quotient (fraction_of c.args.x) (fraction_of c.args.y) (fraction_of c.in-Some.reciprocal)
    (reciprocal_is (fraction_of c.args.y) _ c.requires.some (c.in-Some.ensures)) (c.requires.fits c.requires.some) (c.in-None-mul.ensures)

pub returns : goal.returns
returns c =
    quotient_is (fraction_of c.args.x) (fraction_of c.args.y) (fraction_of c.in-Some.reciprocal) (fraction_of c.in-Some-mul.quotient)
    (reciprocal_is (fraction_of c.args.y) _ c.requires.some (c.in-Some.ensures)) (c.requires.fits c.requires.some) (c.in-Some-mul.ensures)
