use Rattle.std.proofs.Common.{◌∙◌, ap}
use Rattle.reference.specs.TermValue.{sum_of}
use Rattle.reference.proofs.Monomials.{sum_of-nothing}
use Rattle.reference.proofs.poly.Poly.zero.Goals as goal

pub returns : goal.returns
returns c = ap sum_of c.new.ensures.items ∙ sum_of-nothing
