use Rattle.std.proofs.Common.{◌∙◌, ap}
use Rattle.tree_values.specs.TermValue.{sum_of}
use Rattle.tree_values.proofs.Sums.{sum_of-nothing}
use Rattle.tree_values.proofs.poly.Poly.zero.Goals as goal

pub returns : goal.returns
returns c = ap sum_of c.new.ensures ∙ sum_of-nothing
