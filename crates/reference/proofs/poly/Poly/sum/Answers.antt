use Rattle.std.proofs.Common.{◌∙◌, ap, ap₂, ◌++◌}
use Rattle.reference.specs.TermValue.{sum_of}
use Rattle.reference.proofs.Monomials.{sum_of-append}
use Rattle.reference.proofs.poly.Poly.sum.Goals as goal

pub returns : goal.returns
returns c = ap sum_of (c.in_ok-extend_from_slice.ensures.items ∙ ap₂ ◌++◌ (c.in_ok-terms.ensures.items ∙ c.deref.ensures.value) c.deref-2.ensures.value) ∙ sum_of-append _ _
