-- The integrands of a form: their sizes, and whether they can be lowered
use Rattle.ufl_tree.specs.FormTerm.{FormTerm}
use Rattle.ufl_tree.specs.Functions.{EachPart}
use Rattle.ufl_tree.specs.Places.{Table}
use Rattle.lower.specs.Fitting.{IsFitting}
use Rattle.typing.specs.Sizes.{HasByteLabels}

abbrev pub HaveByteParts : FormTerm → Type 0
HaveByteParts = EachPart HasByteLabels (λ f g. Unit {0})

-- ranks, sizes and cells of all integrands are such that they can be lowered
abbrev pub ArePartsFitting : Table → FormTerm → Type 0
ArePartsFitting elements = EachPart (IsFitting elements) (λ f g. Unit {0})
