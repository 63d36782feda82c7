use Rattle.std.proofs.Common.{arith}
use Rattle.std.proofs.lemmas.Result.{IfOk-weaker}
use Rattle.spaces.specs.Reading.{space_of}
use Rattle.spaces.specs.Space.{scalars}
use Rattle.dofs.proofs.NumberingLaws.{on_space, parts_scalars, parts_length}
use Rattle.dofs.proofs.numbering.lawful_parts.Goals as goal

pub returns-clause-parts : goal.returns-clause-parts
returns-clause-parts c = IfOk-weaker c.parts.result _ _ (λ p e. parts_scalars (scalars (space_of c.args.element.now)) p e) c.parts.ensures

pub returns-clause-few : goal.returns-clause-few
returns-clause-few c = IfOk-weaker c.parts.result _ _ (λ p e. omega (arith, parts_length (scalars (space_of c.args.element.now)) p e, c.value_size-few.ensures.size, c.value_size-few.ensures.few)) c.parts.ensures

pub returns-clause-degrees : goal.returns-clause-degrees
returns-clause-degrees c = on_space (space_of c.args.element.now) c.tree-lawful.ensures.lawful
