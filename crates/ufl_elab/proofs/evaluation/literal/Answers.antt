use Rattle.ufl_elab.proofs.LiteralLaws.{literal_is}
use Rattle.ufl_elab.proofs.evaluation.literal.Goals as goal

pub returns : goal.returns
returns c = literal_is c.args.text.now c.read_decimal.result c.read_decimal.ensures.value c.read_decimal.ensures.lawful
