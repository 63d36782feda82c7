use Rattle.mesh_in.proofs.NumberTextLemmas.{read_is}
use Rattle.data_in.proofs.rows.read_ratio.Goals as goal

pub returns : goal.returns
returns c = read_is c.args.word.now c.read.result c.read.ensures.value c.read.ensures.lawful
