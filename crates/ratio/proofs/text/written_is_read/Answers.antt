use Rattle.ratio.proofs.WrittenLaws.{written}
use Rattle.ratio.proofs.text.written_is_read.Goals as goal

pub returns : goal.returns
returns c = written
