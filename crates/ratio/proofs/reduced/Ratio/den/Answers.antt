use Rattle.std.proofs.Common.{pos, sym, ◌∙◌, ap}
use Rattle.std.specs.Int.{w128}
use Rattle.std.proofs.lemmas.Int.{to_z_pos}
use Rattle.ratio.proofs.Reading.{bottom_reads}
use Rattle.ratio.proofs.reduced.Ratio.den.Goals as goal

pub returns : goal.returns
returns c = to_z_pos w128 c.args.self.d c.args.self.small ∙ ap pos (sym (bottom_reads c.args.self))
