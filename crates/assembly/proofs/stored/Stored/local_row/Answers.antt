use Rattle.std.proofs.Common.{◌∙◌, ◌+◌, ◌*◌, ap, drop}
use Rattle.assembly.proofs.StoredLaws.{local_is}
use Rattle.assembly.proofs.stored.Stored.local_row.Goals as goal

pub returns-clause-values : goal.returns-clause-values
returns-clause-values c =
    local_is c.args.self.now.values.items c.split_at.result.1.now c.split_at-2.result.0.now c.args.place.cell c.args.self.now.size c.args.place.local c.args.self.now.width c.args.self.now.height
    (c.split_at.ensures.back ∙ ap (drop (c.args.place.cell * c.args.self.now.size + c.args.place.local * c.args.self.now.width)) c.deref.ensures.value) c.split_at-2.ensures.front c.requires.stored.size c.requires.local
