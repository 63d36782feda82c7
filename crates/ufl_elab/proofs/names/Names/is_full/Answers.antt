use Rattle.std.proofs.Common.{nat_lt, ap, ◌∙◌}
use Rattle.ufl_elab.proofs.EntryLaws.{same_limit}
use Rattle.ufl_elab.proofs.names.Names.is_full.Goals as goal

pub returns : goal.returns
returns c = c.are_too_many.ensures ∙ ap (λ n. nat_lt 1000000 n) c.args.self.now.counted ∙ same_limit c.args.self.now.bound.entries
