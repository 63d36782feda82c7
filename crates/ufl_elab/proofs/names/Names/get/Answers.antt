use Rattle.std.proofs.Common.{sym, ◌∙◌}
use Rattle.ufl_elab.proofs.EntryLaws.{get-names_of}
use Rattle.ufl_elab.proofs.names.Names.get.Goals as goal

pub returns : goal.returns
returns c = c.get.ensures.value ∙ sym (get-names_of c.args.self.now.bound.entries c.args.name.now)
