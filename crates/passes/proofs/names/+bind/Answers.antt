use Rattle.passes.specs.Names.{renaming_of}
use Rattle.passes.proofs.NameLaws.{on_ok, bound_next}
use Rattle.passes.proofs.names.+bind.Goals as goal

pub returns : goal.returns
returns t c =
    on_ok c.bind.result
    (bound_next (renaming_of c.bind.new.all) c.args.by.now c.in-Some.by.now c.args.at.now c.in-Some-split_first.at.now c.in-Some.name.now c.in-Some-split_first.index.now c.args.all.now c.push.new.self
    c.in-Some.ensures.cases.0 c.in-Some-split_first.ensures.cases.0 c.in_ok-push.ensures.ok)
    c.bind.ensures
