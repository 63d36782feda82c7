use Rattle.std.proofs.Common.{arith}
use Rattle.passes.specs.Names.{renaming_of}
use Rattle.passes.proofs.NameLaws.{on_ok, summed_next}
use Rattle.passes.proofs.names.+bind_summed.Goals as goal

pub returns : goal.returns
returns t c =
    on_ok c.bind_summed.result
    (summed_next (renaming_of c.bind_summed.new.all) c.args.free.now c.in-Some.free.now c.in-Some.first.now c.args.next _ c.in_ok-name.field-0 c.args.all.now c.push.new.self
    c.in-Some.ensures.cases.0 c.in_ok-name.ensures.is (omega arith) c.in_ok-push.ensures.ok)
    c.bind_summed.ensures
