use Rattle.std.proofs.Common.{◌/◌, ◌-◌, arith}
use Rattle.normal.proofs.Refusals.{ok_then}
use Rattle.form_monomials.proofs.LastLaws.{one_last, both_last}
use Rattle.form_monomials.proofs.sums.+sum_of_last.Goals as goal

pub returns-then-count-lt2 : goal.returns-then-count-lt2
returns-then-count-lt2 t c = one_last c.args.trees.now.items c.pop.new.self.items c.args.count c.in-Some.tree c.in-Some.ensures.items (omega (arith, c.if-count-lt2.true, c.requires.some))

pub returns : goal.returns
returns t c =
    ok_then c.sum.result
    (λ e h. both_last c.args.trees.now.items c.sum_of_last.new.trees.items c.sum_of_last-2.new.trees.items (c.args.count / 2) (c.args.count - c.args.count / 2) c.args.count c.in_ok-first.first c.in_ok-second.second e
    c.in_ok-second.ensures c.in_ok-first.ensures (omega arith) h) c.sum.ensures
