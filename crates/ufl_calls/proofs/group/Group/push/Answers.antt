use Rattle.std.proofs.Common.{sym, ◌∙◌, arith}
use Rattle.ufl_calls.proofs.GroupLaws.{ok_gives, pushed_large, pushed_small}
use Rattle.ufl_calls.proofs.group.Group.push.Goals as goal

pub returns-then-is_large : goal.returns-then-is_large
returns-then-is_large c vs is =
    pushed_large vs c.args.item c.args.self.now
    (record { alloc = c.args.self.now.alloc; items = c.new.result; nodes = c.saturating_add-self.result; height = c.max-self.result })
    is (omega (arith, c.saturating_add-self.ensures, c.nodes_of.ensures)) (omega (arith, c.max-self.ensures, c.height_of.ensures))
    (sym c.is_large.ensures ∙ c.if-is_large.true)

pub returns : goal.returns
returns c =
    ok_gives c.push.result
    (λ items vs is.
    pushed_small vs c.args.item c.args.self.now
    (record { alloc = c.args.self.now.alloc; items = c.push.new.self; nodes = c.saturating_add-self.result; height = c.max-self.result })
    is (omega (arith, c.saturating_add-self.ensures, c.nodes_of.ensures)) (omega (arith, c.max-self.ensures, c.height_of.ensures)) items)
    c.push.ensures.ok
