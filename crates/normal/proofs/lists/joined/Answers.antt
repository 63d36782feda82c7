use Rattle.normal.proofs.ProductLists.{joined_behind, joined_before}
use Rattle.normal.proofs.lists.joined.Goals as goal

pub returns-in_ok-append : goal.returns-in_ok-append
returns-in_ok-append c = joined_before c.args.ms.items c.args.ns.items c.append.new.self.items c.in_ok-append.ensures.items

pub returns-in_ok-append-2 : goal.returns-in_ok-append-2
returns-in_ok-append-2 c = joined_behind c.args.ms.items c.args.ns.items c.append-else-len.new.self.items c.in_ok-append-2.ensures.items
