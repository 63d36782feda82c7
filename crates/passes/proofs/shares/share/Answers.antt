use Rattle.std.proofs.Common.{◌∙◌, ap, pos, arith}
use Rattle.std.specs.Int.{w128}
use Rattle.std.proofs.lemmas.Int.{to_z_pos}
use Rattle.algebra.specs.Steps.{quotient}
use Rattle.ufl_tree.specs.Term.{num}
use Rattle.ufl_tree.proofs.ReadingLaws.{term_of-Num}
use Rattle.passes.proofs.ShareLaws.{some_share, no_share}
use Rattle.passes.proofs.shares.share.Goals as goal

pub returns : goal.returns
returns c = term_of-Num c.in-Some.part ∙ ap num (some_share c.new.result c.in-Some.part c.args.n c.requires (omega arith) (c.new.ensures ∙ ap (quotient (pos 1)) (to_z_pos w128 c.args.n (omega arith))) c.in-Some.is)

pub unreachable-requires : goal.unreachable-requires
unreachable-requires c = no_share c.new.result c.args.n c.requires (omega arith) (c.new.ensures ∙ ap (quotient (pos 1)) (to_z_pos w128 c.args.n (omega arith))) c.in-None.is
