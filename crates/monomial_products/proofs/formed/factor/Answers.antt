use Rattle.std.proofs.Common.{arith, sym, ◌∙◌}
use Rattle.monomial_products.proofs.PartLaws.{lawful_part, lawful_dimension}
use Rattle.monomial_products.proofs.FormedLaws.{alive_within}
use Rattle.monomial_products.proofs.formed.factor.Goals as goal

pub new-requires : goal.new-requires
new-requires c =
    let own = sym c.part_of.ensures ∙ c.in-Some.is in
    let part = lawful_part c.args.l.now c.requires.layout c.args.atom.f.role c.args.atom.component c.in-Some.part own in
    record {
      dimension = lawful_dimension c.args.l.now c.requires.layout;
      degree = part.degree;
      derivatives = omega (arith, alive_within _ c.in-Some.part _ own c.requires.alive, c.derivative_count.ensures);
      nodes = part.nodes;
    }
