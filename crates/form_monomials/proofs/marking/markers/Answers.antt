use Rattle.std.proofs.Common.{nat_eq}
use Rattle.std.proofs.lemmas.List.Filters.{dedup_is}
use Rattle.integrands.specs.Integrands.{integrands_of}
use Rattle.form_monomials.proofs.MarkerLaws.{are_markers}
use Rattle.form_monomials.proofs.marking.markers.Goals as goal

pub returns : goal.returns
returns c =
    are_markers (integrands_of c.args.integrands.now) c.in_ok-all.all.items c.sort_unstable.new.self.items c.dedup.new.self.items c.in_ok-all.ensures c.sort_unstable.ensures.permutation c.sort_unstable.ensures.sorted
    (dedup_is nat_eq c.sort_unstable.new.self.items c.dedup.new.self.items c.dedup.ensures.filtered)
