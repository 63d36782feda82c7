use Rattle.std.proofs.lemmas.List.{map-set}
use Rattle.ratio.specs.Value.{fraction_of}
use Rattle.c_run.proofs.place.store.Goals as goal

pub returns-then-k-xs : goal.returns-then-k-xs
returns-then-k-xs c = map-set fraction_of c.args.xs.now c.args.k c.args.v
