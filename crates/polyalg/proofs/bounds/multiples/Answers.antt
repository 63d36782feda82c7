use Rattle.std.proofs.Common.{◌*◌, ◌∙◌}
use Rattle.calculus.specs.Polynomial.{times_comm}
use Rattle.polyalg.proofs.SizeLaws.{size_at, size_times, size_constant}
use Rattle.polyalg.proofs.BoundLaws.{bounded, size_of, multiples_fit}
use Rattle.polyalg.proofs.bounds.multiples.Goals as goal

pub returns-clause-fits : goal.returns-clause-fits
returns-clause-fits c l m b n x terms h g s o = multiples_fit l m b n x terms h g s o

pub returns-clause-bounds : goal.returns-clause-bounds
returns-clause-bounds g l m b n x terms result h p e s o =
    bounded (l * m) (b * n) result p
    (size_at (l * m) (b * n) _ _ (e ∙ times_comm _ _) (size_times l m b n _ _ (size_of l b terms h s) (size_constant m n x o)))
