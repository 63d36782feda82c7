use Rattle.std.proofs.Common.{◌*◌}
use Rattle.polyalg.proofs.SizeLaws.{size_at, size_times}
use Rattle.polyalg.proofs.BoundLaws.{bounded, size_of, products_fit}
use Rattle.polyalg.proofs.bounds.products.Goals as goal

pub returns-clause-fits : goal.returns-clause-fits
returns-clause-fits c = products_fit

pub returns-clause-bounds : goal.returns-clause-bounds
returns-clause-bounds g l m b c left right result h k p e s t =
    bounded (l * m) (b * c) result p (size_at (l * m) (b * c) _ _ e (size_times l m b c _ _ (size_of l b left h s) (size_of m c right k t)))
