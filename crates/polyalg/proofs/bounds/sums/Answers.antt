use Rattle.std.proofs.Common.{◌+◌}
use Rattle.polyalg.proofs.SizeLaws.{size_at, size_plus}
use Rattle.polyalg.proofs.BoundLaws.{bounded, size_of, sums_fit}
use Rattle.polyalg.proofs.bounds.sums.Goals as goal

pub returns-clause-fits : goal.returns-clause-fits
returns-clause-fits c = sums_fit

pub returns-clause-bounds : goal.returns-clause-bounds
returns-clause-bounds g l b c left right result h p e s t =
    bounded l (b + c) result p (size_at l (b + c) _ _ e (size_plus l b c _ _ (size_of l b left h s) (size_of l c right h t)))
