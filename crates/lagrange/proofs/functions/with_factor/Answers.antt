use Rattle.lagrange.proofs.FactorLaws.{with_factor_is}
use Rattle.std.proofs.Common.{◌^◌}
use Rattle.polyalg.proofs.SizeLaws.{size_at}
use Rattle.lagrange.proofs.Sizes.{product_stays, never, coordinate_size, factor_within, room}
use Rattle.lagrange.proofs.functions.with_factor.Goals as goal

pub returns-clause-value : goal.returns-clause-value
returns-clause-value c = with_factor_is c.args.q c.args.j c.args.d c.args.weight _ _ _ _ c.in_ok-product.ensures.value c.in_ok-f.ensures.value c.in_ok-b.ensures.value

pub returns-clause-variables : goal.returns-clause-variables
returns-clause-variables c h = c.in_ok-product.ensures.variables c.args.d h (c.in_ok-f.ensures.variables c.args.d c.in_ok-b.ensures.variables)

pub factor-requires-clause-size : goal.factor-requires-clause-size
factor-requires-clause-size c = size_at 1 4 _ _ c.in_ok-b.ensures.value (coordinate_size c.args.d c.args.j c.requires.dimension)

pub returns-in_err-product-clause-fits : goal.returns-in_err-product-clause-fits
returns-in_err-product-clause-fits c =
    let few = room c.args.j c.requires.vertex in
    never _ c.from_residual-in_err-product.result _ c.in_err-product.field-0.0 c.from_residual-in_err-product.ensures.0 c.from_residual-in_err-product.ensures.1
    (product_stays (6 ^ c.args.j) 6 (2184 ^ c.args.j) 2184 c.args.others.now c.in_ok-f.f c.requires.lawful c.in_ok-f.ensures.lawful few.0 few.1 c.requires.size
    (size_at 6 2184 _ _ c.in_ok-f.ensures.value
    (factor_within c.args.q c.args.weight _ c.requires.few.0 c.requires.few.1 (size_at 1 4 _ _ c.in_ok-b.ensures.value (coordinate_size c.args.d c.args.j c.requires.dimension)))))
    c.in_err-product.ensures.range
