use Rattle.std.proofs.Common.{◌*◌, length, arith, ap}
use Rattle.basis_products.proofs.OrderLaws.{piece_within}
use Rattle.basis_products.proofs.products.Products.block.Goals as goal

pub piece-requires : goal.piece-requires
piece-requires c =
    let s = c.args.self.now.sizes in
    omega (arith, piece_within s.directions c.args.number (s.tests * (s.trials * s.nodes)) c.requires, c.args.self.now.shape, ap length c.as_slice.ensures.value)
