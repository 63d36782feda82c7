use Rattle.std.proofs.Common.{arith}
use Rattle.typing.proofs.LabelLaws.{all_bytes}
use Rattle.typing.proofs.labels.bytes.Goals as goal

pub returns : goal.returns
returns c = all_bytes c.args.sizes.now (λ k. let h = c.type_inv.sizes k in omega (arith, h))
