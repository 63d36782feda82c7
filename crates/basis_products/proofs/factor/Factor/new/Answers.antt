use Rattle.std.proofs.Common.{◌*◌, ap, sym, ◌∙◌}
use Rattle.basis_products.proofs.FunctionLaws.{derived_length}
use Rattle.basis_products.proofs.factor.Factor.new.Goals as goal

pub invariant_of-result : goal.invariant_of-result
invariant_of-result c = record {
  shape = derived_length c.args.d c.args.part c.args.derivatives c.in_ok-functions.functions.items c.in_ok-functions.ensures.value
      ∙ ap (λ n. c.args.part.nodes * n) (sym c.power.ensures);
}
