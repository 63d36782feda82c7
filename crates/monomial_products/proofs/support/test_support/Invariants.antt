use Rattle.std.proofs.Common.{◌≡◌, drop}
use Rattle.ufl_tree.specs.declared.function.Role.TheVariants.{Test}
use Rattle.monomial_products.specs.Supports.{support_from, support_of}
use Rattle.monomial_products.proofs.support.test_support.Given as goal

abbrev pub invariant-loop-atom : goal.invariant-loop-atom
invariant-loop-atom l = support_from l.kept l.l Test (drop l.atom-index l.atoms) ≡ support_of l.l Test l.atoms
