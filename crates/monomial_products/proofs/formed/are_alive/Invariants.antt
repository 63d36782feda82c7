use Rattle.std.proofs.Common.{◌≡◌, drop}
use Rattle.monomial_products.specs.Products.{are_alive}
use Rattle.monomial_products.proofs.formed.are_alive.Given as goal

abbrev pub invariant-loop-atom : goal.invariant-loop-atom
invariant-loop-atom l = are_alive l.l (drop l.atom-index l.atoms) ≡ are_alive l.l l.atoms
