use Rattle.std.proofs.Common.{◌-◌, length, drop}
use Rattle.ufl_tree.specs.declared.function.Role.TheVariants.{Test, Trial}
use Rattle.monomial_products.specs.declared.support.Support.{Support}
use Rattle.monomial_products.specs.Supports.{AreOn}
use Rattle.monomial_products.specs.Formed.{AreProductsOf}
use Rattle.monomial_products.proofs.formed.products.Given as goal

-- the products of the last atoms
abbrev pub invariant-loop-k : goal.invariant-loop-k
invariant-loop-k l =
    (tests trials : Support) → AreOn l.l Test tests l.atoms → AreOn l.l Trial trials l.atoms → AreProductsOf l.l tests trials (drop (length l.atoms - l.k) l.atoms) l.products
