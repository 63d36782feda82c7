-- What is formed of a monomial's atoms
use Rattle.std.specs.Prelude.{◌≡◌, ◌-◌, ◌^◌, List, ◌∷◌, map, slice_get, Some}
use Rattle.polyalg.specs.Prelude.{value_of}
use Rattle.spaces.specs.declared.parts.Part.{Part}
use Rattle.ufl_tree.specs.declared.function.Role.TheVariants.{Test, Trial}
use Rattle.monos.specs.declared.layout.Layout.{Layout}
use Rattle.monos.specs.declared.mono.Atom.{Atom}
use Rattle.monos.specs.Layout.{role_parts}
use Rattle.monos.specs.Monomial.{derivative_count}
use Rattle.basis_products.specs.declared.factor.Factor.{Factor}
use Rattle.basis_products.specs.declared.products.Products.{Products}
use Rattle.basis_products.specs.Functions.{derived_functions, AreDerived}
use Rattle.monomial_products.specs.declared.support.Support.{Support}
use Rattle.monomial_products.specs.Supports.{AreOn}
use Rattle.monomial_products.specs.Products.{products_of, sizes_of, source_of, AreProductsBounded, IsSmall}

-- the functions of an atom of a part
pub record IsFactorOf (l : Layout) (x : Atom) (f : Factor) : Type 0 where
  pub part : Part
  pub own : slice_get (role_parts l x.f.role) x.component ≡ Some part
  pub functions : map value_of f.functions.items ≡ derived_functions l.d part (derivative_count x)
  pub source : f.source ≡ source_of x.f.role
  pub nodes : f.nodes ≡ part.nodes
  pub directions : f.directions ≡ l.d ^ derivative_count x
  pub degree : f.degree ≡ part.degree - derivative_count x
  pub bounds : AreDerived l.d part (derivative_count x) f.functions.items

-- the products of some atoms, whose arguments are on these supports
pub record AreProductsOf (l : Layout) (tests trials : Support) (xs : List Atom) (p : Products) : Type 0 where
  pub items : map value_of p.items.items ≡ products_of l tests trials xs
  pub sizes : p.sizes ≡ sizes_of l tests trials xs
  pub bounds : AreProductsBounded l xs p.items.items

-- the arguments of the atoms are on some supports
pub record HaveSupports (l : Layout) (xs : List Atom) : Type 0 where
  pub tests : Support
  pub trials : Support
  pub on_tests : AreOn l Test tests xs
  pub on_trials : AreOn l Trial trials xs

-- a further atom may stand in front of the products
pub record IsReady (l : Layout) (x : Atom) (xs : List Atom) (p : Products) : Type 0 where
  pub supports : HaveSupports l (x ∷ xs)
  pub products : AreProductsOf l supports.tests supports.trials xs p
  pub small : IsSmall l (x ∷ xs)
