-- Integrals of products, and what keeps their steps from passing
use Rattle.std.specs.Prelude.{ℕ, ◌+◌, ◌*◌, ◌^◌, ◌<◌, List, map}
use Rattle.std.specs.List.{flat_map, AllByRecursion}
use Rattle.algebra.specs.Fraction.{Fraction, mul}
use Rattle.algebra.specs.Over.{Over}
use Rattle.calculus.specs.Integral.{shadow_integral}
use Rattle.calculus.specs.LocalFunction.{factorial}
use Rattle.calculus.specs.Polynomial.{Polynomial, constant_term}
use Rattle.calculus.specs.Simplex.{reference}
use Rattle.ufl_tree.specs.declared.function.Role.TheVariants.{Test, Trial}
use Rattle.monos.specs.declared.layout.Layout.{Layout}
use Rattle.monos.specs.declared.mono.Atom.{Atom}
use Rattle.monos.specs.Monomial.{Monomial}
use Rattle.ratio.specs.declared.reduced.Ratio.{Ratio}
use Rattle.ratio.specs.Value.{fraction_of}
use Rattle.refint.specs.Local.{numbers_below}
use Rattle.refint.specs.Reference.{items}
use Rattle.monomial_products.specs.declared.support.Support.{Support}
use Rattle.monomial_products.specs.Supports.{node_at}
use Rattle.monomial_products.specs.Products.{own_places, degree_left, denominator, coefficient_bound}

-- the integral over the reference cell
abbrev pub integral_on : ℕ → Polynomial → Fraction
integral_on d p = constant_term (shadow_integral d (reference d) p)

-- c times the integral of each
abbrev pub integrals_of : ℕ → Fraction → List Polynomial → List Fraction
integrals_of d c ps = map (λ p. mul c (integral_on d p)) ps

-- the items of the rows at all places of the arguments, one row after the other
abbrev pub items_at : Layout → Support → Support → Monomial → List Fraction
items_at l tests trials m =
    flat_map (λ t. flat_map (λ u. items l m (node_at tests t) (node_at trials u)) (numbers_below (own_places trials Trial m.atoms)))
    (numbers_below (own_places tests Test m.atoms))

-- a step of an integral with the number c doesn't pass: polynomials of degree n whose coefficients are over l and add up to b there
pub record AreFitting (d n l b : ℕ) (c : Fraction) : Type 0 where
  pub j : ℕ
  pub i : ℕ
  pub number : Over j i c
  pub integral : l * factorial (n + d) < 2 ^ 127
  pub sum : b * factorial (n + d) < 2 ^ 127
  pub denominator : j * (l * factorial (n + d)) < 2 ^ 127
  pub size : i * (b * factorial (n + d)) < 2 ^ 127

-- the items of atoms with a number over j that is at most i there
abbrev pub AreWithin : Layout → List Atom → ℕ → ℕ → List Ratio → Type 0
AreWithin l xs j i rs =
    AllByRecursion
    (λ x. Over (j * (denominator l xs * factorial (degree_left l xs + l.d))) (i * (coefficient_bound l xs * factorial (degree_left l xs + l.d))) (fraction_of x)) rs
