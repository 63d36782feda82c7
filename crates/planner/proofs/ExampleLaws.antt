-- The worked sums of monomials are within their weights, over lawful layouts
use Rattle.std.proofs.Common.{◌≡◌, inl, ℕ, List, [], ◌∷◌, Some, Result, Ok, refl, sym, ap, ◌∙◌, subst, lit≤, lit<}
use Rattle.std.specs.List.{AllByRecursion}
use native.Mathlib.Nat as N
use Rattle.algebra.specs.Fraction.{one_fraction}
use Rattle.algebra.specs.Gcd.{gcd}
use Rattle.algebra.specs.LowestTerms.{top, bottom}
use Rattle.spaces.specs.declared.cell.Cell.{Cell}
use Rattle.spaces.specs.declared.cell.Cell.TheVariants.{Interval, Triangle}
use Rattle.spaces.specs.declared.family.Family.TheVariants.{Lagrange}
use Rattle.spaces.specs.declared.element_tree.ElementTree.{ElementTree}
use Rattle.spaces.specs.declared.element_tree.ElementTree.TheVariants.{Scalar, Vector}
use Rattle.spaces.specs.Reading.{space_of}
use Rattle.spaces.specs.declared.refusal.SpaceRefusal.{SpaceRefusal}
use Rattle.spaces.specs.Refusal.{Gives, block_refusal}
use Rattle.spaces.specs.Scalar.{laid_out}
use Rattle.spaces.specs.Space.{scalar, scalars, vector}
use Rattle.spaces.proofs.ReadingLaws.{space_of-Scalar, space_of-Vector}
use Rattle.ufl_tree.specs.declared.function.Role.TheVariants.{Test, Trial}
use Rattle.monos.specs.declared.layout.Layout.{Layout}
use Rattle.monos.specs.declared.weight.Weight.{Weight}
use Rattle.monos.specs.Layout.{IsLawfulLayout}
use Rattle.monos.specs.Monomial.{Monomial}
use Rattle.room.specs.Room.{mass_weight}
use Rattle.weigh.specs.Admitted.{IsAdmitted}
use Rattle.weigh.specs.Lists.{HasWeight}
use Rattle.monomial_weights.specs.Weighed.{IsWithin, cost_at}
use Rattle.planner.specs.Examples.{derived_atom, derived_product, laplace_monomials, laplace_weight, linear_layout, linear_parts, transport_layout, transport_monomials, transport_term, transport_weight, velocity_parts}
use Rattle.planner.specs.Kernels.{AreWithin, HasArguments}

pub linear_of : (c : Cell) (e : ElementTree) → Some (Scalar Lagrange c 1) ≡ Some e → laid_out (scalars (space_of e)) ≡ linear_parts c
linear_of c e h = sym (ap (λ t. laid_out (scalars (space_of t))) (inner (Scalar Lagrange c 1) e h)) ∙ ap (λ s. laid_out (scalars s)) (space_of-Scalar Lagrange c 1)
  where
    inner : (a b : ElementTree) → Some a ≡ Some b → a ≡ b
    inner a b h = cc

pub linear_lawful : (c : Cell) → IsLawfulLayout (linear_layout c)
linear_lawful c = (
  c,
  record {
    dimension = refl;
    rows = inl (record { element = scalar Lagrange c 1; lawful = refl; cell = refl; parts = refl });
    cols = inl (record { element = scalar Lagrange c 1; lawful = refl; cell = refl; parts = refl });
    coefs = tt;
    rising = tt;
    in_order = tt;
    few = lit≤ tt;
    position = tt;
  },
)

pub product_arguments : (c : Cell) (dirs : List ℕ) → HasArguments (linear_layout c) (derived_product dirs)
product_arguments c dirs = record {
  test = λ h. (derived_atom Test dirs, (0, lit< tt, refl), refl);
  trial = λ h. (derived_atom Trial dirs, (1, lit< tt, refl), refl);
}

-- ---- u*v on intervals
mass_admitted : IsAdmitted 1 mass_weight
unfolding gcd
mass_admitted = record {
  cost = lit≤ tt;
  factors = lit≤ tt;
  size = lit< tt;
  one_cost = lit< tt;
  one_den = lit< tt;
  one_fac = lit< tt;
  one_s = lit< tt;
  parts = lit≤ tt;
  functions = lit≤ tt;
  derivatives = lit≤ tt;
}

mass_within : IsWithin (linear_layout Interval) mass_weight (derived_product (0 ∷ 0 ∷ 0 ∷ []))
unfolding gcd top bottom one_fraction
mass_within = record {
  weighed = record { over = (N.dvd_refl 1, tt); sum = lit≤ tt; total = lit≤ tt };
  functions = lit≤ tt;
  least = lit≤ tt;
  greatest = lit≤ tt;
  degrees = lit≤ tt;
  fac = N.dvd_refl 1;
  s = lit≤ tt;
}

pub mass_weighed : AreWithin (linear_layout Interval) mass_weight (derived_product (0 ∷ 0 ∷ 0 ∷ []) ∷ [])
mass_weighed = record { admitted = mass_admitted; weighed = mass_within.weighed; each = (mass_within, tt) }

pub mass_arguments : AllByRecursion (HasArguments (linear_layout Interval)) (derived_product (0 ∷ 0 ∷ 0 ∷ []) ∷ [])
mass_arguments = (product_arguments Interval (0 ∷ 0 ∷ 0 ∷ []), tt)

-- ---- inner(grad(u), grad(v)) on triangles
laplace_admitted : IsAdmitted 2 laplace_weight
unfolding gcd
laplace_admitted = record {
  cost = lit≤ tt;
  factors = lit≤ tt;
  size = lit< tt;
  one_cost = lit< tt;
  one_den = lit< tt;
  one_fac = lit< tt;
  one_s = lit< tt;
  parts = lit≤ tt;
  functions = lit≤ tt;
  derivatives = lit≤ tt;
}

first_within : IsWithin (linear_layout Triangle) laplace_weight (derived_product (1 ∷ 0 ∷ 0 ∷ []))
unfolding gcd top bottom one_fraction
first_within = record {
  weighed = record { over = (N.dvd_refl 1, tt); sum = lit≤ tt; total = lit≤ tt };
  functions = lit≤ tt;
  least = lit≤ tt;
  greatest = lit≤ tt;
  degrees = lit≤ tt;
  fac = N.dvd_refl 1;
  s = lit≤ tt;
}

second_within : IsWithin (linear_layout Triangle) laplace_weight (derived_product (0 ∷ 1 ∷ 0 ∷ []))
unfolding gcd top bottom one_fraction
second_within = record {
  weighed = record { over = (N.dvd_refl 1, tt); sum = lit≤ tt; total = lit≤ tt };
  functions = lit≤ tt;
  least = lit≤ tt;
  greatest = lit≤ tt;
  degrees = lit≤ tt;
  fac = N.dvd_refl 1;
  s = lit≤ tt;
}

both_weighed : HasWeight (cost_at (linear_layout Triangle)) 2 laplace_weight laplace_monomials
unfolding gcd top bottom one_fraction
both_weighed = record { over = (N.dvd_refl 1, (N.dvd_refl 1, tt)); sum = lit≤ tt; total = lit≤ tt }

pub laplace_weighed : AreWithin (linear_layout Triangle) laplace_weight laplace_monomials
laplace_weighed = record { admitted = laplace_admitted; weighed = both_weighed; each = (first_within, (second_within, tt)) }

pub laplace_arguments : AllByRecursion (HasArguments (linear_layout Triangle)) laplace_monomials
laplace_arguments = (product_arguments Triangle (1 ∷ 0 ∷ 0 ∷ []), (product_arguments Triangle (0 ∷ 1 ∷ 0 ∷ []), tt))

-- ---- f[0]*u.dx(0)*v + f[1]*u.dx(1)*v on triangles
pub velocity_of : (part e : ElementTree) (r : Result ElementTree SpaceRefusal) → Some (Scalar Lagrange Triangle 1) ≡ Some part
    → Gives r (block_refusal (space_of part) 2) (Vector part 2) → r ≡ Ok e → laid_out (scalars (space_of e)) ≡ velocity_parts
velocity_of part e r s g h =
    ap (λ t. laid_out (scalars (space_of t))) given
    ∙ ap (λ t. laid_out (scalars t)) (space_of-Vector (Scalar Lagrange Triangle 1) 2 ∙ ap (λ t. vector t 2) (space_of-Scalar Lagrange Triangle 1))
  where
    inner : (a b : ElementTree) → Some a ≡ Some b → b ≡ a
    inner a b h = cc

    given : e ≡ Vector (Scalar Lagrange Triangle 1) 2
    given =
        subst (λ o. Gives (Ok e) o (Vector (Scalar Lagrange Triangle 1) 2)) (ap (λ t. block_refusal t 2) (space_of-Scalar Lagrange Triangle 1))
        (subst (λ p. Gives (Ok e) (block_refusal (space_of p) 2) (Vector p 2)) (inner (Scalar Lagrange Triangle 1) part s)
        (subst (λ q. Gives q (block_refusal (space_of part) 2) (Vector part 2)) h g))

pub transport_lawful : IsLawfulLayout transport_layout
transport_lawful = (
  Triangle,
  record {
    dimension = refl;
    rows = inl (record { element = scalar Lagrange Triangle 1; lawful = refl; cell = refl; parts = refl });
    cols = inl (record { element = scalar Lagrange Triangle 1; lawful = refl; cell = refl; parts = refl });
    coefs = (inl (record { element = vector (scalar Lagrange Triangle 1) 2; lawful = (refl, refl, lit< tt, lit≤ tt); cell = refl; parts = refl }), tt);
    rising = (lit≤ tt, tt);
    in_order = (refl, tt);
    few = lit≤ tt;
    position = tt;
  },
)

transport_admitted : IsAdmitted 2 transport_weight
unfolding gcd
transport_admitted = record {
  cost = lit≤ tt;
  factors = lit≤ tt;
  size = lit< tt;
  one_cost = lit< tt;
  one_den = lit< tt;
  one_fac = lit< tt;
  one_s = lit< tt;
  parts = lit≤ tt;
  functions = lit≤ tt;
  derivatives = lit≤ tt;
}

along_first : IsWithin transport_layout transport_weight (transport_term (1 ∷ 0 ∷ 0 ∷ []) 0)
unfolding gcd top bottom one_fraction
along_first = record {
  weighed = record { over = (N.dvd_refl 1, tt); sum = lit≤ tt; total = lit≤ tt };
  functions = lit≤ tt;
  least = lit≤ tt;
  greatest = lit≤ tt;
  degrees = lit≤ tt;
  fac = N.dvd_refl 1;
  s = lit≤ tt;
}

along_second : IsWithin transport_layout transport_weight (transport_term (0 ∷ 1 ∷ 0 ∷ []) 1)
unfolding gcd top bottom one_fraction
along_second = record {
  weighed = record { over = (N.dvd_refl 1, tt); sum = lit≤ tt; total = lit≤ tt };
  functions = lit≤ tt;
  least = lit≤ tt;
  greatest = lit≤ tt;
  degrees = lit≤ tt;
  fac = N.dvd_refl 1;
  s = lit≤ tt;
}

terms_weighed : HasWeight (cost_at transport_layout) 2 transport_weight transport_monomials
unfolding gcd top bottom one_fraction
terms_weighed = record { over = (N.dvd_refl 1, (N.dvd_refl 1, tt)); sum = lit≤ tt; total = lit≤ tt }

pub transport_weighed : AreWithin transport_layout transport_weight transport_monomials
transport_weighed = record { admitted = transport_admitted; weighed = terms_weighed; each = (along_first, (along_second, tt)) }

term_arguments : (dirs : List ℕ) (i : ℕ) → HasArguments transport_layout (transport_term dirs i)
term_arguments dirs i = record {
  test = λ h. (derived_atom Test (0 ∷ 0 ∷ 0 ∷ []), (0, lit< tt, refl), refl);
  trial = λ h. (derived_atom Trial dirs, (1, lit< tt, refl), refl);
}

pub transport_arguments : AllByRecursion (HasArguments transport_layout) transport_monomials
transport_arguments = (term_arguments (1 ∷ 0 ∷ 0 ∷ []) 0, (term_arguments (0 ∷ 1 ∷ 0 ∷ []) 1, tt))

-- ---- what is equal to a worked example
pub within_as : (l : Layout) (w : Weight) (ms : List Monomial) {k : Layout} {v : Weight} {ns : List Monomial} → l ≡ k → w ≡ v → ms ≡ ns
    → AreWithin k v ns → AreWithin l w ms
within_as l w ms {k} {v} {ns} e f g h = subst (λ k. AreWithin k w ms) (sym e) (subst (λ u. AreWithin k u ms) (sym f) (subst (AreWithin k v) (sym g) h))

pub arguments_as : (l : Layout) (ms : List Monomial) {k : Layout} {ns : List Monomial} → l ≡ k → ms ≡ ns → AllByRecursion (HasArguments k) ns
    → AllByRecursion (HasArguments l) ms
arguments_as l ms {k} e g h = subst (λ k. AllByRecursion (HasArguments k) ms) (sym e) (subst (AllByRecursion (HasArguments k)) (sym g) h)
