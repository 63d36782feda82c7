-- The functions of a part's nodes, with their derivatives, and what bounds them
use Rattle.std.specs.Prelude.{ℕ, ◌-◌, ◌*◌, ◌^◌, ◌≤◌, List, map, replicate}
use Rattle.std.specs.List.{flat_map, AllByRecursion}
use Rattle.calculus.specs.LocalFunction.{factorial}
use Rattle.calculus.specs.Polynomial.{Polynomial}
use Rattle.calculus.specs.Simplex.{reference}
use Rattle.lagrange.specs.Bounds.{basis_bound}
use Rattle.polyalg.specs.Prelude.{IsPoly, degree_of, VariablesBelow, CoefficientsOver}
use Rattle.polyalg.specs.declared.term.Term.{Term}
use Rattle.spaces.specs.declared.parts.Part.{Part}
use Rattle.refint.specs.Local.{numbers_below, node_function}
use Rattle.refint.specs.Reference.{digit_lists, along_all}

-- in all lists of k reference directions, in lexicographic order
abbrev pub all_along : ℕ → ℕ → Polynomial → List Polynomial
all_along d k p = map (λ ds. along_all ds p) (digit_lists (replicate k d))

-- of each node of a part
abbrev pub derived_functions : ℕ → Part → ℕ → List Polynomial
derived_functions d p k = flat_map (λ j. all_along d k (node_function d (reference d) p j)) (numbers_below p.nodes)

-- a polynomial in d variables of degree at most n, whose coefficients are over l and add up to at most b there
pub record IsBounded (d n l b : ℕ) (ts : List Term) : Type 0 where
  pub degree : degree_of ts ≤ n
  pub variables : VariablesBelow d ts
  pub over : CoefficientsOver l b ts
  pub lawful : IsPoly ts

abbrev pub AreBounded : ℕ → ℕ → ℕ → ℕ → List (List Term) → Type 0
AreBounded d n l b ps = AllByRecursion (IsBounded d n l b) ps

-- the bounds of the functions of a part: a derivative takes a degree away and multiplies by an exponent, which is at most 3
abbrev pub AreDerived : ℕ → Part → ℕ → List (List Term) → Type 0
AreDerived d p k ps = AreBounded d (p.degree - k) (factorial p.degree) (basis_bound p.degree * 3 ^ k) ps

-- no polynomial of a degree above n
abbrev pub AreLow : ℕ → List (List Term) → Type 0
AreLow n ps = AllByRecursion (λ ts. degree_of ts ≤ n) ps
