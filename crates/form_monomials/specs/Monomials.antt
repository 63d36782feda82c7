-- What the monomials of a form's functions are
use Rattle.std.specs.Prelude.{◌≡◌, ℕ, ◌≤◌, ◌⊎◌, Bool, List, [], ◌∷◌, Option, nat_le, if◌then◌else◌}
use Rattle.ufl_tree.specs.declared.function.Function.{Function}
use Rattle.ufl_tree.specs.declared.function.Role.TheVariants.{Test, Trial}
use Rattle.ufl_tree.specs.Places.{Table}
use Rattle.ufl_tree.specs.Term.{Term}
use Rattle.ufl_meaning.specs.Environment.{Environment}
use Rattle.ufl_meaning.specs.Monomial.{HasNoOffset, monos_value}
use Rattle.monos.specs.Monomial.{Monomial}
use Rattle.monos.specs.declared.weight.Weight.{Weight}
use Rattle.weigh.specs.Admitted.{IsAdmitted}
use Rattle.weigh.specs.Bounds.{IsSound}
use Rattle.weigh.specs.Lists.{HasWeight}
use Rattle.normal.specs.Bounding.{cost_of, HaveNumbers}
use Rattle.normal.specs.Origins.{HasFunction}
use Rattle.integrands.specs.Integrands.{IntegrandTerm, integrands_value}
use Rattle.integrands.specs.Keeping.{AreExpanded, chosen, BoundsTotal}
use Rattle.form_values.specs.Linear.{HaveCount}
use Rattle.arity.specs.Bodies.{HaveFormDirections}
use Rattle.form_monomials.specs.Markers.{RunsOn}

-- ---- integrands that a weight bounds
-- no derivative by a variable or a function is left, all functions are on cells of d directions, and w bounds the sum of
-- the bodies of each choice of the integrands
pub record AreWithin (elements : Table) (d : ℕ) (w : Weight) (ps : List IntegrandTerm) : Type 0 where
  pub positive : 1 ≤ d
  pub sound : IsSound w
  pub expanded : AreExpanded ps
  pub directions : HaveFormDirections elements d ps
  pub weight : (bs : List Bool) → BoundsTotal elements w (chosen bs ps)

-- a weight that is admitted does
pub record AreAdmitted (elements : Table) (ps : List IntegrandTerm) : Type 0 where
  pub d : ℕ
  pub w : Weight
  pub within : AreWithin elements d w ps
  pub admitted : IsAdmitted d w

-- ---- the monomials of a function
-- on its cells they add up to what is integrated there, in every environment without offsets
abbrev pub AddUp : Table → List IntegrandTerm → Option ℕ → List Monomial → Type 0
AddUp elements ps marker ms =
    (env : Environment) → HasNoOffset env → RunsOn marker ps env.marker
    → monos_value env ms ≡ integrands_value elements ps env

-- what bounds the integrands bounds the list of monomials
abbrev pub AreBounded : Table → List IntegrandTerm → List Monomial → Type 0
AreBounded elements ps ms =
    (d : ℕ) (w : Weight) → AreWithin elements d w ps → HasWeight (cost_of elements) d w ms

-- and each monomial
abbrev pub HaveBoundedNumbers : Table → List IntegrandTerm → List Monomial → Type 0
HaveBoundedNumbers elements ps ms = (d : ℕ) (w : Weight) → AreWithin elements d w ps → HaveNumbers elements w ms

-- f is the function of a leaf of one of these trees
abbrev pub HaveBodies : Function → List Term → Type 0
HaveBodies f [] = ⊥
HaveBodies f (e ∷ es) = HasFunction f e ⊎ HaveBodies f es

-- each has one test atom where the rank is 1 or 2, one trial atom where it is 2, and no others of these
pub record HaveRank (rank : ℕ) (ms : List Monomial) : Type 0 where
  pub test : HaveCount Test (if nat_le 1 rank then 1 else 0) ms
  pub trial : HaveCount Trial (if nat_le 2 rank then 1 else 0) ms
