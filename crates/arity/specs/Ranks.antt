-- The arguments that a form of a rank has
use Rattle.std.specs.Prelude.{◌≡◌, ◌≤◌, ◌⊎◌, None}
use Rattle.ufl_form.specs.Table.{form_patterns}
use Rattle.admit.specs.Admission.{rank_of}
use Rattle.form_values.specs.Problem.{Problem}

-- a problem has rows of the test function only where the rank of its form is 1 or 2, and of the trial function only where it is 2
pub record HasItsRank (p : Problem) : Type 0 where
  pub test : (p.test ≡ None) ⊎ (1 ≤ rank_of (form_patterns p.form))
  pub trial : (p.trial ≡ None) ⊎ (2 ≤ rank_of (form_patterns p.form))
