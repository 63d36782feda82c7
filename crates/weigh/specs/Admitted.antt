-- What is known of an admitted weight
use Rattle.std.specs.Prelude.{ℕ, ◌^◌, ◌≤◌, ◌<◌}
use Rattle.monos.specs.declared.weight.Weight.{Weight}
use Rattle.weigh.specs.Refusals.{lcd, size}

-- in d dimensions
pub record IsAdmitted (d : ℕ) (w : Weight) : Type 0 where
  pub cost : w.cost ≤ 2 ^ 20
  pub factors : w.g ≤ 256
  pub size : size d w < 2 ^ 100
  pub one_cost : 0 < w.cost
  pub one_den : 0 < w.den
  pub one_fac : 0 < w.fac
  pub one_s : 0 < w.s
  pub parts : w.den ≤ w.num
  pub functions : w.f ≤ w.g
  pub derivatives : w.rmin ≤ w.rmax

-- what the room of a cell needs of it
pub record IsBound (d : ℕ) (w : Weight) : Type 0 where
  pub lcd : 0 < lcd d w
  pub size : 0 < size d w
  pub derivatives : w.rmin ≤ w.rmax
