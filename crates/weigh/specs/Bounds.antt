-- When a weight bounds another
use Rattle.std.specs.Prelude.{◌*◌, ◌≤◌, ◌<◌}
use Prim.Native.Nat.{◌∣◌}
use Rattle.monos.specs.declared.weight.Weight.{Weight}

-- w bounds a tree of weight e
pub record Bounds (w e : Weight) : Type 0 where
  pub cost : e.cost ≤ w.cost
  pub deg : e.deg ≤ w.deg
  pub g : e.g ≤ w.g
  pub f : e.f ≤ w.f
  pub rmin : w.rmin ≤ e.rmin
  pub rmax : e.rmax ≤ w.rmax
  pub s : e.s ≤ w.s
  pub den : e.den ∣ w.den
  pub fac : e.fac ∣ w.fac
  -- the coefficients over w's denominator
  pub num : e.num * w.den ≤ w.num * e.den

-- what every weight of a tree has
pub record IsSound (w : Weight) : Type 0 where
  pub cost : 1 ≤ w.cost
  pub g : 1 ≤ w.g
  pub den : 1 ≤ w.den
  pub fac : 1 ≤ w.fac
  pub s : 1 ≤ w.s
  pub parts : w.den ≤ w.num
  pub functions : w.f ≤ w.g
  pub derivatives : w.rmin ≤ w.rmax
  pub few : w.rmax < w.num
