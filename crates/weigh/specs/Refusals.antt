-- Which weights are refused, and which are admitted
use Rattle.std.specs.Prelude.{◌≡◌, ℕ, ◌+◌, ◌*◌, ◌^◌, ◌≤◌, ◌<◌, nat_lt, nat_le, if◌then◌else◌, ◌||◌, Option, None, Some, ◌⊎◌, List, [], ◌∷◌}
use Rattle.spaces.specs.Scalar.{Scalar}
use Rattle.spaces.specs.Space.{scalars}
use Rattle.ufl_tree.specs.Places.{Table}
use Rattle.ufl_tree.specs.FormTerm.{FormTerm}
use Rattle.calculus.specs.LocalFunction.{factorial}
use Rattle.monos.specs.declared.weight.Weight.{Weight}
use Rattle.weigh.specs.Weighing.{exact, kept, form_weight}
use Rattle.weigh.specs.declared.refusal.WeightRefusal.{WeightRefusal}
use Rattle.weigh.specs.declared.refusal.WeightRefusal.TheVariants.{Cost, Size}

-- the common denominator of reference tensors, and a bound on their numerators
abbrev pub lcd : ℕ → Weight → ℕ
lcd d w = factorial (w.deg + d) * w.den * w.fac

abbrev pub size : ℕ → Weight → ℕ
size d w = factorial (w.deg + d) * w.fac * w.cost * w.num * w.s

-- in d dimensions; cost comes first
abbrev pub weight_refusal : ℕ → Weight → Option WeightRefusal
weight_refusal d w =
    if nat_lt (2 ^ 20) w.cost || nat_lt 256 w.g then Some Cost else (if nat_le (2 ^ 100) (size d w) then Some Size else None)

-- ---- exact and kept weights side by side
-- refused as Cost
abbrev pub IsCostly : Weight → Type 0
IsCostly w = (2 ^ 20 < w.cost) ⊎ (256 < w.g)

-- too large in any dimension
abbrev pub IsLarge : Weight → Type 0
IsLarge w = 2 ^ 100 ≤ w.fac * w.num * w.s

abbrev pub IsSameCost : Weight → Weight → Type 0
IsSameCost e k = (e.cost ≡ k.cost) × (e.g ≡ k.g)

-- the same weight; or both are refused as Cost; or both have one cost and are too large
abbrev pub Agree : Weight → Weight → Type 0
Agree e k = (e ≡ k) ⊎ ((IsCostly e × IsCostly k) ⊎ (IsSameCost e k × IsLarge e × IsLarge k))

-- every scalar part of the table has a degree of at most 3
abbrev pub AreLow : List Scalar → Type 0
AreLow [] = Unit {0}
AreLow (p ∷ ps) = (p.degree ≤ 3) × AreLow ps

abbrev pub HasLowDegrees : Table → Type 0
HasLowDegrees [] = Unit {0}
HasLowDegrees (s ∷ ss) = AreLow (scalars s) × HasLowDegrees ss

-- the decision on a form in d dimensions: kept numbers refuse what exact ones do, and what is admitted has its exact weight
pub record KeptDecides (elements : Table) (f : FormTerm) : Type 0 where
  pub refusal : (d : ℕ) → weight_refusal d (form_weight kept elements f) ≡ weight_refusal d (form_weight exact elements f)
  pub weight : (d : ℕ) → weight_refusal d (form_weight kept elements f) ≡ None → form_weight kept elements f ≡ form_weight exact elements f
