-- Scalar parts, and their places in the list of a cell's local values
use Rattle.std.specs.Prelude.{ℕ, zero, suc, ◌+◌, List, [], ◌∷◌, ◌++◌}
use Rattle.spaces.specs.declared.family.Family.{Family}
use Rattle.spaces.specs.declared.parts.Part.{Part}
use Rattle.spaces.specs.declared.parts.Parts.{Parts}

-- a scalar part without a place
pub record Scalar : Type 0 where
  pub family : Family
  pub degree : ℕ
  pub nodes : ℕ

abbrev pub scalar_of : Part → Scalar
scalar_of p = record { family = p.family; degree = p.degree; nodes = p.nodes }

abbrev pub part_at : ℕ → Scalar → Part
part_at offset s = record { family = s.family; degree = s.degree; nodes = s.nodes; offset = offset }

abbrev pub repeated : ℕ → List Scalar → List Scalar
repeated zero parts = []
repeated (suc n) parts = parts ++ repeated n parts

-- the parts one after the other, the first at this offset
abbrev pub placed : ℕ → List Scalar → List Part
placed offset [] = []
placed offset (s ∷ ss) = part_at offset s ∷ placed (offset + s.nodes) ss

-- how many local values the parts have together
abbrev pub local_size : List Scalar → ℕ
local_size [] = 0
local_size (s ∷ ss) = s.nodes + local_size ss

-- the parts with further ones behind them
abbrev pub appended : Parts → List Scalar → Parts
appended p ss = record { items = p.items ++ placed p.local ss; local = p.local + local_size ss }

abbrev pub laid_out : List Scalar → Parts
laid_out ss = record { items = placed 0 ss; local = local_size ss }
