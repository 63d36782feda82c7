-- The parts of a mixed element
use Rattle.std.specs.Prelude.{◌≤◌, length}
use Rattle.spaces.specs.Space.{Spaces, scalars_of, AreLawful}

-- lawful elements with at most 64 scalar parts together
pub record AreFew (ss : Spaces) : Type 0 where
  pub lawful : AreLawful ss
  pub few : length (scalars_of ss) ≤ 64
