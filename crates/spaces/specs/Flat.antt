-- The flat list that an element keeps
use Rattle.std.specs.Prelude.{[], ◌∷◌}
use Rattle.spaces.specs.declared.parts.Parts.{Parts}
use Rattle.spaces.specs.declared.flat.Flat.{Flat}
use Rattle.spaces.specs.declared.flat.Flat.TheVariants.{One, Many}

abbrev pub parts_in : Flat → Parts
parts_in (One p) = record { items = p ∷ []; local = p.nodes }
parts_in (Many ps) = ps
