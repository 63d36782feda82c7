-- What is true of each `Element`
use Rattle.std.specs.Prelude.{◌≡◌, ℕ, ◌<◌, ◌≤◌, length}
use Rattle.spaces.specs.Space.{Space, IsLawful, cell_of, scalars, depth_of}
use Rattle.spaces.specs.Scalar.{laid_out}
use Rattle.spaces.specs.Flat.{parts_in}
use Rattle.spaces.specs.Reading.{space_of}
use Rattle.spaces.specs.declared.cell.Cell.{Cell}
use Rattle.spaces.specs.declared.parts.Parts.{Parts}
use Rattle.spaces.specs.declared.element.Element.TheInside.{Inside}

-- a lawful element has this cell, this depth and these parts
pub record Describes (s : Space) (cell : Cell) (depth : ℕ) (parts : Parts) : Type 0 where
  pub lawful : IsLawful s
  pub cell_is : cell ≡ cell_of s
  pub depth_is : depth ≡ depth_of s
  pub parts_are : parts ≡ laid_out (scalars s)
  pub some : 0 < length (scalars s)
  pub few : length (scalars s) ≤ 64
  pub shallow : depth ≤ 64

abbrev pub IsSound : Inside → Type 0
IsSound e = Describes (space_of e.tree) e.cell e.depth (parts_in e.flat)
