-- When a layout is lawful, and which functions have their place in it
use Rattle.std.specs.Prelude.{◌≡◌, ℕ, ◌+◌, ◌<◌, ◌≤◌, ◌^◌, ◌==◌, ◌⊎◌, List, [], ◌∷◌, length, Option, None, Some, if◌then◌else◌}
use Rattle.std.specs.List.{AllByRecursion}
use Rattle.spaces.specs.declared.cell.Cell.{Cell}
use Rattle.spaces.specs.declared.cell.Cell.TheVariants.{Interval}
use Rattle.spaces.specs.declared.family.Family.TheVariants.{Lagrange}
use Rattle.spaces.specs.declared.parts.Part.{Part}
use Rattle.spaces.specs.declared.parts.Parts.{Parts}
use Rattle.spaces.specs.Cell.{dimension}
use Rattle.spaces.specs.Scalar.{laid_out}
use Rattle.spaces.specs.Space.{Space, scalar, vector, scalars, cell_of, IsLawful}
use Rattle.ufl_tree.specs.declared.function.Role.{Role}
use Rattle.ufl_tree.specs.declared.function.Role.TheVariants.{Test, Trial, Position, Coefficient}
use Rattle.monos.specs.declared.layout.CoefPlace.{CoefPlace}
use Rattle.monos.specs.declared.layout.Layout.{Layout}
use Rattle.monos.specs.declared.mono.Atom.{Atom}

-- ---- lawful layouts
-- the parts of an element on a cell
pub record ArePartsOn (c : Cell) (ps : Parts) : Type 0 where
  pub element : Space
  pub lawful : IsLawful element
  pub cell : cell_of element ≡ c
  pub parts : ps ≡ laid_out (scalars element)

-- of a function that may be missing
abbrev pub MayBeOn : Cell → Parts → Type 0
MayBeOn c ps = ArePartsOn c ps ⊎ (ps ≡ laid_out [])

-- the numbers rise, each above `low`
abbrev pub AreRising : ℕ → List CoefPlace → Type 0
AreRising low [] = Unit {0}
AreRising low (c ∷ cs) = (low ≤ c.number) × AreRising (c.number + 1) cs

-- the values of one coefficient stand behind those of the one before, the first at `at`
abbrev pub AreInOrder : ℕ → List CoefPlace → Type 0
AreInOrder at [] = Unit {0}
AreInOrder at (c ∷ cs) = (c.offset ≡ at) × AreInOrder (at + c.parts.local) cs

-- how many values all coefficients have on a cell
abbrev pub value_count : List CoefPlace → ℕ
value_count [] = 0
value_count (c ∷ cs) = c.parts.local + value_count cs

-- the coordinate of space: one function of degree 1 for each coordinate
abbrev pub position_parts : Cell → Parts
position_parts c = laid_out (scalars (vector (scalar Lagrange c 1) (dimension c)))

abbrev pub IsPosition : Cell → Option Parts → Type 0
IsPosition c None = Unit {0}
IsPosition c (Some ps) = ps ≡ position_parts c

pub record IsLawfulOn (c : Cell) (l : Layout) : Type 0 where
  pub dimension : l.d ≡ dimension c
  pub rows : MayBeOn c l.rows
  pub cols : MayBeOn c l.cols
  pub coefs : AllByRecursion (λ k. MayBeOn c k.parts) l.coefs
  pub rising : AreRising 0 l.coefs
  pub in_order : AreInOrder 0 l.coefs
  pub few : value_count l.coefs ≤ 2 ^ 24
  pub position : IsPosition c l.position

abbrev pub IsLawfulLayout : Layout → Type 0
IsLawfulLayout l = (c : Cell) × IsLawfulOn c l

-- ---- what has its place
-- where the values of the coefficient of this number stand
abbrev pub place_of : List CoefPlace → ℕ → Option CoefPlace
place_of [] n = None
place_of (c ∷ cs) n = if c.number == n then Some c else place_of cs n

abbrev pub place_parts : Option CoefPlace → List Part
place_parts None = []
place_parts (Some c) = c.parts.items

abbrev pub parts_or_none : Option Parts → List Part
parts_or_none None = []
parts_or_none (Some ps) = ps.items

-- the parts of the function of a role, none where it has no place
abbrev pub role_parts : Layout → Role → List Part
role_parts l Test = l.rows.items
role_parts l Trial = l.cols.items
role_parts l Position = parts_or_none l.position
role_parts l (Coefficient n) = place_parts (place_of l.coefs n)

-- an argument that has a part; the position where there is one; a coefficient that stands in the list
abbrev pub HasPlace : Layout → Role → Type 0
HasPlace l Test = 0 < length l.rows.items
HasPlace l Trial = 0 < length l.cols.items
HasPlace l Position = (ps : Parts) × (l.position ≡ Some ps)
HasPlace l (Coefficient n) = (c : CoefPlace) × (place_of l.coefs n ≡ Some c)

-- each atom is of a component that its function has
abbrev pub ArePlaced : Layout → List Atom → Type 0
ArePlaced l xs = AllByRecursion (λ a. a.component < length (role_parts l a.f.role)) xs

-- ---- worked: one function of degree 1 on intervals, in each place
abbrev pub line : Parts
line = laid_out (scalars (scalar Lagrange Interval 1))

abbrev pub line_layout : ℕ → Layout
line_layout offset = record {
  d = 1;
  rows = line;
  cols = laid_out [];
  coefs = record { number = 2; offset = 0; parts = line } ∷ record { number = 5; offset = offset; parts = line } ∷ [];
  position = Some (position_parts Interval);
}
