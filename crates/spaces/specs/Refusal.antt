-- When an element can't be made
use Rattle.std.specs.Prelude.{◌≡◌, ℕ, ◌&&◌, nat_lt, nat_le, if◌then◌else◌, length, Option, Some, None, Result, Ok, Err}
use Rattle.spaces.specs.Space.{Space, Spaces, no_spaces, space, is_scalar, same_cells, cell_of, scalars_of, greatest_depth}
use Rattle.spaces.specs.declared.cell.Cell.{Cell}
use Rattle.spaces.specs.declared.refusal.SpaceRefusal.{SpaceRefusal}
use Rattle.spaces.specs.declared.refusal.SpaceRefusal.TheVariants.{Kind, Size, Memory}

-- of this many of one element
abbrev pub block_refusal : Space → ℕ → Option SpaceRefusal
block_refusal s n = if is_scalar s then (if nat_lt 0 n && nat_le n 64 then None else Some Size) else Some Kind

-- the cell of the elements of a list
abbrev pub common_cell : Spaces → Result Cell SpaceRefusal
common_cell no_spaces = Err Kind
common_cell (space s ss) = if same_cells (cell_of s) ss then Ok (cell_of s) else Err Kind

-- the deepest nesting of the elements of a list, unless they are too many or nested too deep
abbrev pub common_depth : Spaces → Result ℕ SpaceRefusal
common_depth ss = if nat_le (length (scalars_of ss)) 64 && nat_le (greatest_depth ss) 63 then Ok (greatest_depth ss) else Err Size

abbrev pub refusal_of : {A : Type 0} → Result A SpaceRefusal → Option SpaceRefusal
refusal_of (Ok a) = None
refusal_of (Err r) = Some r

abbrev pub first_refusal : Option SpaceRefusal → Option SpaceRefusal → Option SpaceRefusal
first_refusal None s = s
first_refusal (Some r) s = Some r

-- of a list of elements: the cells before the size
abbrev pub mixed_refusal : Spaces → Option SpaceRefusal
mixed_refusal ss = first_refusal (refusal_of (common_cell ss)) (refusal_of (common_depth ss))

-- the refusal, where there is one; else this value, or want of memory
abbrev pub Gives : {A : Type 0} → Result A SpaceRefusal → Option SpaceRefusal → A → Type 0
Gives (Ok a) None b = a ≡ b
Gives (Err r) None b = r ≡ Memory
Gives r (Some s) b = r ≡ Err s
