-- Tables of elements, and what functions of them say of their values
use Rattle.std.specs.Prelude.{◌≡◌, ℕ, suc, Bool, true, false, if◌then◌else◌, List, [], ◌∷◌, ◌++◌, Option, None, Some, Ok, Err, slice_get}
use Rattle.spaces.specs.declared.cell.Cell.{Cell}
use Rattle.spaces.specs.declared.family.Family.TheVariants.{Lagrange}
use Rattle.spaces.specs.declared.element_tree.ElementTree.{ElementTree}
use Rattle.spaces.specs.Space.{Space, scalar, vector, cell_of}
use Rattle.spaces.specs.Cell.{dimension}
use Rattle.spaces.specs.Equality.{same_space}
use Rattle.spaces.specs.Reading.{space_of}
use Rattle.ufl_tree.specs.declared.function.Function.{Function}
use Rattle.ufl_tree.specs.declared.function.Role.{Role}
use Rattle.ufl_tree.specs.declared.function.Role.TheVariants.{Test, Trial, Position, Coefficient}
use Rattle.ufl_tree.specs.Typed.{Kind}
use Rattle.ufl_tree.specs.Places.{Table, table_of, element_shape, Piece, sub_element}
use Rattle.ufl_expr.specs.declared.refusal.TypeRefusal.TheVariants.{Kind as OfKind}
use Rattle.ufl_expr.specs.Table.{Verdict}

-- ---- tables
-- the number of an element, counted from n
abbrev pub number_from : ℕ → Space → Table → Option ℕ
number_from n s [] = None
number_from n s (t ∷ ts) = if same_space t s then Some n else number_from (suc n) s ts

abbrev pub number_of : Space → Table → Option ℕ
number_of s ts = number_from 0 s ts

abbrev pub has_space : Space → Table → Bool
has_space s [] = false
has_space s (t ∷ ts) = if same_space t s then true else has_space s ts

-- no element stands again behind itself
abbrev pub AreDistinct : Table → Type 0
AreDistinct [] = Unit {0}
AreDistinct (t ∷ ts) = (has_space t ts ≡ false) × AreDistinct ts

-- the table with this element, where it isn't there yet
abbrev pub with_element : ElementTree → List ElementTree → List ElementTree
with_element e ts = if has_space (space_of e) (table_of ts) then ts else ts ++ e ∷ []

-- ---- functions
-- the position in a cell has this element alone
abbrev pub position_space : Cell → Space
position_space c = vector (scalar Lagrange c 1) (dimension c)

-- functions of each other role may have any element
abbrev pub may_have : Role → Space → Bool
may_have Test s = true
may_have Trial s = true
may_have Position s = same_space s (position_space (cell_of s))
may_have (Coefficient n) s = true

abbrev pub space_for : Role → Option Space → Option Space
space_for r None = None
space_for r (Some s) = if may_have r s then Some s else None

abbrev pub spaces_of : Option ElementTree → Option Space
spaces_of None = None
spaces_of (Some e) = Some (space_of e)

-- the element of a function, where the table has it and the function may have it
abbrev pub space_in : Table → Function → Option Space
space_in table f = space_for f.role (slice_get table f.element)

-- a function has the shape and the cell of its element; there may be no such element
abbrev pub function_kind : Option Space → Verdict
function_kind None = Err OfKind
function_kind (Some s) = Ok (record { shape = element_shape s; free = []; cell = Some (cell_of s) })

abbrev pub function_in : Table → Function → Verdict
function_in table f = function_kind (space_in table f)

-- a part of a function of a mixed element has the shape of its own element, and the cell of all; there may be no such part
abbrev pub piece_kind : Option Space → Option Piece → Verdict
piece_kind None p = Err OfKind
piece_kind (Some s) None = Err OfKind
piece_kind (Some s) (Some p) = Ok (record { shape = element_shape p.space; free = []; cell = Some (cell_of s) })

abbrev pub piece_in : Table → Function → ℕ → Verdict
piece_in table f k = piece_kind (space_in table f) (sub_element (space_in table f) k)

-- ---- elements on a cell
abbrev pub IsSpaceOn : Option Cell → Option Space → Type 0
IsSpaceOn (Some c) (Some s) = cell_of s ≡ c
IsSpaceOn _ _ = ⊥

-- the function's element is in the table, and on this cell
abbrev pub IsOn : Table → Option Cell → Function → Type 0
IsOn table c f = IsSpaceOn c (slice_get table f.element)

-- ---- the position
abbrev pub position_at : ℕ → Function
position_at n = record { role = Position; element = n }

abbrev pub position_kind : Cell → Kind
position_kind c = record { shape = dimension c ∷ []; free = []; cell = Some c }
