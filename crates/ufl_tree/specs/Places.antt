-- Where the components of a function stand in the flat list of its element
use Rattle.std.specs.Prelude.{ℕ, zero, suc, ◌+◌, List, [], ◌∷◌, length, map, Option, None, Some, slice_get}
use Rattle.spaces.specs.declared.element_tree.ElementTree.{ElementTree}
use Rattle.spaces.specs.Reading.{space_of}
use Rattle.spaces.specs.Space.{Space, scalar, vector, tensor, mixed, Spaces, no_spaces, space, scalars, scalars_of, IsLawful}
use Rattle.ufl_tree.specs.declared.function.Function.{Function}
use Rattle.ufl_tree.specs.Indices.{place}

-- the elements by their numbers
abbrev pub Table : Type 0
Table = List Space

-- the spaces of elements
abbrev pub table_of : List ElementTree → Table
table_of = map space_of

-- each element is lawful, as those of every table of elements are
abbrev pub IsLawfulTable : Table → Type 0
IsLawfulTable [] = Unit {0}
IsLawfulTable (s ∷ ss) = IsLawful s × IsLawfulTable ss

-- none for a scalar; a function of a mixed element is one vector of all its components
abbrev pub element_shape : Space → List ℕ
element_shape (scalar f c q) = []
element_shape (vector s n) = n ∷ []
element_shape (tensor s m n) = m ∷ n ∷ []
element_shape (mixed ss) = length (scalars_of ss) ∷ []

-- a sub-element, and how many components stand before it
pub record Piece : Type 0 where
  pub before : ℕ
  pub space : Space

abbrev pub piece_from : ℕ → Spaces → ℕ → Option Piece
piece_from n no_spaces k = None
piece_from n (space s ss) zero = Some (record { before = n; space = s })
piece_from n (space s ss) (suc k) = piece_from (n + length (scalars s)) ss k

-- a mixed element's sub-element of this number
abbrev pub piece_of : Space → ℕ → Option Piece
piece_of (mixed ss) k = piece_from 0 ss k
piece_of (scalar f c q) k = None
piece_of (vector s n) k = None
piece_of (tensor s m n) k = None

abbrev pub place_after : ℕ → Option ℕ → Option ℕ
place_after n None = None
place_after n (Some m) = Some (n + m)

abbrev pub place_in : Option Space → List ℕ → Option ℕ
place_in None b = None
place_in (Some s) b = place (element_shape s) b

abbrev pub place_in_piece : Option Piece → List ℕ → Option ℕ
place_in_piece None b = None
place_in_piece (Some p) b = place_after p.before (place (element_shape p.space) b)

abbrev pub sub_element : Option Space → ℕ → Option Piece
sub_element None k = None
sub_element (Some s) k = piece_of s k

-- the place of a component of a function, if there is such an element and component
abbrev pub function_place : Table → Function → List ℕ → Option ℕ
function_place elements f b = place_in (slice_get elements f.element) b

-- the same of the sub-element k of a function
abbrev pub piece_place : Table → Function → ℕ → List ℕ → Option ℕ
piece_place elements f k b = place_in_piece (sub_element (slice_get elements f.element) k) b
