-- The code's trees, read as spaces
use Rattle.std.specs.Prelude.{List, [], ◌∷◌}
use Rattle.spaces.specs.Space.{Space, scalar, vector, tensor, mixed, Spaces, no_spaces, space}
use Rattle.spaces.specs.declared.element_tree.ElementTree.{ElementTree}
use Rattle.spaces.specs.declared.element_tree.ElementTree.TheOpen.{ElementTree-F}
use Rattle.spaces.specs.declared.element_tree.ElementTree.TheFolds.{fold-ElementTree}

abbrev pub spaces_of : List Space → Spaces
spaces_of [] = no_spaces
spaces_of (s ∷ ss) = space s (spaces_of ss)

abbrev pub layer : ElementTree-F Space → Space
layer (ElementTree-F.Scalar f c q) = scalar f c q
layer (ElementTree-F.Vector s n) = vector s n
layer (ElementTree-F.Tensor s m n) = tensor s m n
layer (ElementTree-F.Mixed ss) = mixed (spaces_of ss)

unfoldable pub space_of : ElementTree → Space
space_of = fold-ElementTree Space layer

abbrev pub spaces_in : List ElementTree → Spaces
spaces_in [] = no_spaces
spaces_in (t ∷ ts) = space (space_of t) (spaces_in ts)
