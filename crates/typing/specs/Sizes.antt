-- Sizes that fit a byte, as those of every tree of the code do
use Rattle.std.specs.Prelude.{◌≤◌, ℕ, List, [], ◌∷◌}
use Rattle.ufl_tree.specs.Typed.{Typed, number, identity, function, piece, one, two, power, index, partial, tensor, list, variable, diff, TypedList, no_items, item}

abbrev pub AreBytes : List ℕ → Type 0
AreBytes [] = Unit {0}
AreBytes (d ∷ ds) = (d ≤ 255) × AreBytes ds

-- the shape that a derivative by a variable says of the variable is of such sizes
abbrev mutual
  pub HasByteLabels : Typed → Type 0
  HasByteLabels (number k c) = Unit {0}
  HasByteLabels (identity k n) = Unit {0}
  HasByteLabels (function k f) = Unit {0}
  HasByteLabels (piece k f n) = Unit {0}
  HasByteLabels (one k op a) = HasByteLabels a
  HasByteLabels (two k op a b) = HasByteLabels a × HasByteLabels b
  HasByteLabels (power k a n) = HasByteLabels a
  HasByteLabels (index k a at) = HasByteLabels a
  HasByteLabels (partial k a i) = HasByteLabels a
  HasByteLabels (tensor k a by) = HasByteLabels a
  HasByteLabels (list k ts) = HaveByteLabels ts
  HasByteLabels (variable k l a) = HasByteLabels a
  HasByteLabels (diff k l by a) = AreBytes by × HasByteLabels a

  pub HaveByteLabels : TypedList → Type 0
  HaveByteLabels no_items = Unit {0}
  HaveByteLabels (item t ts) = HasByteLabels t × HaveByteLabels ts
