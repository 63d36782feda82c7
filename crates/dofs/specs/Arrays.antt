-- Labels in arrays of three, with zeros behind what they hold
use Rattle.std.specs.Prelude.{◌≡◌, ℕ, ◌-◌, ◌≤◌, List, ◌++◌, length, take}
use Rattle.std.specs.declared.cmp.Ordering.{Ordering}
use Rattle.std.specs.Ordering.{nat_cmp, ordering_then}
use Rattle.std.specs.Option.{option_cmp}
use Rattle.std.specs.Cmp.Lexicographic.{slice_cmp}
use Rattle.spaces.specs.Nodes.{zeros}
use Rattle.dofs.specs.declared.support.Support.{Support}
use Rattle.dofs.specs.declared.key.Key.{Key}
use Rattle.dofs.specs.Label.{Label, Weighted, vertices_of, weights_of}

abbrev pub three : List ℕ → List ℕ
three xs = xs ++ zeros (3 - length xs)

abbrev pub support_of : List Weighted → Support
support_of ps = record { count = length ps; vertices = three (vertices_of ps); weights = three (weights_of ps) }

abbrev pub key_of : Label → Key
key_of l = record { part = l.part; cell = l.cell; support = record { count = length l.vertices; vertices = three l.vertices; weights = three l.weights } }

abbrev pub label_of : Key → Label
label_of k = record { part = k.part; cell = k.cell; vertices = take k.support.count k.support.vertices; weights = take k.support.count k.support.weights }

-- what arrays of three hold
pub record IsSmall (l : Label) : Type 0 where
  pub few : length l.vertices ≤ 3
  pub weights : length l.weights ≡ length l.vertices

abbrev pub support_cmp : Support → Support → Ordering
support_cmp a b = ordering_then (nat_cmp a.count b.count) (ordering_then (slice_cmp nat_cmp a.vertices b.vertices) (slice_cmp nat_cmp a.weights b.weights))

abbrev pub key_cmp : Key → Key → Ordering
key_cmp a b = ordering_then (nat_cmp a.part b.part) (ordering_then (option_cmp nat_cmp a.cell b.cell) (support_cmp a.support b.support))
