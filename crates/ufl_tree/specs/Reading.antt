-- The code's trees, read as data
use Rattle.std.specs.Prelude.{List, [], ◌∷◌}
use Rattle.ufl_tree.specs.Typed.{Kind, Typed, number, identity, function, piece, one, two, power, index, partial, tensor, list, variable, diff, TypedList, no_items, item}
use Rattle.ufl_tree.specs.Term.{Term, num, fun, mark, neg, sum, prod, over, dx, delta, pick, raise, turn, Terms, no_terms, term}
use Rattle.ufl_tree.specs.declared.tree.Tree.{Tree, Tree-F, fold-Tree}
use Rattle.ufl_tree.specs.declared.tree.Node.{Node}
use Rattle.ufl_tree.specs.declared.tree.Node.TheOpen.{Node-F}
use Rattle.ufl_tree.specs.declared.plain.Plain.{Plain}
use Rattle.ufl_tree.specs.declared.plain.Plain.TheOpen.{Plain-F}
use Rattle.ufl_tree.specs.declared.plain.Plain.TheFolds.{fold-Plain}

-- ---- typed trees
abbrev pub typed_list : List Typed → TypedList
typed_list [] = no_items
typed_list (t ∷ ts) = item t (typed_list ts)

abbrev pub node_layer : Node-F (Kind → Typed) Typed → Kind → Typed
node_layer (Node-F.Number c) k = number k c
node_layer (Node-F.Identity n) k = identity k n
node_layer (Node-F.Fun f) k = function k f
node_layer (Node-F.Piece f n) k = piece k f n
node_layer (Node-F.One op a) k = one k op a
node_layer (Node-F.Two op a b) k = two k op a b
node_layer (Node-F.Power a n) k = power k a n
node_layer (Node-F.Index a at) k = index k a at
node_layer (Node-F.Partial a i) k = partial k a i
node_layer (Node-F.Tensor a by) k = tensor k a by
node_layer (Node-F.List items) k = list k (typed_list items)
node_layer (Node-F.Variable l a) k = variable k l a
node_layer (Node-F.Diff l by a) k = diff k l by a

abbrev pub tree_layer : Tree-F (Kind → Typed) Typed → Typed
tree_layer t = t.node (record { shape = t.shape; free = t.free; cell = t.cell })

unfoldable pub typed_of : Tree → Typed
typed_of = fold-Tree (Kind → Typed) Typed node_layer tree_layer

abbrev pub kind_of : Tree → Kind
kind_of t = record { shape = t.shape; free = t.free; cell = t.cell }

-- the tree of a node and what it says of its value
abbrev pub tree_with : Node → Kind → Tree
tree_with n k = record { node = n; shape = k.shape; free = k.free; cell = k.cell }

-- ---- plain trees
abbrev pub terms_of : List Term → Terms
terms_of [] = no_terms
terms_of (t ∷ ts) = term t (terms_of ts)

abbrev pub plain_layer : Plain-F Term → Term
plain_layer (Plain-F.Num c) = num c
plain_layer (Plain-F.Fun f at) = fun f at
plain_layer (Plain-F.Mark l at b) = mark l at b
plain_layer (Plain-F.Neg a) = neg a
plain_layer (Plain-F.Sum a b) = sum a b
plain_layer (Plain-F.Prod a b) = prod a b
plain_layer (Plain-F.Over i n b) = over i n b
plain_layer (Plain-F.Dx i b) = dx i b
plain_layer (Plain-F.Delta i j) = delta i j
plain_layer (Plain-F.Pick i ts) = pick i (terms_of ts)
plain_layer (Plain-F.Raise l at b) = raise l at b
plain_layer (Plain-F.Turn f g b) = turn f g b

unfoldable pub term_of : Plain → Term
term_of = fold-Plain Term plain_layer
