-- What a tree says of its value, read from the code's tree
use Rattle.std.proofs.Common.{◌≡◌, refl, ap, ◌∙◌}
use Rattle.ufl_tree.specs.declared.tree.Tree.{Tree, fold_out-Tree}
use Rattle.ufl_tree.specs.declared.tree.Node.{Node}
use Rattle.ufl_tree.specs.declared.tree.Node.TheOpen.{Node-F}
use Rattle.ufl_tree.specs.declared.tree.Node.TheFolds.{fold_out-Node}
use Rattle.ufl_tree.specs.Typed.{Kind, Typed, own_kind}
use Rattle.ufl_tree.specs.Reading.{typed_of, node_layer, tree_layer, kind_of, tree_with}

layer_kind : (x : Node-F (Kind → Typed) Typed) (k : Kind) → own_kind (node_layer x k) ≡ k
layer_kind (Node-F.Number c) k = refl
layer_kind (Node-F.Identity n) k = refl
layer_kind (Node-F.Fun f) k = refl
layer_kind (Node-F.Piece f n) k = refl
layer_kind (Node-F.One op a) k = refl
layer_kind (Node-F.Two op a b) k = refl
layer_kind (Node-F.Power a n) k = refl
layer_kind (Node-F.Index a at) k = refl
layer_kind (Node-F.Partial a i) k = refl
layer_kind (Node-F.Tensor a by) k = refl
layer_kind (Node-F.List items) k = refl
layer_kind (Node-F.Variable l a) k = refl
layer_kind (Node-F.Diff l by a) k = refl

pub own_kind-typed_of : (t : Tree) → own_kind (typed_of t) ≡ kind_of t
unfolding typed_of
own_kind-typed_of t =
    ap own_kind (fold_out-Tree (Kind → Typed) Typed node_layer tree_layer t)
    ∙ ap (λ f. own_kind (f (kind_of t))) (fold_out-Node (Kind → Typed) Typed node_layer tree_layer t.node)
    ∙ layer_kind _ (kind_of t)

-- a tree with this node
pub reads : (t : Tree) (n : Node) (e : Typed) → t.node ≡ n → typed_of (tree_with n (kind_of t)) ≡ e → typed_of t ≡ e
reads t n e h r = ap (λ m. typed_of (tree_with m (kind_of t))) h ∙ r
