-- What the code's trees are read as, one equation for each variant
use Rattle.std.proofs.Common.{◌≡◌, ℕ, List, map, sym, ap, ◌∙◌}
use Rattle.ratio.specs.declared.reduced.Ratio.{Ratio}
use Rattle.ufl_tree.specs.declared.function.Function.{Function}
use Rattle.ufl_tree.specs.declared.function.Ix.{Ix}
use Rattle.ufl_tree.specs.declared.tree.Op1.{Op1}
use Rattle.ufl_tree.specs.declared.tree.Op2.{Op2}
use Rattle.ufl_tree.specs.declared.tree.Tree.{Tree, fold-roll-Tree}
use Rattle.ufl_tree.specs.declared.tree.Node.{Node}
use Rattle.ufl_tree.specs.declared.tree.Node.TheOpen.{Node-F}
use Rattle.ufl_tree.specs.declared.tree.Node.TheFolds.{fold-Node, fold-roll-Node}
use Rattle.ufl_tree.specs.declared.tree.Node.TheVariants as v
use Rattle.ufl_tree.specs.declared.plain.Plain.{Plain}
use Rattle.ufl_tree.specs.declared.plain.Plain.TheOpen.{Plain-F}
use Rattle.ufl_tree.specs.declared.plain.Plain.TheFolds.{fold-Plain, fold-roll-Plain}
use Rattle.ufl_tree.specs.declared.plain.Plain.TheVariants as w
use Rattle.ufl_tree.specs.Typed.{Kind, Typed, number, identity, function, piece, one, two, power, index, partial, tensor, list, variable, diff}
use Rattle.ufl_tree.specs.Term.{Term, num, fun, mark, neg, sum, prod, over, dx, delta, pick, raise, turn}
use Rattle.ufl_tree.specs.Reading.{typed_of, typed_list, node_layer, tree_layer, tree_with, term_of, terms_of, plain_layer}

-- ---- typed trees
abbrev node_of : Node → Kind → Typed
node_of = fold-Node (Kind → Typed) Typed node_layer tree_layer

opened : (n : Node) (k : Kind) → typed_of (tree_with n k) ≡ node_of n k
unfolding typed_of
opened n k = fold-roll-Tree (Kind → Typed) Typed node_layer tree_layer (record { node = n; shape = k.shape; free = k.free; cell = k.cell })

at_kind : (n : Node) (f : Kind → Typed) (k : Kind) → node_of n ≡ f → typed_of (tree_with n k) ≡ f k
at_kind n f k e = opened n k ∙ ap (λ g. g k) e

pub typed_of-Number : (c : Ratio) (k : Kind) → typed_of (tree_with (v.Number c) k) ≡ number k c
unfolding typed_of
typed_of-Number c k =
    at_kind (v.Number c) (λ k. number k c) k
    (ap node_of (sym (v.rolls-Number c)) ∙ fold-roll-Node (Kind → Typed) Typed node_layer tree_layer (Node-F.Number c))

pub typed_of-Identity : (n : ℕ) (k : Kind) → typed_of (tree_with (v.Identity n) k) ≡ identity k n
unfolding typed_of
typed_of-Identity n k =
    at_kind (v.Identity n) (λ k. identity k n) k
    (ap node_of (sym (v.rolls-Identity n)) ∙ fold-roll-Node (Kind → Typed) Typed node_layer tree_layer (Node-F.Identity n))

pub typed_of-Fun : (f : Function) (k : Kind) → typed_of (tree_with (v.Fun f) k) ≡ function k f
unfolding typed_of
typed_of-Fun f k =
    at_kind (v.Fun f) (λ k. function k f) k
    (ap node_of (sym (v.rolls-Fun f)) ∙ fold-roll-Node (Kind → Typed) Typed node_layer tree_layer (Node-F.Fun f))

pub typed_of-Piece : (f : Function) (n : ℕ) (k : Kind) → typed_of (tree_with (v.Piece f n) k) ≡ piece k f n
unfolding typed_of
typed_of-Piece f n k =
    at_kind (v.Piece f n) (λ k. piece k f n) k
    (ap node_of (sym (v.rolls-Piece f n)) ∙ fold-roll-Node (Kind → Typed) Typed node_layer tree_layer (Node-F.Piece f n))

pub typed_of-One : (op : Op1) (a : Tree) (k : Kind) → typed_of (tree_with (v.One op a) k) ≡ one k op (typed_of a)
unfolding typed_of
typed_of-One op a k =
    at_kind (v.One op a) (λ k. one k op (typed_of a)) k
    (ap node_of (sym (v.rolls-One op a)) ∙ fold-roll-Node (Kind → Typed) Typed node_layer tree_layer (Node-F.One op a))

pub typed_of-Two : (op : Op2) (a b : Tree) (k : Kind) → typed_of (tree_with (v.Two op a b) k) ≡ two k op (typed_of a) (typed_of b)
unfolding typed_of
typed_of-Two op a b k =
    at_kind (v.Two op a b) (λ k. two k op (typed_of a) (typed_of b)) k
    (ap node_of (sym (v.rolls-Two op a b)) ∙ fold-roll-Node (Kind → Typed) Typed node_layer tree_layer (Node-F.Two op a b))

pub typed_of-Power : (a : Tree) (n : ℕ) (k : Kind) → typed_of (tree_with (v.Power a n) k) ≡ power k (typed_of a) n
unfolding typed_of
typed_of-Power a n k =
    at_kind (v.Power a n) (λ k. power k (typed_of a) n) k
    (ap node_of (sym (v.rolls-Power a n)) ∙ fold-roll-Node (Kind → Typed) Typed node_layer tree_layer (Node-F.Power a n))

pub typed_of-Index : (a : Tree) (at : List Ix) (k : Kind) → typed_of (tree_with (v.Index a at) k) ≡ index k (typed_of a) at
unfolding typed_of
typed_of-Index a at k =
    at_kind (v.Index a at) (λ k. index k (typed_of a) at) k
    (ap node_of (sym (v.rolls-Index a at)) ∙ fold-roll-Node (Kind → Typed) Typed node_layer tree_layer (Node-F.Index a at))

pub typed_of-Partial : (a : Tree) (i : Ix) (k : Kind) → typed_of (tree_with (v.Partial a i) k) ≡ partial k (typed_of a) i
unfolding typed_of
typed_of-Partial a i k =
    at_kind (v.Partial a i) (λ k. partial k (typed_of a) i) k
    (ap node_of (sym (v.rolls-Partial a i)) ∙ fold-roll-Node (Kind → Typed) Typed node_layer tree_layer (Node-F.Partial a i))

pub typed_of-Tensor : (a : Tree) (by : List ℕ) (k : Kind) → typed_of (tree_with (v.Tensor a by) k) ≡ tensor k (typed_of a) by
unfolding typed_of
typed_of-Tensor a by k =
    at_kind (v.Tensor a by) (λ k. tensor k (typed_of a) by) k
    (ap node_of (sym (v.rolls-Tensor a by)) ∙ fold-roll-Node (Kind → Typed) Typed node_layer tree_layer (Node-F.Tensor a by))

pub typed_of-List : (ts : List Tree) (k : Kind) → typed_of (tree_with (v.List ts) k) ≡ list k (typed_list (map typed_of ts))
unfolding typed_of
typed_of-List ts k =
    at_kind (v.List ts) (λ k. list k (typed_list (map typed_of ts))) k
    (ap node_of (sym (v.rolls-List ts)) ∙ fold-roll-Node (Kind → Typed) Typed node_layer tree_layer (Node-F.List ts))

pub typed_of-Variable : (l : ℕ) (a : Tree) (k : Kind) → typed_of (tree_with (v.Variable l a) k) ≡ variable k l (typed_of a)
unfolding typed_of
typed_of-Variable l a k =
    at_kind (v.Variable l a) (λ k. variable k l (typed_of a)) k
    (ap node_of (sym (v.rolls-Variable l a)) ∙ fold-roll-Node (Kind → Typed) Typed node_layer tree_layer (Node-F.Variable l a))

pub typed_of-Diff : (l : ℕ) (by : List ℕ) (a : Tree) (k : Kind) → typed_of (tree_with (v.Diff l by a) k) ≡ diff k l by (typed_of a)
unfolding typed_of
typed_of-Diff l by a k =
    at_kind (v.Diff l by a) (λ k. diff k l by (typed_of a)) k
    (ap node_of (sym (v.rolls-Diff l by a)) ∙ fold-roll-Node (Kind → Typed) Typed node_layer tree_layer (Node-F.Diff l by a))

pub ruleset readings = (typed_of-Number, typed_of-Identity, typed_of-Fun, typed_of-Piece, typed_of-One, typed_of-Two, typed_of-Power, typed_of-Index, typed_of-Partial, typed_of-Tensor, typed_of-List, typed_of-Variable, typed_of-Diff)

-- ---- plain trees

pub term_of-Num : (c : Ratio) → term_of (w.Num c) ≡ num c
unfolding term_of
term_of-Num c = ap (fold-Plain Term plain_layer) (sym (w.rolls-Num c)) ∙ fold-roll-Plain Term plain_layer (Plain-F.Num c)

pub term_of-Fun : (f : Function) (at : List Ix) → term_of (w.Fun f at) ≡ fun f at
unfolding term_of
term_of-Fun f at = ap (fold-Plain Term plain_layer) (sym (w.rolls-Fun f at)) ∙ fold-roll-Plain Term plain_layer (Plain-F.Fun f at)

pub term_of-Mark : (l : ℕ) (at : List Ix) (b : Plain) → term_of (w.Mark l at b) ≡ mark l at (term_of b)
unfolding term_of
term_of-Mark l at b = ap (fold-Plain Term plain_layer) (sym (w.rolls-Mark l at b)) ∙ fold-roll-Plain Term plain_layer (Plain-F.Mark l at b)

pub term_of-Neg : (a : Plain) → term_of (w.Neg a) ≡ neg (term_of a)
unfolding term_of
term_of-Neg a = ap (fold-Plain Term plain_layer) (sym (w.rolls-Neg a)) ∙ fold-roll-Plain Term plain_layer (Plain-F.Neg a)

pub term_of-Sum : (a b : Plain) → term_of (w.Sum a b) ≡ sum (term_of a) (term_of b)
unfolding term_of
term_of-Sum a b = ap (fold-Plain Term plain_layer) (sym (w.rolls-Sum a b)) ∙ fold-roll-Plain Term plain_layer (Plain-F.Sum a b)

pub term_of-Prod : (a b : Plain) → term_of (w.Prod a b) ≡ prod (term_of a) (term_of b)
unfolding term_of
term_of-Prod a b = ap (fold-Plain Term plain_layer) (sym (w.rolls-Prod a b)) ∙ fold-roll-Plain Term plain_layer (Plain-F.Prod a b)

pub term_of-Over : (i n : ℕ) (b : Plain) → term_of (w.Over i n b) ≡ over i n (term_of b)
unfolding term_of
term_of-Over i n b = ap (fold-Plain Term plain_layer) (sym (w.rolls-Over i n b)) ∙ fold-roll-Plain Term plain_layer (Plain-F.Over i n b)

pub term_of-Dx : (i : Ix) (b : Plain) → term_of (w.Dx i b) ≡ dx i (term_of b)
unfolding term_of
term_of-Dx i b = ap (fold-Plain Term plain_layer) (sym (w.rolls-Dx i b)) ∙ fold-roll-Plain Term plain_layer (Plain-F.Dx i b)

pub term_of-Delta : (i j : Ix) → term_of (w.Delta i j) ≡ delta i j
unfolding term_of
term_of-Delta i j = ap (fold-Plain Term plain_layer) (sym (w.rolls-Delta i j)) ∙ fold-roll-Plain Term plain_layer (Plain-F.Delta i j)

pub term_of-Pick : (i : Ix) (ps : List Plain) → term_of (w.Pick i ps) ≡ pick i (terms_of (map term_of ps))
unfolding term_of
term_of-Pick i ps = ap (fold-Plain Term plain_layer) (sym (w.rolls-Pick i ps)) ∙ fold-roll-Plain Term plain_layer (Plain-F.Pick i ps)

pub term_of-Raise : (l : ℕ) (at : List Ix) (b : Plain) → term_of (w.Raise l at b) ≡ raise l at (term_of b)
unfolding term_of
term_of-Raise l at b = ap (fold-Plain Term plain_layer) (sym (w.rolls-Raise l at b)) ∙ fold-roll-Plain Term plain_layer (Plain-F.Raise l at b)

pub term_of-Turn : (f g : Function) (b : Plain) → term_of (w.Turn f g b) ≡ turn f g (term_of b)
unfolding term_of
term_of-Turn f g b = ap (fold-Plain Term plain_layer) (sym (w.rolls-Turn f g b)) ∙ fold-roll-Plain Term plain_layer (Plain-F.Turn f g b)

pub ruleset plain_readings = (term_of-Num, term_of-Fun, term_of-Mark, term_of-Neg, term_of-Sum, term_of-Prod, term_of-Over, term_of-Dx, term_of-Delta, term_of-Pick, term_of-Raise, term_of-Turn)
