-- What a tree is read as, by its node
use Rattle.std.proofs.Common.{◌≡◌, ℕ, List, map, sym, ap, ap₂, ◌∙◌, ◌++◌}
use Rattle.ratio.specs.declared.reduced.Ratio.{Ratio}
use Rattle.ufl_tree.specs.declared.function.Function.{Function}
use Rattle.ufl_tree.specs.declared.function.Ix.{Ix}
use Rattle.ufl_tree.specs.declared.tree.Op1.{Op1}
use Rattle.ufl_tree.specs.declared.tree.Op2.{Op2}
use Rattle.ufl_tree.specs.declared.tree.Tree.{Tree}
use Rattle.ufl_tree.specs.declared.tree.Node.TheVariants as v
use Rattle.ufl_tree.specs.Typed.{number, identity, function, piece, one, two, power, index, partial, tensor, list, variable, diff, shape_of, free_of}
use Rattle.ufl_tree.specs.Reading.{typed_of, typed_list, kind_of}
use Rattle.ufl_tree.specs.Indices.{repeated, named, direction}
use Rattle.monos.specs.Summed.{summed}
use Rattle.ufl_tree.proofs.KindLaws.{own_kind-typed_of, reads}
use Rattle.ufl_tree.proofs.ReadingLaws as r
use Rattle.passes.specs.Component.{summed_at}

pub shape_read : (t : Tree) → shape_of (typed_of t) ≡ t.shape
shape_read t = ap (λ k. k.shape) (own_kind-typed_of t)

pub free_read : (t : Tree) → free_of (typed_of t) ≡ t.free
free_read t = ap (λ k. k.free) (own_kind-typed_of t)

pub read-Number : (t : Tree) (c : Ratio) → t.node ≡ v.Number c → typed_of t ≡ number (kind_of t) c
read-Number t c h = reads t (v.Number c) _ h (r.typed_of-Number c (kind_of t))

pub read-Identity : (t : Tree) (n : ℕ) → t.node ≡ v.Identity n → typed_of t ≡ identity (kind_of t) n
read-Identity t n h = reads t (v.Identity n) _ h (r.typed_of-Identity n (kind_of t))

pub read-Fun : (t : Tree) (f : Function) → t.node ≡ v.Fun f → typed_of t ≡ function (kind_of t) f
read-Fun t f h = reads t (v.Fun f) _ h (r.typed_of-Fun f (kind_of t))

pub read-Piece : (t : Tree) (f : Function) (n : ℕ) → t.node ≡ v.Piece f n → typed_of t ≡ piece (kind_of t) f n
read-Piece t f n h = reads t (v.Piece f n) _ h (r.typed_of-Piece f n (kind_of t))

pub read-One : (t : Tree) (op : Op1) (a : Tree) → t.node ≡ v.One op a → typed_of t ≡ one (kind_of t) op (typed_of a)
read-One t op a h = reads t (v.One op a) _ h (r.typed_of-One op a (kind_of t))

pub read-Two : (t : Tree) (op : Op2) (a b : Tree) → t.node ≡ v.Two op a b → typed_of t ≡ two (kind_of t) op (typed_of a) (typed_of b)
read-Two t op a b h = reads t (v.Two op a b) _ h (r.typed_of-Two op a b (kind_of t))

pub read-Power : (t : Tree) (a : Tree) (n : ℕ) → t.node ≡ v.Power a n → typed_of t ≡ power (kind_of t) (typed_of a) n
read-Power t a n h = reads t (v.Power a n) _ h (r.typed_of-Power a n (kind_of t))

pub read-Index : (t : Tree) (a : Tree) (at : List Ix) → t.node ≡ v.Index a at → typed_of t ≡ index (kind_of t) (typed_of a) at
read-Index t a at h = reads t (v.Index a at) _ h (r.typed_of-Index a at (kind_of t))

pub read-Partial : (t : Tree) (a : Tree) (i : Ix) → t.node ≡ v.Partial a i → typed_of t ≡ partial (kind_of t) (typed_of a) i
read-Partial t a i h = reads t (v.Partial a i) _ h (r.typed_of-Partial a i (kind_of t))

pub read-Tensor : (t : Tree) (a : Tree) (by : List ℕ) → t.node ≡ v.Tensor a by → typed_of t ≡ tensor (kind_of t) (typed_of a) by
read-Tensor t a by h = reads t (v.Tensor a by) _ h (r.typed_of-Tensor a by (kind_of t))

pub read-List : (t : Tree) (ts : List Tree) → t.node ≡ v.List ts → typed_of t ≡ list (kind_of t) (typed_list (map typed_of ts))
read-List t ts h = reads t (v.List ts) _ h (r.typed_of-List ts (kind_of t))

pub read-Variable : (t : Tree) (l : ℕ) (a : Tree) → t.node ≡ v.Variable l a → typed_of t ≡ variable (kind_of t) l (typed_of a)
read-Variable t l a h = reads t (v.Variable l a) _ h (r.typed_of-Variable l a (kind_of t))

pub read-Diff : (t : Tree) (l : ℕ) (by : List ℕ) (a : Tree) → t.node ≡ v.Diff l by a → typed_of t ≡ diff (kind_of t) l by (typed_of a)
read-Diff t l by a h = reads t (v.Diff l by a) _ h (r.typed_of-Diff l by a (kind_of t))

-- ---- the indices that a node sums
pub summed_two : (t : Tree) (op : Op2) (a b : Tree) → t.node ≡ v.Two op a b → summed op a.free b.free ≡ summed_at (typed_of t)
summed_two t op a b h = sym (ap summed_at (read-Two t op a b h) ∙ ap₂ (summed op) (free_read a) (free_read b))

pub summed_index : (t a : Tree) (at : List Ix) → t.node ≡ v.Index a at → repeated (a.free ++ named at a.shape) ≡ summed_at (typed_of t)
summed_index t a at h = sym (ap summed_at (read-Index t a at h) ∙ ap₂ (λ xs s. repeated (xs ++ named at s)) (free_read a) (shape_read a))

pub summed_partial : (t a : Tree) (i : Ix) → t.node ≡ v.Partial a i → repeated (a.free ++ direction i a.cell) ≡ summed_at (typed_of t)
summed_partial t a i h = sym (ap summed_at (read-Partial t a i h) ∙ ap (λ k. repeated (k.free ++ direction i k.cell)) (own_kind-typed_of a))
