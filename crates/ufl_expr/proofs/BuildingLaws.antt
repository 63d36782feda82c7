-- What a builder owes: its tree obeys the table, and its nodes and its height are counted
use Rattle.std.proofs.Common.{◌≡◌, true≢false, ℕ, ◌+◌, ◌≤◌, max, List, [], ◌++◌, append-nil, refl, sym, ap, ap₂, ◌∙◌, subst, Option, Result, Ok, Err, inl, inr}
use Rattle.std.specs.Result.{IsErr, IsErrAnd}
use Rattle.ratio.specs.declared.reduced.Ratio.{Ratio}
use Rattle.spaces.specs.declared.cell.Cell.{Cell}
use Rattle.ufl_tree.specs.declared.function.Ix.{Ix}
use Rattle.ufl_tree.specs.declared.tree.Op1.{Op1}
use Rattle.ufl_tree.specs.declared.tree.Op2.{Op2}
use Rattle.ufl_tree.specs.declared.tree.Tree.{Tree}
use Rattle.ufl_tree.specs.declared.tree.Node.{Node}
use Rattle.ufl_tree.specs.declared.tree.Node.TheVariants as v
use Rattle.ufl_tree.specs.Typed.{Kind, Typed, number, identity, one, two, power, index, partial, tensor, variable, diff, own_kind}
use Rattle.ufl_tree.specs.Reading.{typed_of, kind_of, tree_with}
use Rattle.ufl_tree.proofs.KindLaws.{own_kind-typed_of}
use Rattle.ufl_tree.proofs.ReadingLaws.{typed_of-Number, typed_of-Identity, typed_of-One, typed_of-Two, typed_of-Power, typed_of-Index, typed_of-Partial, typed_of-Tensor, typed_of-Variable, typed_of-Diff}
use Rattle.ufl_expr.specs.declared.refusal.TypeRefusal.{TypeRefusal}
use Rattle.ufl_expr.specs.declared.refusal.TypeRefusal.TheVariants.{Memory}
use Rattle.ufl_expr.specs.Answer.{Gives}
use Rattle.ufl_expr.specs.Shapes.{ShapeVerdict}
use Rattle.ufl_expr.specs.Frees.{FreeVerdict}
use Rattle.ufl_expr.specs.Sizes.{nodes_of, height_of}
use Rattle.ufl_expr.specs.Table.{Verdict, CellVerdict, kind_from, IsTyped, plain_kind, identity_kind, one_kind, two_kind, power_kind, index_kind, partial_kind, tensor_kind, joined_cell, has_argument, variable_kind, diff_cell, diff_kind, label_of}
use Rattle.ufl_expr.specs.declared.signature.Signature.{Signature}
use Rattle.ufl_expr.specs.Signatures.{kinds}
use Rattle.ufl_expr.specs.Building.{built, diff_by}

-- ---- answers
pub gives_same : {A : Type 0} (r w : Result A TypeRefusal) → r ≡ w → Gives r w
gives_same (Ok e) w h = sym h
gives_same (Err r) w h = inr (sym h)

-- what a `?` passes on
pub gives_passed : {A : Type 0} (r w : Result A TypeRefusal) (e : TypeRefusal) → IsErr r → IsErrAnd r (λ x. x ≡ e) → Gives (Err e) w → Gives r w
gives_passed (Ok t) w e h g k = absurd (true≢false (sym h))
gives_passed (Err x) w e h g k = subst (λ y. Gives (Err y) w) (sym g) k

pub gives_memory : {A : Type 0} (r w : Result A TypeRefusal) → IsErr r → IsErrAnd r (λ x. x ≡ Memory) → Gives r w
gives_memory r w h g = gives_passed r w Memory h g (inl refl)

pub gives_kinds_memory : (r : Result Signature TypeRefusal) (w : Verdict) → IsErr r → IsErrAnd r (λ x. x ≡ Memory) → Gives (kinds r) w
gives_kinds_memory (Ok t) w h g = absurd (true≢false (sym h))
gives_kinds_memory (Err x) w h g = inl g

-- a refusal of one step is one of the next
pub gives_refused : {A B : Type 0} (r : TypeRefusal) (w : Result A TypeRefusal) (f : Result A TypeRefusal → Result B TypeRefusal)
    → f (Err r) ≡ Err r → Gives (Err r) w → Gives (Err r) (f w)
gives_refused r w f h (inl m) = inl m
gives_refused r w f h (inr e) = inr (ap f e ∙ h)

gives_second : (c : Option Cell) (s : List ℕ) (S : ShapeVerdict) (r : TypeRefusal) (F : FreeVerdict) → S ≡ Ok s → Gives (Err r) F → Gives (Err r) (kind_from (Ok c) S F)
gives_second c s S r F hs (inl m) = inl m
gives_second c s S r F hs (inr e) = inr (ap₂ (λ x y. kind_from (Ok c) x y) hs e)

pub gives_kind : (c : CellVerdict) (s S : ShapeVerdict) (f F : FreeVerdict) → Gives s S → Gives f F → Gives (kind_from c s f) (kind_from c S F)
gives_kind (Err r) s S f F hs hf = inr refl
gives_kind (Ok c) (Err r) S f F hs hf = gives_refused r S (λ x. kind_from (Ok c) x F) refl hs
gives_kind (Ok c) (Ok s) S (Err r) F hs hf = gives_second c s S r F hs hf
gives_kind (Ok c) (Ok s) S (Ok f) F hs hf = ap₂ (λ x y. kind_from (Ok c) x y) hs hf

-- ---- counted trees
-- the tree obeys the table, with n nodes and the height h
pub record Counted (t : Typed) (n h : ℕ) : Type 0 where
  pub typed : IsTyped t
  pub count : n ≡ nodes_of t
  pub depth : h ≡ height_of t

pub counted_same : (t u : Typed) (n h : ℕ) → t ≡ u → Counted u n h → Counted t n h
counted_same t u n h e C = subst (λ x. Counted x n h) (sym e) C

-- the part that a node stores is an equal tree
pub moved : (p a : Tree) (n h : ℕ) → p ≡ a → Counted (typed_of a) n h → Counted (typed_of p) n h
moved p a n h e C = subst (λ x. Counted (typed_of x) n h) (sym e) C

pub counted_number : (c : Ratio) (k : Kind) → k ≡ plain_kind → Counted (typed_of (tree_with (v.Number c) k)) 1 1
unfolding IsTyped nodes_of height_of
counted_number c k e = counted_same _ (number k c) 1 1 (typed_of-Number c k) (record { typed = e; count = refl; depth = refl })

pub counted_identity : (n : ℕ) (k : Kind) → identity_kind n ≡ Ok k → Counted (typed_of (tree_with (v.Identity n) k)) 1 1
unfolding IsTyped nodes_of height_of
counted_identity n k e = counted_same _ (identity k n) 1 1 (typed_of-Identity n k) (record { typed = e; count = refl; depth = refl })

pub counted_one : (op : Op1) (a : Tree) (k : Kind) (n h : ℕ) → one_kind op (kind_of a) ≡ Ok k → Counted (typed_of a) n h
    → Counted (typed_of (tree_with (v.One op a) k)) (n + 1) (h + 1)
unfolding IsTyped nodes_of height_of
counted_one op a k n h e C =
    counted_same _ (one k op (typed_of a)) (n + 1) (h + 1) (typed_of-One op a k)
    (record { typed = (ap (one_kind op) (own_kind-typed_of a) ∙ e, C.typed); count = ap (λ x. x + 1) C.count; depth = ap (λ x. x + 1) C.depth })

pub counted_two : (op : Op2) (a b : Tree) (k : Kind) (m n h i : ℕ) → two_kind op (kind_of a) (kind_of b) ≡ Ok k
    → Counted (typed_of a) m h → Counted (typed_of b) n i → Counted (typed_of (tree_with (v.Two op a b) k)) (m + n + 1) (max h i + 1)
unfolding IsTyped nodes_of height_of
counted_two op a b k m n h i e C D =
    counted_same _ (two k op (typed_of a) (typed_of b)) (m + n + 1) (max h i + 1) (typed_of-Two op a b k)
    (record {
      typed = (ap₂ (two_kind op) (own_kind-typed_of a) (own_kind-typed_of b) ∙ e, C.typed, D.typed);
      count = ap₂ (λ x y. x + y + 1) C.count D.count;
      depth = ap₂ (λ x y. max x y + 1) C.depth D.depth;
    })

pub counted_power : (a : Tree) (e : ℕ) (k : Kind) (n h : ℕ) → power_kind (kind_of a) ≡ Ok k → e ≤ 127 → Counted (typed_of a) n h
    → Counted (typed_of (tree_with (v.Power a e) k)) (n + 1) (h + 1)
unfolding IsTyped nodes_of height_of
counted_power a e k n h is few C =
    counted_same _ (power k (typed_of a) e) (n + 1) (h + 1) (typed_of-Power a e k)
    (record { typed = (ap power_kind (own_kind-typed_of a) ∙ is, few, C.typed); count = ap (λ x. x + 1) C.count; depth = ap (λ x. x + 1) C.depth })

pub counted_index : (a : Tree) (at : List Ix) (k : Kind) (n h : ℕ) → index_kind (kind_of a) at ≡ Ok k → Counted (typed_of a) n h
    → Counted (typed_of (tree_with (v.Index a at) k)) (n + 1) (h + 1)
unfolding IsTyped nodes_of height_of
counted_index a at k n h is C =
    counted_same _ (index k (typed_of a) at) (n + 1) (h + 1) (typed_of-Index a at k)
    (record { typed = (ap (λ x. index_kind x at) (own_kind-typed_of a) ∙ is, C.typed); count = ap (λ x. x + 1) C.count; depth = ap (λ x. x + 1) C.depth })

pub counted_partial : (a : Tree) (i : Ix) (k : Kind) (n h : ℕ) → partial_kind (kind_of a) i ≡ Ok k → Counted (typed_of a) n h
    → Counted (typed_of (tree_with (v.Partial a i) k)) (n + 1) (h + 1)
unfolding IsTyped nodes_of height_of
counted_partial a i k n h is C =
    counted_same _ (partial k (typed_of a) i) (n + 1) (h + 1) (typed_of-Partial a i k)
    (record { typed = (ap (λ x. partial_kind x i) (own_kind-typed_of a) ∙ is, C.typed); count = ap (λ x. x + 1) C.count; depth = ap (λ x. x + 1) C.depth })

pub counted_tensor : (a : Tree) (by : List ℕ) (k : Kind) (n h : ℕ) → tensor_kind (kind_of a) by ≡ Ok k → Counted (typed_of a) n h
    → Counted (typed_of (tree_with (v.Tensor a by) k)) (n + 1) (h + 1)
unfolding IsTyped nodes_of height_of
counted_tensor a by k n h is C =
    counted_same _ (tensor k (typed_of a) by) (n + 1) (h + 1) (typed_of-Tensor a by k)
    (record { typed = (ap (λ x. tensor_kind x by) (own_kind-typed_of a) ∙ is, C.typed); count = ap (λ x. x + 1) C.count; depth = ap (λ x. x + 1) C.depth })

pub counted_variable : (l : ℕ) (a : Tree) (k : Kind) (n h : ℕ) → variable_kind (has_argument (typed_of a)) (kind_of a) ≡ Ok k → Counted (typed_of a) n h
    → Counted (typed_of (tree_with (v.Variable l a) k)) (n + 1) (h + 1)
unfolding IsTyped nodes_of height_of
counted_variable l a k n h is C =
    counted_same _ (variable k l (typed_of a)) (n + 1) (h + 1) (typed_of-Variable l a k)
    (record { typed = (ap (variable_kind (has_argument (typed_of a))) (own_kind-typed_of a) ∙ is, C.typed); count = ap (λ x. x + 1) C.count; depth = ap (λ x. x + 1) C.depth })

-- a derivative has what its table gives it, whatever the cell of the variable
diff_of : (c : CellVerdict) (a : Kind) (by : List ℕ) (k : Kind) → kind_from (diff_cell a.cell c) (Ok (a.shape ++ by)) (Ok a.free) ≡ Ok k
    → k ≡ record { shape = a.shape ++ by; free = a.free; cell = a.cell }
diff_of (Ok d) a by k h = cc
diff_of (Err r) a by k h = cc

pub counted_diff : (l : ℕ) (by : List ℕ) (a : Tree) (w : Kind) (k : Kind) (n h : ℕ) → diff_kind (kind_of a) w ≡ Ok k → by ≡ w.shape → Counted (typed_of a) n h
    → Counted (typed_of (tree_with (v.Diff l by a) k)) (n + 1) (h + 1)
unfolding IsTyped nodes_of height_of
counted_diff l by a w k n h is same C =
    let b = own_kind (typed_of a) in
    let e : b ≡ kind_of a = own_kind-typed_of a in
    counted_same _ (diff k l by (typed_of a)) (n + 1) (h + 1) (typed_of-Diff l by a k)
    (record {
      typed = (
        diff_of (joined_cell a.cell w.cell) (kind_of a) w.shape k is
            ∙ ap₂ (λ (x : Kind) (y : List ℕ). record { shape = x.shape ++ y; free = x.free; cell = x.cell }) (sym e) (sym same),
        C.typed,
      );
      count = ap (λ x. x + 1) C.count;
      depth = ap (λ x. x + 1) C.depth;
    })

-- ---- what is built of parts that are stored as equal trees
pub built_as : (V : Tree → Verdict) (N : Tree → Node) (p z : Tree) (k : Kind) → V p ≡ Ok k → p ≡ z → built (Ok k) (N p) ≡ built (V z) (N z)
built_as V N p z k e is = ap (λ w. built w (N p)) (sym e) ∙ ap (λ t. built (V t) (N t)) is

pub built_as_two : {B : Type 0} (V : Tree → B → Verdict) (N : Tree → B → Node) (p : Tree) (q : B) (y : Tree) (z : B) (k : Kind) → V p q ≡ Ok k → p ≡ y → q ≡ z
    → built (Ok k) (N p q) ≡ built (V y z) (N y z)
built_as_two V N p q y z k e is it = ap (λ w. built w (N p q)) (sym e) ∙ ap₂ (λ s t. built (V s t) (N s t)) is it

built_refusal : (r : TypeRefusal) (n : Node) → built (Err r) n ≡ Err r
unfolding built
built_refusal r n = refl

pub refused_built : (w : Verdict) (n : Node) (r : TypeRefusal) → Gives (Err r) w → Gives (Err r) (built w n)
refused_built w n r h = gives_refused r w (λ x. built x n) (built_refusal r n) h

pub refused_as : (V : Tree → Verdict) (N : Tree → Node) (a z : Tree) (r : TypeRefusal) → Gives (Err r) (V a) → a ≡ z → Gives (Err r) (built (V z) (N z))
refused_as V N a z r h view = subst (λ t. Gives (Err r) (built (V t) (N t))) view (refused_built (V a) (N a) r h)

pub refused_as_two : (V : Tree → Tree → Verdict) (N : Tree → Tree → Node) (a b y z : Tree) (r : TypeRefusal) → Gives (Err r) (V a b) → a ≡ y → b ≡ z
    → Gives (Err r) (built (V y z) (N y z))
refused_as_two V N a b y z r h view view2 =
    subst (λ s. Gives (Err r) (built (V s z) (N s z))) view
    (subst (λ t. Gives (Err r) (built (V a t) (N a t))) view2 (refused_built (V a b) (N a b) r h))

-- the three parts of a kind, each as its call gave it
pub gives_from : (r : Verdict) (c C : CellVerdict) (s S T : ShapeVerdict) (f F G : FreeVerdict) → r ≡ kind_from c s f → c ≡ C → S ≡ T → F ≡ G
    → Gives s S → Gives f F → Gives r (kind_from C T G)
gives_from r c C s S T f F G h hc hs hf gs gf =
    subst (λ x. Gives x (kind_from C T G)) (sym h)
    (subst (λ x. Gives (kind_from c s f) (kind_from x T G)) hc
    (gives_kind c s T f G (subst (λ x. Gives s x) hs gs) (subst (λ x. Gives f x) hf gf)))

-- the table says the same of the part that a node stores
pub same_kind : (V : Tree → Verdict) (p a : Tree) (w : Verdict) → p ≡ a → V a ≡ w → V p ≡ w
same_kind V p a w is e = ap V is ∙ e

pub same_kinds : {B : Type 0} (V : Tree → B → Verdict) (p : Tree) (q : B) (a : Tree) (b : B) (w : Verdict) → p ≡ a → q ≡ b → V a b ≡ w → V p q ≡ w
same_kinds V p q a b w is it e = ap₂ V is it ∙ e

-- ---- derivatives by a variable
-- w is the variable as it was read, u the variable itself
pub built_diff : (p a z w u : Tree) (by : List ℕ) (l : ℕ) (k : Kind) → diff_kind (kind_of a) (kind_of w) ≡ Ok k → p ≡ a → a ≡ z → w ≡ u → by ≡ w.shape
    → label_of (typed_of w) ≡ Ok l → built (Ok k) (v.Diff l by p) ≡ diff_by (label_of (typed_of u)) z u
built_diff p a z w u by l k e is view same sizes label =
    ap (λ x. built x (v.Diff l by p)) (sym e)
    ∙ ap₂ (λ y q. built (diff_kind (kind_of a) (kind_of w)) (v.Diff l y q)) sizes (is ∙ view)
    ∙ ap (λ t. built (diff_kind (kind_of t) (kind_of w)) (v.Diff l w.shape z)) view
    ∙ ap (λ x. diff_by x z w) (sym label)
    ∙ ap (λ t. diff_by (label_of (typed_of t)) z t) same

pub refused_diff : (a z w u : Tree) (l : ℕ) (r : TypeRefusal) → Gives (Err r) (diff_kind (kind_of a) (kind_of w)) → a ≡ z → w ≡ u
    → label_of (typed_of w) ≡ Ok l → Gives (Err r) (diff_by (label_of (typed_of u)) z u)
refused_diff a z w u l r h view same label =
    subst (λ t. Gives (Err r) (diff_by (label_of (typed_of t)) z t)) same
    (subst (λ x. Gives (Err r) (diff_by x z w)) (sym label)
    (subst (λ t. Gives (Err r) (built (diff_kind (kind_of t) (kind_of w)) (v.Diff l w.shape z))) view
    (refused_built (diff_kind (kind_of a) (kind_of w)) (v.Diff l w.shape z) r h)))

pub no_variable : (z w u : Tree) (r : TypeRefusal) → w ≡ u → label_of (typed_of w) ≡ Err r → Gives (Err r) (diff_by (label_of (typed_of u)) z u)
no_variable z w u r same label = inr (sym (ap (λ t. diff_by (label_of (typed_of t)) z t) same) ∙ ap (λ x. diff_by x z w) label)

-- a copy of all sizes
abbrev pub all_sizes : List ℕ → ShapeVerdict
all_sizes x = Ok (x ++ [])

pub same_sizes : (x s : List ℕ) → x ≡ s → all_sizes x ≡ Ok s
same_sizes x s e = ap (λ y. Ok y) (append-nil x ∙ e)
