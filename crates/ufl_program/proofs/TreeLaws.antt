-- What the builders of expressions give is sound where their operands are
use Rattle.std.proofs.Common.{◌≡◌, ◌≤◌, ℕ, Bool, true, false, if◌then◌else◌, List, [], ◌∷◌, ◌++◌, map, refl, sym, subst, Result, Ok, Err}
use Rattle.ratio.specs.declared.reduced.Ratio.{Ratio}
use Rattle.ufl_tree.specs.declared.function.Function.{Function}
use Rattle.ufl_tree.specs.declared.function.Ix.{Ix}
use Rattle.ufl_tree.specs.declared.tree.Op1.{Op1}
use Rattle.ufl_tree.specs.declared.tree.Op2.{Op2}
use Rattle.ufl_tree.specs.declared.tree.Tree.{Tree}
use Rattle.ufl_tree.specs.declared.tree.Node.{Node}
use Rattle.ufl_tree.specs.declared.tree.Node.TheVariants as v
use Rattle.ufl_tree.specs.Places.{Table}
use Rattle.ufl_tree.specs.Typed.{Kind}
use Rattle.ufl_tree.specs.Reading.{typed_of, kind_of, tree_with}
use Rattle.ufl_expr.specs.declared.refusal.TypeRefusal.{TypeRefusal}
use Rattle.ufl_expr.specs.declared.refusal.TypeRefusal.TheVariants.{Nodes}
use Rattle.ufl_expr.specs.Sizes.{nodes_of, height_of, nodes_of_all, height_of_all}
use Rattle.ufl_expr.specs.Table.{Verdict, IsTyped, AreTyped, plain_kind, identity_kind, one_kind, two_kind, power_kind, index_kind, partial_kind, tensor_kind, list_kind, has_argument, variable_kind, diff_kind, label_of}
use Rattle.ufl_expr.specs.Elements.{function_in, piece_in}
use Rattle.ufl_expr.specs.Building.{built, fits, diff_by, EachTree}
use Rattle.ufl_expr.specs.Fits.{Fits}
use Rattle.ufl_expr.specs.Numbered.{HasItsElement, Numbered}
use Rattle.ufl_expr.proofs.BuildingLaws.{Counted, counted_number, counted_identity, counted_one, counted_two, counted_power, counted_index, counted_partial, counted_tensor, counted_variable, counted_diff}
use Rattle.ufl_expr.proofs.ListLaws.{listed, counted_list}
use Rattle.ufl_expr.proofs.FunctionLaws.{counted_function, counted_piece}
use Rattle.ufl_expr.proofs.FitLaws.{builders_fit, builders_number}
use Rattle.ufl_program.specs.Sound.{SoundTree}

-- what is built is a tree of the node, with the kind of the verdict
record IsBuilt (w : Verdict) (n : Node) (t : Tree) : Type 0 where
  kind : Kind
  verdict : w ≡ Ok kind
  tree : t ≡ tree_with n kind

built_choice : (b : Bool) (k : Kind) (n : Node) (t : Tree) (r : Result Tree TypeRefusal) → r ≡ (if b then Ok (tree_with n k) else Err Nodes) → r ≡ Ok t → t ≡ tree_with n k
built_choice true k n t r e h = cc
built_choice false k n t r e h = cc

differ : (r : TypeRefusal) (n : Node) (t : Tree) → built (Err r) n ≡ Ok t → ⊥
unfolding built
differ r n t h = cc

is_built : (w : Verdict) (n : Node) (t : Tree) → built w n ≡ Ok t → IsBuilt w n t
unfolding built
is_built (Err r) n t h = absurd (differ r n t h)
is_built (Ok k) n t h = record { kind = k; verdict = refl; tree = built_choice (fits (typed_of (tree_with n k))) k n t (built (Ok k) n) refl h }

-- what the table says of the node is counted, so what is built obeys the table
typed_as : (w : Verdict) (n : Node) (t : Tree) (i j : ℕ) → built w n ≡ Ok t
    → ((k : Kind) → w ≡ Ok k → Counted (typed_of (tree_with n k)) i j) → IsTyped (typed_of t)
typed_as w n t i j h c = let b = is_built w n t h in subst (λ x. IsTyped (typed_of x)) (sym b.tree) (c b.kind b.verdict).typed

counted : (t : Tree) → IsTyped (typed_of t) → Counted (typed_of t) (nodes_of (typed_of t)) (height_of (typed_of t))
counted t T = record { typed = T; count = refl; depth = refl }

module _ (table : Table) (numbers : List ℕ) where
  abbrev Sound : Tree → Type 0
  Sound = SoundTree table numbers

  pub sound_number : (c : Ratio) (t : Tree) → built (Ok plain_kind) (v.Number c) ≡ Ok t → Sound t
  sound_number c t h = record {
    typed = typed_as (Ok plain_kind) (v.Number c) t 1 1 h (λ k e. counted_number c k cc);
    fits = (builders_fit table).of_others.of_number (Ok plain_kind) c t h;
    numbered = (builders_number numbers).of_others.of_number (Ok plain_kind) c t h;
  }

  pub sound_identity : (n : ℕ) (t : Tree) → built (identity_kind n) (v.Identity n) ≡ Ok t → Sound t
  sound_identity n t h = record {
    typed = typed_as (identity_kind n) (v.Identity n) t 1 1 h (counted_identity n);
    fits = (builders_fit table).of_others.of_identity (identity_kind n) n t h;
    numbered = (builders_number numbers).of_others.of_identity (identity_kind n) n t h;
  }

  pub sound_function : (f : Function) (t : Tree) → built (function_in table f) (v.Fun f) ≡ Ok t → HasItsElement numbers f → Sound t
  sound_function f t h p = record {
    typed = typed_as (function_in table f) (v.Fun f) t 1 1 h (counted_function f table);
    fits = (builders_fit table).of_function f t h;
    numbered = (builders_number numbers).of_function (function_in table f) f t h p;
  }

  pub sound_piece : (f : Function) (n : ℕ) (t : Tree) → built (piece_in table f n) (v.Piece f n) ≡ Ok t → HasItsElement numbers f → Sound t
  sound_piece f n t h p = record {
    typed = typed_as (piece_in table f n) (v.Piece f n) t 1 1 h (counted_piece f n table);
    fits = (builders_fit table).of_piece f n t h;
    numbered = (builders_number numbers).of_piece (piece_in table f n) f n t h p;
  }

  pub sound_one : (op : Op1) (a t : Tree) → built (one_kind op (kind_of a)) (v.One op a) ≡ Ok t → Sound a → Sound t
  sound_one op a t h A = record {
    typed = typed_as (one_kind op (kind_of a)) (v.One op a) t _ _ h (λ k e. counted_one op a k _ _ e (counted a A.typed));
    fits = (builders_fit table).of_others.of_one (one_kind op (kind_of a)) op a t h A.fits;
    numbered = (builders_number numbers).of_others.of_one (one_kind op (kind_of a)) op a t h A.numbered;
  }

  pub sound_two : (op : Op2) (a b t : Tree) → built (two_kind op (kind_of a) (kind_of b)) (v.Two op a b) ≡ Ok t → Sound a → Sound b → Sound t
  sound_two op a b t h A B = record {
    typed = typed_as (two_kind op (kind_of a) (kind_of b)) (v.Two op a b) t _ _ h
        (λ k e. counted_two op a b k _ _ _ _ e (counted a A.typed) (counted b B.typed));
    fits = (builders_fit table).of_others.of_two (two_kind op (kind_of a) (kind_of b)) op a b t h A.fits B.fits;
    numbered = (builders_number numbers).of_others.of_two (two_kind op (kind_of a) (kind_of b)) op a b t h A.numbered B.numbered;
  }

  pub sound_power : (a : Tree) (n : ℕ) (t : Tree) → built (power_kind (kind_of a)) (v.Power a n) ≡ Ok t → n ≤ 127 → Sound a → Sound t
  sound_power a n t h few A = record {
    typed = typed_as (power_kind (kind_of a)) (v.Power a n) t _ _ h (λ k e. counted_power a n k _ _ e few (counted a A.typed));
    fits = (builders_fit table).of_others.of_power (power_kind (kind_of a)) a n t h A.fits;
    numbered = (builders_number numbers).of_others.of_power (power_kind (kind_of a)) a n t h A.numbered;
  }

  pub sound_index : (a : Tree) (at : List Ix) (t : Tree) → built (index_kind (kind_of a) at) (v.Index a at) ≡ Ok t → Sound a → Sound t
  sound_index a at t h A = record {
    typed = typed_as (index_kind (kind_of a) at) (v.Index a at) t _ _ h (λ k e. counted_index a at k _ _ e (counted a A.typed));
    fits = (builders_fit table).of_others.of_index (index_kind (kind_of a) at) a at t h A.fits;
    numbered = (builders_number numbers).of_others.of_index (index_kind (kind_of a) at) a at t h A.numbered;
  }

  pub sound_partial : (a : Tree) (i : Ix) (t : Tree) → built (partial_kind (kind_of a) i) (v.Partial a i) ≡ Ok t → Sound a → Sound t
  sound_partial a i t h A = record {
    typed = typed_as (partial_kind (kind_of a) i) (v.Partial a i) t _ _ h (λ k e. counted_partial a i k _ _ e (counted a A.typed));
    fits = (builders_fit table).of_others.of_partial (partial_kind (kind_of a) i) a i t h A.fits;
    numbered = (builders_number numbers).of_others.of_partial (partial_kind (kind_of a) i) a i t h A.numbered;
  }

  pub sound_tensor : (a : Tree) (by : List ℕ) (t : Tree) → built (tensor_kind (kind_of a) by) (v.Tensor a by) ≡ Ok t → Sound a → Sound t
  sound_tensor a by t h A = record {
    typed = typed_as (tensor_kind (kind_of a) by) (v.Tensor a by) t _ _ h (λ k e. counted_tensor a by k _ _ e (counted a A.typed));
    fits = (builders_fit table).of_others.of_tensor (tensor_kind (kind_of a) by) a by t h A.fits;
    numbered = (builders_number numbers).of_others.of_tensor (tensor_kind (kind_of a) by) a by t h A.numbered;
  }

  pub sound_variable : (l : ℕ) (a t : Tree) → built (variable_kind (has_argument (typed_of a)) (kind_of a)) (v.Variable l a) ≡ Ok t → Sound a → Sound t
  sound_variable l a t h A = record {
    typed = typed_as (variable_kind (has_argument (typed_of a)) (kind_of a)) (v.Variable l a) t _ _ h
        (λ k e. counted_variable l a k _ _ e (counted a A.typed));
    fits = (builders_fit table).of_others.of_variable (variable_kind (has_argument (typed_of a)) (kind_of a)) l a t h A.fits;
    numbered = (builders_number numbers).of_others.of_variable (variable_kind (has_argument (typed_of a)) (kind_of a)) l a t h A.numbered;
  }

  sound_diff_by : (r : Result ℕ TypeRefusal) (f w t : Tree) → diff_by r f w ≡ Ok t → Sound f → Sound t
  sound_diff_by (Err e) f w t h F = cc
  sound_diff_by (Ok l) f w t h F = record {
    typed = typed_as (diff_kind (kind_of f) (kind_of w)) (v.Diff l w.shape f) t _ _ h
        (λ k e. counted_diff l w.shape f (kind_of w) k _ _ e refl (counted f F.typed));
    fits = (builders_fit table).of_others.of_diff (diff_kind (kind_of f) (kind_of w)) l w.shape f t h F.fits;
    numbered = (builders_number numbers).of_others.of_diff (diff_kind (kind_of f) (kind_of w)) l w.shape f t h F.numbered;
  }

  pub sound_diff : (f w t : Tree) → diff_by (label_of (typed_of w)) f w ≡ Ok t → Sound f → Sound t
  sound_diff f w t h F = sound_diff_by (label_of (typed_of w)) f w t h F

  pub all_typed : (ts : List Tree) → EachTree Sound ts → AreTyped (listed ts)
  unfolding IsTyped
  all_typed [] h = tt
  all_typed (t ∷ ts) h = (h.0.typed, all_typed ts h.1)

  all_fit : (ts : List Tree) → EachTree Sound ts → EachTree (Fits table) ts
  all_fit [] h = tt
  all_fit (t ∷ ts) h = (h.0.fits, all_fit ts h.1)

  all_numbered : (ts : List Tree) → EachTree Sound ts → EachTree (Numbered numbers) ts
  all_numbered [] h = tt
  all_numbered (t ∷ ts) h = (h.0.numbered, all_numbered ts h.1)

  pub sound_list : (ts : List Tree) (t : Tree) → built (list_kind (map kind_of ts)) (v.List ts) ≡ Ok t → EachTree Sound ts → Sound t
  sound_list ts t h A = record {
    typed = typed_as (list_kind (map kind_of ts)) (v.List ts) t _ _ h
        (λ k e. counted_list ts k (nodes_of_all (listed ts)) (height_of_all (listed ts)) e (record { typed = all_typed ts A; count = refl; depth = refl }));
    fits = (builders_fit table).of_others.of_list (list_kind (map kind_of ts)) ts t h (all_fit ts A);
    numbered = (builders_number numbers).of_others.of_list (list_kind (map kind_of ts)) ts t h (all_numbered ts A);
  }

-- a longer table and a longer list
pub tree_longer : (table more : Table) (numbers others : List ℕ) (t : Tree) → SoundTree table numbers t → SoundTree (table ++ more) (numbers ++ others) t
tree_longer table more numbers others t A = record {
  typed = A.typed;
  fits = (builders_fit table).of_longer t more A.fits;
  numbered = (builders_number numbers).of_longer t others A.numbered;
}
