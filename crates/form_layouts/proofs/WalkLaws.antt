-- The walk over a list of trees, one after the other
use Rattle.std.proofs.Common.{◌≡◌, ℕ, ◌+◌, ◌<◌, ◌≤◌, suc, List, ◌∷◌, length, drop, map, get_or, sym, ap, ◌∙◌, add-one, drop-cons}
use Rattle.std.proofs.lemmas.List.{drop_all}
use Rattle.ufl_tree.specs.declared.tree.Tree.{Tree}
use Rattle.ufl_tree.specs.Reading.{typed_of, typed_list}
use Rattle.form_layouts.specs.declared.marks.Marks.{Marks}
use Rattle.form_layouts.specs.Marks.{with_tree, with_trees}
use Rattle.form_layouts.proofs.MarkLaws.{with_trees-no_items, with_trees-item}

-- what the trees from number i on add
abbrev pub with_rest : List Tree → ℕ → Marks → Marks
with_rest ts i m = with_trees (typed_list (map typed_of (drop i ts))) m

pub next_tree : (ts : List Tree) (i : ℕ) (t : Tree) (all before after : Marks) → i < length ts → t ≡ get_or ts i t → after ≡ with_tree (typed_of t) before
    → all ≡ with_rest ts i before → all ≡ with_rest ts (i + 1) after
next_tree ts i t all before after within at e so_far =
    so_far
    ∙ ap (λ us. with_trees (typed_list (map typed_of us)) before) (drop-cons ts i t within)
    ∙ ap (λ u. with_trees (typed_list (map typed_of (u ∷ drop (suc i) ts))) before) (sym at)
    ∙ with_trees-item (typed_of t) (typed_list (map typed_of (drop (suc i) ts))) before
    ∙ ap (λ m. with_rest ts (suc i) m) (sym e)
    ∙ ap (λ j. with_rest ts j after) (sym (add-one i))

pub last_tree : (ts : List Tree) (i : ℕ) (all m : Marks) → length ts ≤ i → all ≡ with_rest ts i m → all ≡ m
last_tree ts i all m past so_far = so_far ∙ ap (λ us. with_trees (typed_list (map typed_of us)) m) (drop_all i ts past) ∙ with_trees-no_items m
