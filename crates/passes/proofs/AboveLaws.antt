-- The least number above all names, tree by tree
use Rattle.std.proofs.Common.{◌≡◌, ℕ, max, List, [], ◌∷◌, ◌<◌, ◌+◌, ◌++◌, length, take, get_or, map, sym, ◌∙◌, ap, ap₂, arith}
use Rattle.std.proofs.lemmas.Grind.{take_at_read}
use Rattle.ufl_tree.specs.declared.tree.Tree.{Tree}
use Rattle.ufl_tree.specs.Reading.{typed_of, typed_list}
use Rattle.lower.specs.Keeping.{names_above, all_names_above}

names-push : (ts : List Tree) (t : Tree) → all_names_above (typed_list (map typed_of (ts ++ t ∷ []))) ≡ max (all_names_above (typed_list (map typed_of ts))) (names_above (typed_of t))
names-push [] t = omega arith
names-push (x ∷ ts) t = omega (arith, names-push ts t)

pub names_next : (ts : List Tree) (i : ℕ) (t : Tree) (most own new : ℕ) → i < length ts → t ≡ get_or ts i t → most ≡ all_names_above (typed_list (map typed_of (take i ts))) → own ≡ names_above (typed_of t)
    → new ≡ max most own → new ≡ all_names_above (typed_list (map typed_of (take (i + 1) ts)))
names_next ts i t most own new h e was is now =
    now ∙ ap₂ max was is ∙ sym (names-push (take i ts) t) ∙ sym (ap (λ x. all_names_above (typed_list (map typed_of x))) ((take_at_read ts i t h).1 ∙ ap (λ y. take i ts ++ y ∷ []) (sym e)))
