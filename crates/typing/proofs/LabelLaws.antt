-- Lists of sizes of which each fits a byte, and items behind others
use Rattle.std.proofs.Common.{◌≡◌, ◌<◌, ◌+◌, ℕ, suc, List, [], ◌∷◌, ◌++◌, length, take, map, get_or, sym, subst, ap, ◌∙◌, arith}
use Rattle.std.proofs.lemmas.Grind.{take_at_read}
use Rattle.ufl_tree.specs.declared.tree.Tree.{Tree}
use Rattle.ufl_tree.specs.Reading.{typed_of, typed_list}
use Rattle.typing.specs.Sizes.{AreBytes, HasByteLabels, HaveByteLabels}

pub all_bytes : (xs : List ℕ) → ((k : ℕ) → get_or xs k 0 < 256) → AreBytes xs
all_bytes [] h = tt
all_bytes (x ∷ xs) h = (let first = h 0 in omega (arith, first), all_bytes xs (λ k. h (suc k)))

labels_push : (ts : List Tree) (t : Tree) → HaveByteLabels (typed_list (map typed_of ts)) → HasByteLabels (typed_of t) → HaveByteLabels (typed_list (map typed_of (ts ++ t ∷ [])))
labels_push [] t h k = (k, tt)
labels_push (x ∷ ts) t h k = (h.0, labels_push ts t h.1 k)

-- the item at a place behind those before it
pub labels_next : (ts : List Tree) (i : ℕ) (t : Tree) → i < length ts → t ≡ get_or ts i t → HaveByteLabels (typed_list (map typed_of (take i ts)))
    → HasByteLabels (typed_of t) → HaveByteLabels (typed_list (map typed_of (take (i + 1) ts)))
labels_next ts i t h e before own =
    subst (λ x. HaveByteLabels (typed_list (map typed_of x))) (sym ((take_at_read ts i t h).1 ∙ ap (λ y. take i ts ++ y ∷ []) (sym e))) (labels_push (take i ts) t before own)
