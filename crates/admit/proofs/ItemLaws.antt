-- Lists of trees, weighed from the last item on
use Rattle.std.proofs.Common.{◌≡◌, ℕ, zero, suc, ◌+◌, ◌-◌, ◌<◌, List, [], ◌∷◌, ◌++◌, drop, length, map, refl, sym, ◌∙◌, ap, ap₂, subst, arith}
use Rattle.std.proofs.Math.ListN.{get_or}
use Rattle.ufl_tree.specs.declared.tree.Tree.{Tree}
use Rattle.ufl_tree.specs.Places.{Table}
use Rattle.ufl_tree.specs.Reading.{typed_of, typed_list}
use Rattle.monos.specs.declared.weight.Weight.{Weight}
use Rattle.weigh.specs.Weighing.{kept, join_weight, weight_with, list_weight}

abbrev from_item : Table → ℕ → List Tree → Weight
from_item elements j ts = list_weight kept elements (typed_list (map typed_of (drop j ts)))

list_step : (elements : Table) (ts : List Tree) (j : ℕ) (d : Tree) → suc j < length ts
    → join_weight kept (weight_with kept elements (typed_of (get_or ts j d))) (from_item elements (suc j) ts) ≡ from_item elements j ts
list_step elements [] j d h = absurd (omega (arith, h))
list_step elements (x ∷ []) zero d h = absurd (omega (arith, h))
list_step elements (x ∷ y ∷ ts) zero d h = refl
list_step elements (x ∷ ts) (suc j) d h = list_step elements ts j d (omega (arith, h))

front_item : (front back : List Tree) (j : ℕ) (d : Tree) → j < length front → get_or (front ++ back) j d ≡ get_or front j d
front_item [] back j d h = absurd (omega (arith, h))
front_item (x ∷ front) back zero d h = refl
front_item (x ∷ front) back (suc j) d h = front_item front back j d (omega (arith, h))

pub list_turn : (elements : Table) (trees front : List Tree) (last : Tree) (k i : ℕ) (d t : Tree) (w all v : Weight) → trees ≡ front ++ last ∷ []
    → length front + 1 ≡ length trees → k < length front → i ≡ length front - 1 - k → t ≡ get_or front i d → w ≡ weight_with kept elements (typed_of t)
    → all ≡ from_item elements (length front - k) trees → v ≡ join_weight kept w all → v ≡ from_item elements (length front - (k + 1)) trees
list_turn elements trees front last k i d t w all v whole size below place item weight rest turn =
    let j : ℕ = length front - (k + 1) in
    let same : i ≡ length front - (k + 1) = place ∙ omega (arith, below) in
    let next : length front - k ≡ suc (length front - (k + 1)) = omega (arith, below) in
    let inside : length front - (k + 1) < length front = omega (arith, below) in
    let enough : suc (length front - (k + 1)) < length trees = omega (arith, below, size) in
    let found : t ≡ get_or trees j d =
    item ∙ ap (λ n. get_or front n d) same ∙ sym (front_item front (last ∷ []) j d inside) ∙ ap (λ ts. get_or ts j d) (sym whole) in
    turn ∙ ap₂ (join_weight kept) (weight ∙ ap (λ x. weight_with kept elements (typed_of x)) found) (rest ∙ ap (λ n. from_item elements n trees) next)
    ∙ list_step elements trees j d enough
