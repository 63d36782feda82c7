-- Sums over the indices that occur twice
use Rattle.std.proofs.Common.{◌≡◌, ℕ, zero, suc, ◌+◌, ◌==◌, Bool, true, false, if◌then◌else◌, List, [], ◌∷◌, ◌++◌, refl, sym, ◌∙◌, ap, ap₂, arith}
use native.Mathlib.Nat as N
use Rattle.ufl_tree.specs.declared.function.Free.{Free}
use Rattle.ufl_tree.specs.Indices.{count_of, repeated}
use Rattle.monos.specs.declared.weight.Weight.{Weight}
use Rattle.weigh.specs.Weighing.{kept, index_weight, names_weight}

count_more : (b : Bool) (n m : ℕ) → (if b then suc (n + m) else n + m) ≡ (if b then suc n else n) + m
count_more true n m = omega arith
count_more false n m = refl

count_append : (i : ℕ) (xs ys : List Free) → count_of i (xs ++ ys) ≡ count_of i xs + count_of i ys
count_append i [] ys = sym (N.zero-add (count_of i ys))
count_append i (x ∷ xs) ys = ap (λ n. if x.index == i then suc n else n) (count_append i xs ys) ∙ count_more (x.index == i) (count_of i xs) (count_of i ys)

-- whether an index is summed, before or behind the choice
summed_first : (b : Bool) (x : Free) (xs : List Free) (a : Weight) → names_weight kept (if b then x ∷ xs else xs) a
    ≡ (if b then index_weight kept x.dim (names_weight kept xs a) else names_weight kept xs a)
summed_first true x xs a = refl
summed_first false x xs a = refl

-- the first of all indices, where it occurs n times in the rest of its list and m times behind it
pub first_summed : (x : Free) (xs ys : List Free) (n m : ℕ) (a w : Weight) → n ≡ count_of x.index xs → m ≡ count_of x.index ys
    → w ≡ names_weight kept (repeated (xs ++ ys)) a
    → (if n + (m + 0) == 1 then index_weight kept x.dim w else w) ≡ names_weight kept (repeated (x ∷ xs ++ ys)) a
first_summed x xs ys n m a w p q h =
    let whole : n + (m + 0) ≡ count_of x.index (xs ++ ys) = ap (λ k. n + k) (N.add-zero m) ∙ ap₂ (λ k l. k + l) p q ∙ sym (count_append x.index xs ys) in
    ap₂ (λ k v. if k == 1 then index_weight kept x.dim v else v) whole h
    ∙ sym (summed_first (count_of x.index (xs ++ ys) == 1) x (repeated (xs ++ ys)) a)
