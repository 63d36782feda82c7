-- The sizes of free indices fit a byte where those of the shapes do
use Rattle.std.proofs.Common.{◌≡◌, ◌≤◌, ◌==◌, ℕ, zero, suc, Bool, true, false, if◌then◌else◌, List, [], ◌∷◌, ◌++◌, insert, remove, take, drop, Option, None, Some, Ok, Err, subst, arith}
use Rattle.spaces.specs.declared.cell.Cell.{Cell}
use Rattle.ufl_tree.specs.declared.function.Free.{Free}
use Rattle.ufl_tree.specs.declared.function.Ix.{Ix}
use Rattle.ufl_tree.specs.declared.function.Ix.TheVariants.{Fixed, Named}
use Rattle.ufl_tree.specs.declared.tree.Op2.{Op2}
use Rattle.ufl_tree.specs.declared.tree.Op2.TheVariants.{Sum, Product, Dot, Inner, Outer, Cross}
use Rattle.ufl_tree.specs.Indices.{named, count_of, direction}
use Rattle.ufl_expr.specs.declared.refusal.TypeRefusal.TheVariants.{FreeIndex}
use Rattle.ufl_expr.specs.Frees.{FreeVerdict, same_frees, agrees, smaller, inserted, joined_behind, joined_free, have_common, separate_free, two_free, place_of, bound_at, bound, size_of, sizes_of, none_free}
use Rattle.typing.specs.Sizes.{AreBytes}
use Rattle.typing.proofs.ShapeLaws.{dimension_byte}

abbrev pub HaveByteSizes : List Free → Type 0
HaveByteSizes [] = Unit {0}
HaveByteSizes (x ∷ xs) = (x.dim ≤ 255) × HaveByteSizes xs

abbrev fine : List Free → FreeVerdict
fine xs = Ok xs

pub ok_free : (xs ys : List Free) → fine xs ≡ fine ys → xs ≡ ys
ok_free xs ys h = cc

sized_append : (xs ys : List Free) → HaveByteSizes xs → HaveByteSizes ys → HaveByteSizes (xs ++ ys)
sized_append [] ys p q = q
sized_append (x ∷ xs) ys p q = (p.0, sized_append xs ys p.1 q)

sized_take : (n : ℕ) (xs : List Free) → HaveByteSizes xs → HaveByteSizes (take n xs)
sized_take zero xs p = tt
sized_take (suc n) [] p = tt
sized_take (suc n) (x ∷ xs) p = (p.0, sized_take n xs p.1)

sized_drop : (n : ℕ) (xs : List Free) → HaveByteSizes xs → HaveByteSizes (drop n xs)
sized_drop zero xs p = p
sized_drop (suc n) [] p = tt
sized_drop (suc n) (x ∷ xs) p = sized_drop n xs p.1

sized_insert : (xs : List Free) (n : ℕ) (x : Free) → x.dim ≤ 255 → HaveByteSizes xs → HaveByteSizes (insert xs n x)
sized_insert xs n x p q = sized_append (take n xs) (x ∷ drop n xs) (sized_take n xs q) (p, sized_drop n xs q)

sized_remove : (xs : List Free) (n : ℕ) → HaveByteSizes xs → HaveByteSizes (remove xs n)
sized_remove xs n p = sized_append (take n xs) (drop (suc n) xs) (sized_take n xs p) (sized_drop (suc n) xs p)

joined_choice : (a b c : Bool) (f g : FreeVerdict) (zs : List Free) → (if a then (if b then f else if c then g else Err FreeIndex) else Err FreeIndex) ≡ Ok zs
    → (f ≡ Ok zs → HaveByteSizes zs) → (g ≡ Ok zs → HaveByteSizes zs) → HaveByteSizes zs
joined_choice true true c f g zs h p q = p h
joined_choice true false true f g zs h p q = q h
joined_choice true false false f g zs h p q = cc
joined_choice false b c f g zs h p q = cc

sized_joined : (all ys xs zs : List Free) → joined_behind all ys xs ≡ Ok zs → HaveByteSizes ys → HaveByteSizes xs → HaveByteSizes zs
sized_joined all ys [] zs h p q = subst HaveByteSizes (ok_free ys zs h) p
sized_joined all ys (x ∷ xs) zs h p q =
    joined_choice (agrees x all) (count_of x.index all == 1) (count_of x.index all == 2) (joined_behind all (inserted x ys) xs) (joined_behind all ys xs) zs h
    (λ g. sized_joined all (inserted x ys) xs zs g (sized_insert ys (smaller x ys) x q.0 p) q.1)
    (λ g. sized_joined all ys xs zs g p q.1)

joined_sizes : (xs ys zs : List Free) → joined_free (xs ++ ys) ≡ Ok zs → HaveByteSizes xs → HaveByteSizes ys → HaveByteSizes zs
joined_sizes xs ys zs h p q = sized_joined (xs ++ ys) [] (xs ++ ys) zs h tt (sized_append xs ys p q)

separate_choice : (b : Bool) (f : FreeVerdict) (zs : List Free) → (if b then Err FreeIndex else f) ≡ Ok zs → f ≡ Ok zs
separate_choice true f zs h = cc
separate_choice false f zs h = h

separate_sizes : (xs ys zs : List Free) → separate_free xs ys ≡ Ok zs → HaveByteSizes xs → HaveByteSizes ys → HaveByteSizes zs
separate_sizes xs ys zs h p q = joined_sizes xs ys zs (separate_choice (have_common xs ys) (joined_free (xs ++ ys)) zs h) p q

pub equal_choice : (b : Bool) (xs zs : List Free) → (if b then Ok xs else Err FreeIndex) ≡ Ok zs → xs ≡ zs
equal_choice true xs zs h = ok_free xs zs h
equal_choice false xs zs h = cc

pub two_sizes : (op : Op2) (xs ys zs : List Free) → two_free op xs ys ≡ Ok zs → HaveByteSizes xs → HaveByteSizes ys → HaveByteSizes zs
two_sizes Sum xs ys zs h p q = subst HaveByteSizes (equal_choice (same_frees xs ys) xs zs h) p
two_sizes Product xs ys zs h p q = joined_sizes xs ys zs h p q
two_sizes Dot xs ys zs h p q = separate_sizes xs ys zs h p q
two_sizes Inner xs ys zs h p q = separate_sizes xs ys zs h p q
two_sizes Outer xs ys zs h p q = separate_sizes xs ys zs h p q
two_sizes Cross xs ys zs h p q = separate_sizes xs ys zs h p q

named_sizes : (at : List Ix) (s : List ℕ) → AreBytes s → HaveByteSizes (named at s)
named_sizes [] s p = tt
named_sizes (Fixed k ∷ at) [] p = tt
named_sizes (Named i ∷ at) [] p = tt
named_sizes (Fixed k ∷ at) (d ∷ s) p = named_sizes at s p.1
named_sizes (Named i ∷ at) (d ∷ s) p = (p.0, named_sizes at s p.1)

pub index_sizes : (xs zs : List Free) (at : List Ix) (s : List ℕ) → joined_free (xs ++ named at s) ≡ Ok zs → HaveByteSizes xs → AreBytes s → HaveByteSizes zs
index_sizes xs zs at s h p q = joined_sizes xs (named at s) zs h p (named_sizes at s q)

direction_sizes : (i : Ix) (c : Option Cell) → HaveByteSizes (direction i c)
direction_sizes (Fixed k) None = tt
direction_sizes (Fixed k) (Some c) = tt
direction_sizes (Named i) None = (omega arith, tt)
direction_sizes (Named i) (Some c) = (dimension_byte c, tt)

pub partial_sizes : (xs zs : List Free) (i : Ix) (c : Option Cell) → joined_free (xs ++ direction i c) ≡ Ok zs → HaveByteSizes xs → HaveByteSizes zs
partial_sizes xs zs i c h p = joined_sizes xs (direction i c) zs h p (direction_sizes i c)

bound_choice : (o : Option ℕ) (f : List Free → FreeVerdict) (xs zs : List Free) → bound_at o f xs ≡ Ok zs → HaveByteSizes xs
    → ((ys : List Free) → f ys ≡ Ok zs → HaveByteSizes ys → HaveByteSizes zs) → HaveByteSizes zs
bound_choice None f xs zs h p g = cc
bound_choice (Some n) f xs zs h p g = g (remove xs n) h (sized_remove xs n p)

pub bound_sizes : (by : List ℕ) (xs zs : List Free) → bound by xs ≡ Ok zs → HaveByteSizes xs → HaveByteSizes zs
bound_sizes [] xs zs h p = subst HaveByteSizes (ok_free xs zs h) p
bound_sizes (i ∷ is) xs zs h p = bound_choice (place_of i xs) (bound is) xs zs h p (λ ys. bound_sizes is ys zs)

size_choice : (b : Bool) (m n : ℕ) → m ≤ 255 → n ≤ 255 → (if b then m else n) ≤ 255
size_choice true m n p q = p
size_choice false m n p q = q

size_byte : (i : ℕ) (xs : List Free) → HaveByteSizes xs → size_of i xs ≤ 255
size_byte i [] p = omega arith
size_byte i (x ∷ xs) p = size_choice (x.index == i) x.dim (size_of i xs) p.0 (size_byte i xs p.1)

pub sizes_bytes : (by : List ℕ) (xs : List Free) → HaveByteSizes xs → AreBytes (sizes_of by xs)
sizes_bytes [] xs p = tt
sizes_bytes (i ∷ is) xs p = (size_byte i xs p, sizes_bytes is xs p)

pub none_sizes : (xs zs : List Free) → none_free xs ≡ Ok zs → HaveByteSizes zs
none_sizes [] zs h = subst HaveByteSizes (ok_free [] zs h) tt
none_sizes (x ∷ xs) zs h = cc
