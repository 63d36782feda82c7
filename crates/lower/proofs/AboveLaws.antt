-- A number above all names is above each
use Rattle.std.proofs.Common.{ℕ, ◌≤◌, max, List, [], ◌∷◌, arith}
use Rattle.ufl_tree.specs.declared.function.Ix.{Ix}
use Rattle.ufl_tree.specs.declared.function.Ix.TheVariants.{Fixed, Named}
use Rattle.ufl_tree.specs.Typed.{Typed, number, identity, function, piece, one, two, power, index, partial, tensor, list, variable, diff, TypedList, no_items, item}
use Rattle.lower.specs.Keeping.{IsBelow, AreBelow, NamesBelow, AllNamesBelow, above, all_above, names_above, all_names_above}

first : (a b n : ℕ) → max a b ≤ n → a ≤ n
first a b n h = omega (arith, h)

second : (a b n : ℕ) → max a b ≤ n → b ≤ n
second a b n h = omega (arith, h)

index_below : (n : ℕ) (i : Ix) → above i ≤ n → IsBelow n i
index_below n (Fixed k) h = tt
index_below n (Named i) h = omega (arith, h)

indices_below : (n : ℕ) (b : List Ix) → all_above b ≤ n → AreBelow n b
indices_below n [] h = tt
indices_below n (i ∷ b) h = (index_below n i (first _ _ n h), indices_below n b (second (above i) _ n h))

mutual
  pub names_below : (n : ℕ) (e : Typed) → names_above e ≤ n → NamesBelow n e
  names_below n (number k c) h = tt
  names_below n (identity k m) h = tt
  names_below n (function k f) h = tt
  names_below n (piece k f m) h = tt
  names_below n (one k op a) h = names_below n a h
  names_below n (two k op a d) h = (names_below n a (first (names_above a) (names_above d) n h), names_below n d (second (names_above a) (names_above d) n h))
  names_below n (power k a m) h = names_below n a h
  names_below n (index k a at) h = (names_below n a (first (names_above a) (all_above at) n h), indices_below n at (second (names_above a) (all_above at) n h))
  names_below n (partial k a i) h = (names_below n a (first (names_above a) (above i) n h), index_below n i (second (names_above a) (above i) n h))
  names_below n (tensor k a by) h = names_below n a h
  names_below n (list k ts) h = all_names_below n ts h
  names_below n (variable k l a) h = names_below n a h
  names_below n (diff k l by a) h = names_below n a h

  all_names_below : (n : ℕ) (ts : TypedList) → all_names_above ts ≤ n → AllNamesBelow n ts
  all_names_below n no_items h = tt
  all_names_below n (item t ts) h = (names_below n t (first (names_above t) (all_names_above ts) n h), all_names_below n ts (second (names_above t) (all_names_above ts) n h))
