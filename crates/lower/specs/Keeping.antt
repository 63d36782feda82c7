-- When lowering keeps the meaning
use Rattle.std.specs.Prelude.{◌≡◌, ℕ, suc, ◌<◌, ◌≤◌, max, List, [], ◌∷◌, length}
use Rattle.algebra.specs.Ring.{natural}
use Rattle.algebra.specs.Fraction.{fractions, inverse}
use Rattle.ratio.specs.declared.reduced.Ratio.{Ratio}
use Rattle.ratio.specs.Value.{fraction_of}
use Rattle.ufl_tree.specs.declared.function.Ix.{Ix}
use Rattle.ufl_tree.specs.declared.function.Ix.TheVariants.{Fixed, Named}
use Rattle.ufl_tree.specs.declared.tree.Op1.{Op1}
use Rattle.ufl_tree.specs.declared.tree.Op1.TheVariants.{Curl, Sym, Skew, Dev}
use Rattle.ufl_tree.specs.Indices.{Names, index_value, first_size}
use Rattle.ufl_tree.specs.Typed.{Typed, number, identity, function, piece, one, two, power, index, partial, tensor, list, variable, diff, TypedList, no_items, item, shape_of}
use Rattle.lower.specs.Renaming.{Renaming}

-- an index that is a number, or a name below n
abbrev pub IsBelow : ℕ → Ix → Type 0
IsBelow n (Fixed k) = Unit {0}
IsBelow n (Named i) = i < n

abbrev pub AreBelow : ℕ → List Ix → Type 0
AreBelow n [] = Unit {0}
AreBelow n (i ∷ is) = IsBelow n i × AreBelow n is

-- w gives the tree's names what v gives the indices that stand for them, and these are below n
pub record IsRenamed (m n : ℕ) (w v : Names) (r : Renaming) : Type 0 where
  pub agrees : (i : ℕ) → i < m → w i ≡ index_value v (r i)
  pub below : (i : ℕ) → i < m → IsBelow n (r i)

-- the number that `share` has for n is 1/n
abbrev pub IsShare : (ℕ → Ratio) → ℕ → Type 0
IsShare share n = fraction_of (share n) ≡ inverse (natural fractions n)

-- the shares that an operator takes; what has a curl is a scalar or a vector
abbrev pub HasShares : (ℕ → Ratio) → Op1 → List ℕ → Type 0
HasShares share Curl s = length s ≤ 1
HasShares share Sym s = IsShare share 2
HasShares share Skew s = IsShare share 2
HasShares share Dev s = 1 ≤ first_size s → IsShare share (first_size s)
HasShares share _ s = Unit {0}

-- all names that stand in index places of the tree are below m, and the shares are right
abbrev mutual
  pub IsLowerable : (ℕ → Ratio) → ℕ → Typed → Type 0
  IsLowerable share m (number k c) = Unit {0}
  IsLowerable share m (identity k n) = Unit {0}
  IsLowerable share m (function k f) = Unit {0}
  IsLowerable share m (piece k f n) = Unit {0}
  IsLowerable share m (one k op a) = HasShares share op (shape_of a) × IsLowerable share m a
  IsLowerable share m (two k op a d) = IsLowerable share m a × IsLowerable share m d
  IsLowerable share m (power k a n) = IsLowerable share m a
  IsLowerable share m (index k a at) = IsLowerable share m a × AreBelow m at
  IsLowerable share m (partial k a i) = IsLowerable share m a × IsBelow m i
  IsLowerable share m (tensor k a by) = IsLowerable share m a
  IsLowerable share m (list k ts) = AreLowerable share m ts
  IsLowerable share m (variable k l a) = IsLowerable share m a
  IsLowerable share m (diff k l by a) = IsLowerable share m a

  pub AreLowerable : (ℕ → Ratio) → ℕ → TypedList → Type 0
  AreLowerable share m no_items = Unit {0}
  AreLowerable share m (item t ts) = IsLowerable share m t × AreLowerable share m ts

-- the names alone
abbrev mutual
  pub NamesBelow : ℕ → Typed → Type 0
  NamesBelow m (number k c) = Unit {0}
  NamesBelow m (identity k n) = Unit {0}
  NamesBelow m (function k f) = Unit {0}
  NamesBelow m (piece k f n) = Unit {0}
  NamesBelow m (one k op a) = NamesBelow m a
  NamesBelow m (two k op a d) = NamesBelow m a × NamesBelow m d
  NamesBelow m (power k a n) = NamesBelow m a
  NamesBelow m (index k a at) = NamesBelow m a × AreBelow m at
  NamesBelow m (partial k a i) = NamesBelow m a × IsBelow m i
  NamesBelow m (tensor k a by) = NamesBelow m a
  NamesBelow m (list k ts) = AllNamesBelow m ts
  NamesBelow m (variable k l a) = NamesBelow m a
  NamesBelow m (diff k l by a) = NamesBelow m a

  pub AllNamesBelow : ℕ → TypedList → Type 0
  AllNamesBelow m no_items = Unit {0}
  AllNamesBelow m (item t ts) = NamesBelow m t × AllNamesBelow m ts

-- ---- the least number that is above all names in index places
abbrev pub above : Ix → ℕ
above (Fixed k) = 0
above (Named i) = suc i

abbrev pub all_above : List Ix → ℕ
all_above [] = 0
all_above (i ∷ is) = max (above i) (all_above is)

abbrev mutual
  pub names_above : Typed → ℕ
  names_above (number k c) = 0
  names_above (identity k n) = 0
  names_above (function k f) = 0
  names_above (piece k f n) = 0
  names_above (one k op a) = names_above a
  names_above (two k op a d) = max (names_above a) (names_above d)
  names_above (power k a n) = names_above a
  names_above (index k a at) = max (names_above a) (all_above at)
  names_above (partial k a i) = max (names_above a) (above i)
  names_above (tensor k a by) = names_above a
  names_above (list k ts) = all_names_above ts
  names_above (variable k l a) = names_above a
  names_above (diff k l by a) = names_above a

  pub all_names_above : TypedList → ℕ
  all_names_above no_items = 0
  all_names_above (item t ts) = max (names_above t) (all_names_above ts)
