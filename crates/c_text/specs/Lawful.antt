-- The rules that a unit keeps: Slot, Bound, and what lets its text be read back
use Rattle.std.specs.Prelude.{◌≡◌, ℕ, ◌≤◌, ◌^◌, Bool, true, false, ◌&&◌, List, [], ◌∷◌}
use Rattle.slices.specs.CTable.{is_letter, is_inside_word}
use Rattle.c_unit.specs.declared.unit.CFun.{CFun}
use Rattle.c_unit.specs.declared.unit.CUnit.{CUnit}
use Rattle.c_unit.specs.Rules.{KeepsSizes, EachKeeps}
use Rattle.c_unit.specs.Meaning.{counted_list}

abbrev pub all_inside : List ℕ → Bool
all_inside [] = true
all_inside (b ∷ bs) = is_inside_word b && all_inside bs

-- a letter, and letters and digits behind it; `_` is a letter
abbrev pub is_name : List ℕ → Bool
is_name [] = false
is_name (b ∷ bs) = is_letter b && all_inside bs

-- the rules of a function, and those of its text: its name is a word, and a run makes at most 2^26 statements
pub record KeepsRules (f : CFun) : Type 0 where
  pub name : is_name f.name ≡ true
  pub sizes : KeepsSizes f
  pub count : counted_list f.body ≤ 2 ^ 26

-- each keeps the rules, and has a name that no earlier one has
abbrev pub AllKeepRules : List CFun → List CFun → Type 0
AllKeepRules earlier fs = EachKeeps KeepsRules earlier fs

abbrev pub MeetsRules : CUnit → Type 0
MeetsRules u = AllKeepRules [] u.funs
