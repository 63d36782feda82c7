-- What a run of a kernel means: the fold of its statements over the slots, where a loop is the fold over its turns
use Rattle.std.specs.Prelude.{◌≡◌, refl, ℕ, zero, suc, ◌+◌, ◌*◌, List, [], ◌∷◌, Option, Some, None, replicate, slice_index, slice_index_or, slice_set, map, nat_lt, if◌then◌else◌}
use Rattle.std.proofs.Common.{ap, ◌∙◌}
use Rattle.algebra.specs.Fraction.{Fraction, zero_fraction, absolute}
use Rattle.algebra.specs.Steps.{product, sum, difference, reciprocal}
use Rattle.ratio.specs.declared.reduced.Ratio.{Ratio}
use Rattle.ratio.specs.Value.{fraction_of}
use Rattle.c_unit.specs.declared.unit.Array.{Array}
use Rattle.c_unit.specs.declared.unit.Array.TheVariants.{X, W, T, A}
use Rattle.c_unit.specs.declared.unit.Slot.{Slot}
use Rattle.c_unit.specs.declared.unit.Place.{Place}
use Rattle.c_unit.specs.declared.unit.Op.{Op}
use Rattle.c_unit.specs.declared.unit.CFun.{CFun}
use Rattle.c_unit.specs.declared.unit.CStmt.{CStmt, Set, Copy, Abs, Inv, Add, Sub, Mul, Load, For', Row_of-CStmt, end_of-CStmt, more_of-CStmt, items-the_row-CStmt, items_hidden-the_row-CStmt-0}
use Rattle.c_unit.specs.declared.unit.CStmt.TheViews as View
use Rattle.c_unit.specs.declared.unit.CStmt.TheBlock.{hidden-the_row-CStmt-0}

-- ---- slots and places

-- the slots of the four arrays
pub record Slots : Type 0 where
  pub x : List Fraction
  pub w : List Fraction
  pub t : List Fraction
  pub a : List Fraction

-- the number of a slot, where `is` are the turns of the enclosing loops, the outermost first
abbrev pub address : Slot → List ℕ → ℕ
address s is = s.base + slice_index s.steps 0 * slice_index is 0 + slice_index s.steps 1 * slice_index is 1 + slice_index s.steps 2 * slice_index is 2 + slice_index s.steps 3 * slice_index is 3

abbrev pub array_of : Array → Slots → List Fraction
array_of X s = s.x
array_of W s = s.w
array_of T s = s.t
array_of A s = s.a

-- X and W are never written
abbrev pub with_array : Array → List Fraction → Slots → Slots
with_array X v s = s
with_array W v s = s
with_array T v s = record s { t = v }
with_array A v s = record s { a = v }

-- what is read at a place: 0 outside its array
abbrev pub value_at : Place → List ℕ → Slots → Fraction
value_at p is s = slice_index_or (array_of p.array s) (address p.slot is) zero_fraction

-- the slots after a write: a write outside the array does nothing
abbrev pub put : Place → List ℕ → Fraction → Slots → Slots
put p is v s = with_array p.array (slice_set (array_of p.array s) (address p.slot is) v) s

-- ---- how a run ends

-- It goes on, or a step passes, or a reciprocal of 0 is asked for. `at` is the number of that statement in the order of
-- the written text, counted from 0, where a loop's header counts as one.
pub data End : Type 0 where
  Going : Slots → End
  Passed : (at : ℕ) → (op : Op) → (left right : Fraction) → Slots → End
  Zero : (at : ℕ) → Slots → End

abbrev pub put_or_pass : Option Fraction → Op → Fraction → Fraction → Place → List ℕ → Slots → End
put_or_pass None op l r to is s = Passed 0 op l r s
put_or_pass (Some v) op l r to is s = Going (put to is v s)

abbrev pub put_or_zero : Option Fraction → Place → List ℕ → Slots → End
put_or_zero None to is s = Zero 0 s
put_or_zero (Some v) to is s = Going (put to is v s)

-- the same end, n statements further on in the text
abbrev pub further : ℕ → End → End
further n (Going s) = Going s
further n (Passed at op l r s) = Passed (n + at) op l r s
further n (Zero at s) = Zero (n + at) s

abbrev pub then_do : End → (Slots → End) → End
then_do (Going s) go = go s
then_do (Passed at op l r s) go = Passed at op l r s
then_do (Zero at s) go = Zero at s

-- n turns of a loop, from turn i on
abbrev pub turns : ℕ → ℕ → (ℕ → Slots → End) → Slots → End
turns zero i body s = Going s
turns (suc n) i body s = then_do (body i s) (turns n (i + 1) body)

-- loops are nested at most four deep: a deeper one has no counter of its own
abbrev pub deeper : ℕ → ℕ
deeper depth = if nat_lt depth 4 then depth + 1 else depth

-- ---- how many statements

-- An equation at `For` with the list of its body stands below each of these definitions. A pattern sees that body as a row
-- of statements, so each is written over statements and rows, and the last lemma before its equation goes from rows to lists.

abbrev mutual
  -- how many statements are written, a loop's header counted as one
  pub written : CStmt → ℕ
  written (Set to v) = 1
  written (Copy to p) = 1
  written (Abs to p) = 1
  written (Inv to p) = 1
  written (Add to p q) = 1
  written (Sub to p q) = 1
  written (Mul to p q) = 1
  written (Load to k at) = 1
  written (For' n m body) = 1 + written_row body

  pub written_row : {m : _} → Row_of-CStmt m → ℕ
  written_row end_of-CStmt = 0
  written_row (more_of-CStmt c rest) = written c + written_row rest

abbrev pub written_list : List CStmt → ℕ
written_list [] = 0
written_list (c ∷ cs) = written c + written_list cs

written_rows : (m : _) (k : Row_of-CStmt m) → written_row k ≡ written_list (items-the_row-CStmt m k)
written_rows m end_of-CStmt = refl
written_rows m (more_of-CStmt c rest) = ap (λ n. written c + n) (written_rows _ rest)

pub written-For : (n : ℕ) (body : List CStmt) → written (View.For n body) ≡ 1 + written_list body
written-For n body = ap (λ k. 1 + k) (written_rows _ (hidden-the_row-CStmt-0 body) ∙ ap written_list (items_hidden-the_row-CStmt-0 body))

abbrev mutual
  -- how many statements a run makes that nothing ends early: a loop makes those of all its turns
  pub counted : CStmt → ℕ
  counted (Set to v) = 1
  counted (Copy to p) = 1
  counted (Abs to p) = 1
  counted (Inv to p) = 1
  counted (Add to p q) = 1
  counted (Sub to p q) = 1
  counted (Mul to p q) = 1
  counted (Load to k at) = 1
  counted (For' n m body) = n * counted_row body

  pub counted_row : {m : _} → Row_of-CStmt m → ℕ
  counted_row end_of-CStmt = 0
  counted_row (more_of-CStmt c rest) = counted c + counted_row rest

abbrev pub counted_list : List CStmt → ℕ
counted_list [] = 0
counted_list (c ∷ cs) = counted c + counted_list cs

counted_rows : (m : _) (k : Row_of-CStmt m) → counted_row k ≡ counted_list (items-the_row-CStmt m k)
counted_rows m end_of-CStmt = refl
counted_rows m (more_of-CStmt c rest) = ap (λ n. counted c + n) (counted_rows _ rest)

pub counted-For : (n : ℕ) (body : List CStmt) → counted (View.For n body) ≡ n * counted_list body
counted-For n body = ap (λ k. n * k) (counted_rows _ (hidden-the_row-CStmt-0 body) ∙ ap counted_list (items_hidden-the_row-CStmt-0 body))

-- ---- runs

abbrev mutual
  -- one statement, over the tables ks, within `depth` loops whose turns are `is`
  pub run_one : CStmt → List (List Fraction) → ℕ → List ℕ → Slots → End
  run_one (Set to v) ks depth is s = Going (put to is (fraction_of v) s)
  run_one (Copy to p) ks depth is s = Going (put to is (value_at p is s) s)
  run_one (Abs to p) ks depth is s = Going (put to is (absolute (value_at p is s)) s)
  run_one (Inv to p) ks depth is s = put_or_zero (reciprocal (value_at p is s)) to is s
  run_one (Add to p q) ks depth is s = put_or_pass (sum (value_at p is s) (value_at q is s)) Op.Add (value_at p is s) (value_at q is s) to is s
  run_one (Sub to p q) ks depth is s = put_or_pass (difference (value_at p is s) (value_at q is s)) Op.Sub (value_at p is s) (value_at q is s) to is s
  run_one (Mul to p q) ks depth is s = put_or_pass (product (value_at p is s) (value_at q is s)) Op.Mul (value_at p is s) (value_at q is s) to is s
  run_one (Load to k at) ks depth is s = Going (put to is (slice_index_or (slice_index_or ks k []) (address at is) zero_fraction) s)
  run_one (For' n m body) ks depth is s = further 1 (turns n 0 (λ i. run_row body ks (deeper depth) (slice_set is depth i)) s)

  pub run_row : {m : _} → Row_of-CStmt m → List (List Fraction) → ℕ → List ℕ → Slots → End
  run_row end_of-CStmt ks depth is s = Going s
  run_row (more_of-CStmt c rest) ks depth is s = then_do (run_one c ks depth is s) (λ s'. further (written c) (run_row rest ks depth is s'))

-- the fold over a list of statements
abbrev pub run_list : List CStmt → List (List Fraction) → ℕ → List ℕ → Slots → End
run_list [] ks depth is s = Going s
run_list (c ∷ cs) ks depth is s = then_do (run_one c ks depth is s) (λ s'. further (written c) (run_list cs ks depth is s'))

pub then_same : (e : End) (f g : Slots → End) → ((s : Slots) → f s ≡ g s) → then_do e f ≡ then_do e g
then_same (Going s) f g h = h s
then_same (Passed at op l r s) f g h = refl
then_same (Zero at s) f g h = refl

pub turns_same : (n i : ℕ) (f g : ℕ → Slots → End) → ((i : ℕ) (s : Slots) → f i s ≡ g i s) → (s : Slots) → turns n i f s ≡ turns n i g s
turns_same zero i f g h s = refl
turns_same (suc n) i f g h s =
    ap (λ e. then_do e (turns n (i + 1) f)) (h i s) ∙ then_same (g i s) (turns n (i + 1) f) (turns n (i + 1) g) (turns_same n (i + 1) f g h)

run_rows : (m : _) (k : Row_of-CStmt m) (ks : List (List Fraction)) (d : ℕ) (is : List ℕ) (s : Slots) → run_row k ks d is s ≡ run_list (items-the_row-CStmt m k) ks d is s
run_rows m end_of-CStmt ks d is s = refl
run_rows m (more_of-CStmt c rest) ks d is s = then_same (run_one c ks d is s) _ _ (λ s. ap (further (written c)) (run_rows _ rest ks d is s))

loop_rows : (n : ℕ) (m : _) (k : Row_of-CStmt m) (ks : List (List Fraction)) (d : ℕ) (is : List ℕ) (s : Slots)
    → turns n 0 (λ i. run_row k ks (deeper d) (slice_set is d i)) s ≡ turns n 0 (λ i. run_list (items-the_row-CStmt m k) ks (deeper d) (slice_set is d i)) s
loop_rows n m k ks d is s = turns_same n 0 _ _ (λ i s. run_rows m k ks (deeper d) (slice_set is d i) s) s

pub run_one-For : (n : ℕ) (body : List CStmt) (ks : List (List Fraction)) (d : ℕ) (is : List ℕ) (s : Slots)
    → run_one (View.For n body) ks d is s ≡ further 1 (turns n 0 (λ i. run_list body ks (deeper d) (slice_set is d i)) s)
run_one-For n body ks d is s =
    ap (further 1)
    (loop_rows n _ (hidden-the_row-CStmt-0 body) ks d is s
    ∙ ap (λ l. turns n 0 (λ i. run_list l ks (deeper d) (slice_set is d i)) s) (items_hidden-the_row-CStmt-0 body))

-- ---- functions

-- what the code's values stand for
abbrev pub fractions_of : List Ratio → List Fraction
fractions_of rs = map fraction_of rs

abbrev pub tables_of : List (List Ratio) → List (List Fraction)
tables_of ks = map fractions_of ks

-- the slots as a run begins: those of T and A are 0
abbrev pub started : CFun → List Fraction → List Fraction → Slots
started f x w = record { x = x; w = w; t = replicate f.t zero_fraction; a = replicate f.a zero_fraction }

-- how a run of a function ends
abbrev pub ran : CFun → List Fraction → List Fraction → End
ran f x w = run_list f.body (tables_of f.tables) 0 (0 ∷ 0 ∷ 0 ∷ 0 ∷ []) (started f x w)
