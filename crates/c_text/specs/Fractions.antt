-- Reading fractions and tables
use Rattle.std.specs.Prelude.{ℕ, ◌+◌, ◌*◌, ◌^◌, Bool, true, false, ◌||◌, not, ◌==◌, nat_lt, if◌then◌else◌, List, [], ◌∷◌, ◌++◌, length, Option, Some, None, Ok, Err, bytes_eq, codes}
use Rattle.ratio.specs.declared.reduced.Ratio.{Ratio}
use Rattle.c_text.specs.declared.refusal.KernelKind.TheVariants as kinds
use Rattle.c_text.specs.Stream.{Stream, Read, ◌>>=◌, refusal, shift, expect, expects, repeat, is_ahead}
use Rattle.c_text.specs.Numbers.{half_value, table_value}
use Rattle.c_text.specs.Places.{required, number_at}
use Rattle.c_text.specs.Lowest.{fraction_from}

-- whether the fraction is negative
unfoldable pub sign_at : Stream → Read Bool
sign_at s = do
  t ← shift s
  if bytes_eq t.0.text (codes "0") then Ok (false, t.1) else if bytes_eq t.0.text (codes "1") then Ok (true, t.1) else Err (refusal kinds.Syntax t.0.line)

-- a number below 2^64 behind a comma, and its line
unfoldable pub half_at : Stream → Read (ℕ × ℕ)
half_at s = do
  c ← expect (codes ",") s
  t ← shift c.1
  required (half_value t.0.text) t.0.line t.1

-- a part of a fraction, and the line of its second half
unfoldable pub part_at : Stream → Read (ℕ × ℕ)
part_at s = do
  h ← half_at s
  l ← half_at h.1
  Ok ((h.0.0 * 2 ^ 64 + l.0.0, l.0.1), l.1)

-- Bound where there is no value
abbrev pub bound_by : {A : Type 0} → Option A → ℕ → Stream → Read A
bound_by None line s = Err (refusal kinds.Bound line)
bound_by (Some x) line s = Ok (x, s)

unfoldable pub fraction_at : Stream → Read Ratio
fraction_at s = do
  n ← sign_at s
  p ← part_at n.1
  q ← part_at p.1
  bound_by (fraction_from n.0 p.0.0 q.0.0) q.0.1 q.1

unfoldable pub item_at : Stream → Read Ratio
item_at s = do
  o ← expect (codes "{") s
  v ← fraction_at o.1
  c ← expect (codes "}") v.1
  Ok (v.0, c.1)

-- an item behind a comma
unfoldable pub further_item_at : Stream → Read Ratio
further_item_at s = do
  c ← expect (codes ",") s
  item_at c.1

abbrev pub add_item : List Ratio → Stream → Read (List Ratio)
add_item vs s = further_item_at s >>= λ x. Ok (vs ++ x.0 ∷ [], x.1)

unfoldable pub further_items_at : List Ratio → Stream → Read (List Ratio)
further_items_at vs s = repeat (is_ahead (codes ",")) add_item (length s.tokens) vs s

unfoldable pub items_at : Stream → Read (List Ratio)
items_at s =
    if is_ahead (codes "}") s then Ok ([], s) else (do
      v ← item_at s
      further_items_at (v.0 ∷ []) v.1)

abbrev pub is_number : ℕ → Option ℕ → Bool
is_number k None = false
is_number k (Some n) = n == k

-- the name of the table with this number
unfoldable pub table_name_at : ℕ → Stream → Read (Unit {0})
table_name_at k s = do
  t ← shift s
  if is_number k (table_value t.0.text) then Ok (tt, t.1) else Err (refusal kinds.Syntax t.0.line)

-- a table has an item, at most 2^24 of them, and as many as it states
abbrev pub is_miscounted : ℕ → ℕ → Bool
is_miscounted count stated = count == 0 || (nat_lt 16777216 count || not (count == stated))

unfoldable pub table_at : ℕ → Stream → Read (List Ratio)
table_at k s = do
  o ← expects (codes "static" ∷ codes "const" ∷ codes "fr_lit" ∷ []) s
  n ← table_name_at k o.1
  b ← expect (codes "[") n.1
  c ← number_at b.1
  e ← expects (codes "]" ∷ codes "=" ∷ codes "{" ∷ []) c.1
  v ← items_at e.1
  z ← expect (codes "}") v.1
  if is_miscounted (length v.0) c.0.0 then Err (refusal kinds.Bound z.0) else (do
    x ← expect (codes ";") z.1
    Ok (v.0, x.1))

abbrev pub add_table : List (List Ratio) → Stream → Read (List (List Ratio))
add_table ts s = table_at (length ts) s >>= λ x. Ok (ts ++ x.0 ∷ [], x.1)

unfoldable pub tables_at : Stream → Read (List (List Ratio))
tables_at s = repeat (is_ahead (codes "static")) add_table (length s.tokens) [] s
