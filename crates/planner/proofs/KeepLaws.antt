-- The statements of planned kernels keep within their arrays
use Rattle.std.proofs.Common.{◌≡◌, ℕ, zero, suc, ◌+◌, ◌-◌, ◌*◌, ◌<◌, ◌≤◌, ◌^◌, inl, inr, Bool, true, false, if◌then◌else◌, List, [], ◌∷◌, ◌++◌, length, slice_index, slice_index_or, refl, sym, subst, lit<, arith}
use Rattle.std.specs.List.{AllByRecursion}
use Rattle.algebra.specs.Fraction.{Fraction, is_zero_fraction}
use Rattle.c_unit.specs.declared.unit.Array.TheVariants.{T, A}
use Rattle.c_unit.specs.declared.unit.CStmt.{CStmt, Load}
use Rattle.c_unit.specs.Rules.{HasNumbers, IsSlot, KeepAll, Keeps, KeepsItem, KeepsSource, KeepsTarget, Sizes, greatest, keep_more, keep_none, keeps_add, keeps_load, keeps_loop, keeps_mul, keeps_set, outside, size_of}
use Rattle.kernel_runs.specs.Strips.{EntriesWithin, Factor, Fastest, Slowest}
use Rattle.kernel_runs.specs.Planned.{CountsWithin, columns_at, columns_code, count_after, counts_after, entries_code, factor_code, first_product, in_t, next_product, next_products, outer_code, place, rows_code, rows_part, stepped, straight_rest, straight_row, straight_rows, t_place}
use Rattle.kernel_runs.specs.declared.entry.Entry.{Entry}
use Rattle.kernel_runs.specs.declared.entry.Entry.TheVariants.{NoRow, Counted, Multiple}
use Rattle.kernel_runs.specs.declared.strip.Strip.{Strip}
use Rattle.planner.proofs.FactorLaws.{count_of, counts_product, some_right}

pub less_one : (n : ℕ) → suc n - 1 ≡ n
less_one n = omega arith

-- ---- slots inside two loops at most
own : (i j k : ℕ) → 2 ≤ k → slice_index (i ∷ j ∷ 0 ∷ 0 ∷ []) k ≡ 0
own i j zero h = absurd (omega (arith, h))
own i j (suc zero) h = absurd (omega (arith, h))
own i j (suc (suc zero)) h = refl
own i j (suc (suc (suc zero))) h = refl
own i j (suc (suc (suc (suc k)))) h = refl

own_one : (i k : ℕ) → 1 ≤ k → slice_index (i ∷ 0 ∷ 0 ∷ 0 ∷ []) k ≡ 0
own_one i zero h = absurd (omega (arith, h))
own_one i (suc zero) h = refl
own_one i (suc (suc k)) h = own i 0 (suc (suc k)) (omega arith)

own_none : (k : ℕ) → slice_index (0 ∷ 0 ∷ 0 ∷ 0 ∷ []) k ≡ 0
own_none zero = refl
own_none (suc k) = own_one 0 (suc k) (omega arith)

greatest_of : (n m base i j : ℕ) → greatest (n ∷ m ∷ 1 ∷ 1 ∷ []) (stepped base i j) ≡ base + i * (n - 1) + j * (m - 1)
unfolding greatest
greatest_of n m base i j = zeros (base + i * (n - 1) + j * (m - 1))
  where
    zeros : (k : ℕ) → k + 0 + 0 ≡ k
    zeros k = omega arith

-- numbers of slots and their steps
pub numbers : (base i j : ℕ) → base < 2 ^ 32 → i < 2 ^ 32 → j < 2 ^ 32 → HasNumbers (stepped base i j)
numbers base i j b p q = (b, p, q, lit< tt, lit< tt)

twice_slot : (size n m base i j : ℕ) → base + i * (n - 1) + j * (m - 1) < size → IsSlot (n ∷ m ∷ 1 ∷ 1 ∷ []) 2 size (stepped base i j)
twice_slot size n m base i j h = record { below = subst (λ k. k < size) (sym (greatest_of n m base i j)) h; own = own i j; four = refl }

once_slot : (size n base i : ℕ) → base + i * (n - 1) < size → IsSlot (n ∷ 1 ∷ 1 ∷ 1 ∷ []) 1 size (stepped base i 0)
once_slot size n base i h = record { below = subst (λ k. k < size) (sym (greatest_of n 1 base i 0)) (one (base + i * (n - 1)) h); own = own_one i; four = refl }
  where
    one : (k : ℕ) → k < size → k + 0 < size
    one k h = omega arith

pub plain_slot : (size base : ℕ) → base < size → IsSlot outside 0 size (stepped base 0 0)
plain_slot size base h = record { below = subst (λ k. k < size) (sym (greatest_of 1 1 base 0 0)) (one base h); own = λ k _. own_none k; four = refl }
  where
    one : (k : ℕ) → k < size → k + 0 + 0 < size
    one k h = omega arith

-- a factor that stands in its array
pub record IsInside (z : Sizes) (g : Strip) : Type 0 where
  pub some : 0 < g.count
  pub few : g.count < 2 ^ 32
  pub base : g.base < 2 ^ 32
  pub step : g.step < 2 ^ 32
  pub last : g.base + g.step * (g.count - 1) < size_of z g.array

-- if it has values
abbrev pub MayBeInside : Sizes → Strip → Type 0
MayBeInside z g = 0 < g.count → IsInside z g

abbrev pub FactorInside : Sizes → Factor Strip → Type 0
FactorInside z (Fastest g) = MayBeInside z g
FactorInside z (Slowest g) = MayBeInside z g

some_product : (a b : ℕ) → 0 < a → 0 < b → 0 < a * b
some_product zero b h g = absurd (omega (arith, h))
some_product (suc a) zero h g = absurd (omega (arith, g))
some_product (suc a) (suc b) h g = omega arith

pub all_keep : (z : Sizes) (turns : List ℕ) (depth : ℕ) (cs ds : List CStmt) → KeepAll z turns depth cs → KeepAll z turns depth ds → KeepAll z turns depth (cs ++ ds)
all_keep z turns depth [] ds keep_none k = k
all_keep z turns depth (c ∷ cs) ds (keep_more h hs) k = keep_more h (all_keep z turns depth cs ds hs k)

-- ---- with 2^24 temporaries at most, of which 33 are fixed
module _ (z : Sizes) (few : z.t ≤ 2 ^ 24) (fixed : 33 ≤ z.t) where
  pub plain_source : (k : ℕ) → k < z.t → KeepsSource z outside 0 (place T k 0 0)
  plain_source k h = record { within = plain_slot z.t k h; numbers = numbers k 0 0 (omega arith) (lit< tt) (lit< tt) }

  pub plain_target : (k : ℕ) → k < z.t → KeepsTarget z outside 0 (place T k 0 0)
  plain_target k h = let s = plain_source k h in record { within = (s.within, inl refl); numbers = s.numbers }

  once_source : (n base i : ℕ) → base + i * (n - 1) < z.t → i < 2 ^ 32 → KeepsSource z (n ∷ 1 ∷ 1 ∷ 1 ∷ []) 1 (place T base i 0)
  once_source n base i h p = record { within = once_slot z.t n base i h; numbers = numbers base i 0 (omega arith) p (lit< tt) }

  once_target : (n base i : ℕ) → base + i * (n - 1) < z.t → i < 2 ^ 32 → KeepsTarget z (n ∷ 1 ∷ 1 ∷ 1 ∷ []) 1 (place T base i 0)
  once_target n base i h p = let s = once_source n base i h p in record { within = (s.within, inl refl); numbers = s.numbers }

  twice_source : (n m base i j : ℕ) → base + i * (n - 1) + j * (m - 1) < z.t → i < 2 ^ 32 → j < 2 ^ 32 → KeepsSource z (n ∷ m ∷ 1 ∷ 1 ∷ []) 2 (place T base i j)
  twice_source n m base i j h p q = record { within = twice_slot z.t n m base i j h; numbers = numbers base i j (omega arith) p q }

  twice_target : (n m base i j : ℕ) → base + i * (n - 1) + j * (m - 1) < z.t → i < 2 ^ 32 → j < 2 ^ 32 → KeepsTarget z (n ∷ m ∷ 1 ∷ 1 ∷ []) 2 (place T base i j)
  twice_target n m base i j h p q = let s = twice_source n m base i j h p q in record { within = (s.within, inl refl); numbers = s.numbers }

  -- ---- columns
  slow_source : (l r : Strip) → IsInside z l → KeepsSource z (l.count ∷ r.count ∷ 1 ∷ 1 ∷ []) 2 (place l.array l.base l.step 0)
  slow_source l r h = record {
    within = twice_slot (size_of z l.array) l.count r.count l.base l.step 0 (more (l.base + l.step * (l.count - 1)) (r.count - 1) (size_of z l.array) h.last);
    numbers = numbers l.base l.step 0 h.base h.step (lit< tt);
  }
    where
      more : (k q size : ℕ) → k < size → k + 0 * q < size
      more k q size h = omega arith

  fast_source : (l r : Strip) → IsInside z r → KeepsSource z (l.count ∷ r.count ∷ 1 ∷ 1 ∷ []) 2 (place r.array r.base 0 r.step)
  fast_source l r h = record {
    within = twice_slot (size_of z r.array) l.count r.count r.base 0 r.step (more r.base (l.count - 1) (r.step * (r.count - 1)) (size_of z r.array) h.last);
    numbers = numbers r.base 0 r.step h.base (lit< tt) h.step;
  }
    where
      more : (k q p size : ℕ) → k + p < size → k + 0 * q + p < size
      more k q p size h = omega arith

  product_target : (new : ℕ) (l r : Strip) → IsInside z l → IsInside z r → new + l.count * r.count ≤ z.t
      → KeepsTarget z (l.count ∷ r.count ∷ 1 ∷ 1 ∷ []) 2 (place T new r.count 1)
  product_target new l r h g k = twice_target l.count r.count new r.count 1 (last new l.count r.count z.t h.some g.some k) g.few (lit< tt)
    where
      last : (new n m size : ℕ) → 0 < n → 0 < m → new + n * m ≤ size → new + m * (n - 1) + 1 * (m - 1) < size
      last new zero m size p q k = absurd (omega (arith, p))
      last new (suc n) zero size p q k = absurd (omega (arith, q))
      last new (suc n) (suc m) size p q k = subst (λ j. new + suc m * j + 1 * (suc m - 1) < size) (sym (less_one n)) (omega (arith, k))

  outer_keeps : (new : ℕ) (l r : Strip) → IsInside z l → IsInside z r → new + l.count * r.count ≤ z.t → Keeps z outside 0 (outer_code new l r)
  outer_keeps new l r h g k =
      keeps_loop (lit< tt) h.some h.few
      (keep_more (keeps_loop (lit< tt) g.some g.few
      (keep_more (keeps_mul (product_target new l r h g k) (slow_source l r h) (fast_source l r g)) keep_none)) keep_none)

  formed_inside : (cur n : ℕ) → 0 < n → cur + n ≤ z.t → IsInside z (in_t cur n)
  formed_inside cur n p h = record { some = p; few = omega arith; base = omega arith; step = lit< tt; last = omega arith }

  factor_keeps : (new cur n : ℕ) (f : Factor Strip) → 0 < n → 0 < count_of f → FactorInside z f → cur + n ≤ z.t → new + count_after n f ≤ z.t
      → Keeps z outside 0 (factor_code new cur n f)
  factor_keeps new cur n (Fastest g) p q i h k = outer_keeps new (in_t cur n) g (formed_inside cur n p h) (i q) k
  factor_keeps new cur n (Slowest g) p q i h k = outer_keeps new g (in_t cur n) (i q) (formed_inside cur n p h) k

  some_left : (a b : ℕ) → 0 < a * b → 0 < a
  some_left zero b h = absurd (omega (arith, h))
  some_left (suc a) b h = omega arith

  some_after : (n : ℕ) (f : Factor Strip) → 0 < n → 0 < count_of f → 0 < count_after n f
  some_after n (Fastest g) h k = some_product n g.count h k
  some_after n (Slowest g) h k = some_product g.count n k h

  pub columns_keep : (new next cur n cap : ℕ) (fs : List (Factor Strip)) → new + cap ≤ z.t → next + cap ≤ z.t → cur + n ≤ z.t → 0 < n
      → 0 < counts_product fs → CountsWithin cap n fs → AllByRecursion (FactorInside z) fs → KeepAll z outside 0 (columns_code new next cur n fs)
  columns_keep new next cur n cap [] a b c p q w i = keep_none
  columns_keep new next cur n cap (f ∷ fs) a b c p q w i =
      let some = some_left (count_of f) (counts_product fs) q in
      let within = w.0 in
      keep_more (factor_keeps new cur n f p some i.0 c (omega arith))
      (columns_keep next new new (count_after n f) cap fs b a (omega arith) (some_after n f p some) (some_right (count_of f) (counts_product fs) q) w.1 i.1)

  -- where they stand
  pub columns_end : (new next cur n cap : ℕ) (fs : List (Factor Strip)) → new + cap ≤ z.t → next + cap ≤ z.t → cur + n ≤ z.t → CountsWithin cap n fs
      → columns_at new next cur fs + counts_after n fs ≤ z.t
  columns_end new next cur n cap [] a b c w = c
  columns_end new next cur n cap (f ∷ fs) a b c w = let within = w.0 in columns_end next new new (count_after n f) cap fs b a (omega arith) w.1

  -- ---- rows of a table
  module _ (t size : ℕ) (known : t < length z.tables) (items : slice_index_or z.tables t 0 ≡ size) (small : size ≤ 2 ^ 24) where
    plain_load : (at : ℕ) → at < size → Keeps z outside 0 (Load (t_place (stepped 32 0 0)) t (stepped at 0 0))
    plain_load at h =
        keeps_load (plain_target 32 (omega arith)) refl known
        (record { within = subst (λ n. IsSlot outside 0 n (stepped at 0 0)) (sym items) (plain_slot size at h); numbers = numbers at 0 0 (omega arith) (lit< tt) (lit< tt) })

    first_keeps : (out cur at : ℕ) → out < z.t → cur < z.t → at < size
        → KeepAll z outside 0 (first_product (stepped 32 0 0) (stepped out 0 0) (stepped cur 0 0) t (stepped at 0 0))
    first_keeps out cur at p q r =
        keep_more (plain_load at r) (keep_more (keeps_mul (plain_target out p) (plain_source cur q) (plain_source 32 (omega arith))) keep_none)

    next_keeps : (out cur at : ℕ) → out < z.t → cur < z.t → at < size
        → KeepAll z outside 0 (next_product (stepped 32 0 0) (stepped out 0 0) (stepped cur 0 0) t (stepped at 0 0))
    next_keeps out cur at p q r =
        keep_more (plain_load at r)
        (keep_more (keeps_mul (plain_target 32 (omega arith)) (plain_source cur q) (plain_source 32 (omega arith)))
        (keep_more (keeps_add (plain_target out p) (plain_source out p) (plain_source 32 (omega arith))) keep_none))

    rest_keeps : (out cur at : ℕ) (rs : List Fraction) → out < z.t → cur + length rs ≤ z.t → at + length rs ≤ size → KeepAll z outside 0 (straight_rest 32 out cur t at rs)
    rest_keeps out cur at [] p q r = keep_none
    rest_keeps out cur at (x ∷ rs) p q r = go (is_zero_fraction x) (rest_keeps out (cur + 1) (at + 1) rs p (omega arith) (omega arith))
      where
        go : (b : Bool) → KeepAll z outside 0 (straight_rest 32 out (cur + 1) t (at + 1) rs)
            → KeepAll z outside 0 (if b then straight_rest 32 out (cur + 1) t (at + 1) rs
            else next_product (stepped 32 0 0) (stepped out 0 0) (stepped cur 0 0) t (stepped at 0 0) ++ straight_rest 32 out (cur + 1) t (at + 1) rs)
        go true h = h
        go false h = all_keep z outside 0 _ _ (next_keeps out cur at p (omega arith) (omega arith)) h

    row_keeps : (out cur at : ℕ) (rs : List Fraction) → out < z.t → cur + length rs ≤ z.t → at + length rs ≤ size → KeepAll z outside 0 (straight_row 32 out cur t at rs)
    row_keeps out cur at [] p q r = keep_none
    row_keeps out cur at (x ∷ rs) p q r =
        go (is_zero_fraction x) (row_keeps out (cur + 1) (at + 1) rs p (omega arith) (omega arith)) (rest_keeps out (cur + 1) (at + 1) rs p (omega arith) (omega arith))
      where
        go : (b : Bool) → KeepAll z outside 0 (straight_row 32 out (cur + 1) t (at + 1) rs) → KeepAll z outside 0 (straight_rest 32 out (cur + 1) t (at + 1) rs)
            → KeepAll z outside 0 (if b then straight_row 32 out (cur + 1) t (at + 1) rs
            else first_product (stepped 32 0 0) (stepped out 0 0) (stepped cur 0 0) t (stepped at 0 0) ++ straight_rest 32 out (cur + 1) t (at + 1) rs)
        go true h k = h
        go false h k = all_keep z outside 0 _ _ (first_keeps out cur at p (omega arith) (omega arith)) k

    straight_keeps : (row cur width a : ℕ) (rows : List (List Fraction)) → AllByRecursion (λ r. length r ≡ width) rows → row + a + length rows ≤ z.t → cur + width ≤ z.t
        → width * a + width * length rows ≤ size → KeepAll z outside 0 (straight_rows 32 row cur t width a rows)
    straight_keeps row cur width a [] h p q r = keep_none
    straight_keeps row cur width a (line ∷ rows) h p q r =
        let e = h.0 in
        all_keep z outside 0 _ _ (row_keeps (row + a) cur (width * a) line (omega arith) (omega arith) (room width a (length rows) (length line) size e r))
        (straight_keeps row cur width (a + 1) rows h.1 (omega arith) q (next width a (length rows) size r))
      where
        room : (width a n k size : ℕ) → k ≡ width → width * a + width * suc n ≤ size → width * a + k ≤ size
        room width a n k size e r = omega arith

        next : (width a n size : ℕ) → width * a + width * suc n ≤ size → width * (a + 1) + width * n ≤ size
        next width a n size r = omega arith

    -- ---- by loops: `n` rows of suc m items
    loop_item : (n m : ℕ) → 0 < n → n * suc m ≤ size → KeepsItem (n ∷ 1 ∷ 1 ∷ 1 ∷ []) 1 (slice_index_or z.tables t 0) (stepped 0 (suc m) 0)
    loop_item n m p k = record {
      within = subst (λ s. IsSlot (n ∷ 1 ∷ 1 ∷ 1 ∷ []) 1 s (stepped 0 (suc m) 0)) (sym items) (once_slot size n 0 (suc m) (last n m size p k));
      numbers = numbers 0 (suc m) 0 (lit< tt) (wide n m size p k small) (lit< tt);
    }
      where
        last : (n m size : ℕ) → 0 < n → n * suc m ≤ size → 0 + suc m * (n - 1) < size
        last zero m size p k = absurd (omega (arith, p))
        last (suc n) m size p k = subst (λ j. 0 + suc m * j < size) (sym (less_one n)) (omega (arith, k))

        wide : (n m size : ℕ) → 0 < n → n * suc m ≤ size → size ≤ 2 ^ 24 → suc m < 2 ^ 32
        wide zero m size p k s = absurd (omega (arith, p))
        wide (suc n) m size p k s = omega arith

    inner_item : (n m : ℕ) → 0 < n → 0 < m → n * suc m ≤ size → KeepsItem (n ∷ m ∷ 1 ∷ 1 ∷ []) 2 (slice_index_or z.tables t 0) (stepped 1 (suc m) 1)
    inner_item n m p q k = record {
      within = subst (λ s. IsSlot (n ∷ m ∷ 1 ∷ 1 ∷ []) 2 s (stepped 1 (suc m) 1)) (sym items) (twice_slot size n m 1 (suc m) 1 (last n m size p q k));
      numbers = numbers 1 (suc m) 1 (lit< tt) (wide n m size p k small) (lit< tt);
    }
      where
        last : (n m size : ℕ) → 0 < n → 0 < m → n * suc m ≤ size → 1 + suc m * (n - 1) + 1 * (m - 1) < size
        last zero m size p q k = absurd (omega (arith, p))
        last (suc n) zero size p q k = absurd (omega (arith, q))
        last (suc n) (suc m) size p q k = subst (λ j. 1 + suc (suc m) * j + 1 * (suc m - 1) < size) (sym (less_one n)) (omega (arith, k))

        wide : (n m size : ℕ) → 0 < n → n * suc m ≤ size → size ≤ 2 ^ 24 → suc m < 2 ^ 32
        wide zero m size p k s = absurd (omega (arith, p))
        wide (suc n) m size p k s = omega arith

    inner_keeps : (row cur n m : ℕ) → 0 < n → n * suc m ≤ size → row + n ≤ z.t → cur + suc m ≤ z.t
        → KeepAll z (n ∷ 1 ∷ 1 ∷ 1 ∷ []) 1 (next_products 32 row (cur + 1) t (suc m) m)
    inner_keeps row cur n zero p k a b = keep_none
    inner_keeps row cur n (suc m) p k a b =
        keep_more (keeps_loop (lit< tt) (omega arith) (omega arith)
        (keep_more (keeps_load (twice_target n (suc m) 32 0 0 (fixed_slot n (suc m)) (lit< tt) (lit< tt)) refl known (inner_item n (suc m) p (omega arith) k))
        (keep_more (keeps_mul (twice_target n (suc m) 32 0 0 (fixed_slot n (suc m)) (lit< tt) (lit< tt))
        (twice_source n (suc m) (cur + 1) 0 1 (column_slot cur n (suc m) z.t (omega arith) b) (lit< tt) (lit< tt))
        (twice_source n (suc m) 32 0 0 (fixed_slot n (suc m)) (lit< tt) (lit< tt)))
        (keep_more (keeps_add (twice_target n (suc m) row 1 0 (row_slot row n (suc m) z.t p a) (lit< tt) (lit< tt))
        (twice_source n (suc m) row 1 0 (row_slot row n (suc m) z.t p a) (lit< tt) (lit< tt))
        (twice_source n (suc m) 32 0 0 (fixed_slot n (suc m)) (lit< tt) (lit< tt))) keep_none)))) keep_none
      where
        fixed_slot : (n m : ℕ) → 32 + 0 * (n - 1) + 0 * (m - 1) < z.t
        fixed_slot n m = omega arith

        column_slot : (cur n m size : ℕ) → 0 < m → cur + suc m ≤ size → cur + 1 + 0 * (n - 1) + 1 * (m - 1) < size
        column_slot cur n zero size q h = absurd (omega (arith, q))
        column_slot cur n (suc m) size q h = omega arith

        row_slot : (row n m size : ℕ) → 0 < n → row + n ≤ size → row + 1 * (n - 1) + 0 * (m - 1) < size
        row_slot row zero m size q h = absurd (omega (arith, q))
        row_slot row (suc n) m size q h = omega arith

    looped_keeps : (row cur n m : ℕ) → 0 < n → n * suc m ≤ size → row + n ≤ z.t → cur + suc m ≤ z.t → Keeps z outside 0 (rows_code 32 row cur t n m)
    looped_keeps row cur n m p k a b =
        keeps_loop (lit< tt) p (omega arith)
        (keep_more (keeps_load (once_target n 32 0 (omega arith) (lit< tt)) refl known (loop_item n m p k))
        (keep_more (keeps_mul (once_target n row 1 (omega arith) (lit< tt)) (once_source n cur 0 (omega arith) (lit< tt)) (once_source n 32 0 (omega arith) (lit< tt)))
        (inner_keeps row cur n m p k a b)))

    pub part_keeps : (straight : Bool) (row cur m : ℕ) (rows : List (List Fraction)) → AllByRecursion (λ r. length r ≡ suc m) rows → 0 < length rows
        → length rows * suc m ≤ size → row + length rows ≤ z.t → cur + suc m ≤ z.t → KeepAll z outside 0 (rows_part straight 32 row cur t m rows)
    part_keeps true row cur m rows h p k a b = straight_keeps row cur (suc m) 0 rows h (omega arith) b (turned (suc m) (length rows) size k)
      where
        turned : (width n size : ℕ) → n * width ≤ size → width * 0 + width * n ≤ size
        turned width n size k = omega arith
    part_keeps false row cur m rows h p k a b = keep_more (looped_keeps row cur (length rows) m p k a b) keep_none

  -- ---- entries
  module _ (small : z.a ≤ 2 ^ 24) where
    entry_source : (e : ℕ) → e < z.a → KeepsSource z outside 0 (place A e 0 0)
    entry_source e h = record { within = plain_slot z.a e h; numbers = numbers e 0 0 (omega arith) (lit< tt) (lit< tt) }

    entry_target : (e : ℕ) → e < z.a → KeepsTarget z outside 0 (place A e 0 0)
    entry_target e h = let s = entry_source e h in record { within = (s.within, inr refl); numbers = s.numbers }

    pub entries_keep : (row n e : ℕ) (all : List Entry) → row + n ≤ z.t → EntriesWithin n all → e + length all ≤ z.a → KeepAll z outside 0 (entries_code 32 row e all)
    entries_keep row n e [] h w k = keep_none
    entries_keep row n e (NoRow ∷ all) h w k = entries_keep row n (e + 1) all h w.1 (omega arith)
    entries_keep row n e (Counted b ∷ all) h w k =
        let below = w.0 in
        keep_more (keeps_add (entry_target e (omega arith)) (entry_source e (omega arith)) (plain_source (row + b) (omega arith)))
        (entries_keep row n (e + 1) all h w.1 (omega arith))
    entries_keep row n e (Multiple l b ∷ all) h w k =
        let below = w.0 in
        keep_more (keeps_set (plain_target 32 (omega arith)))
        (keep_more (keeps_mul (plain_target 32 (omega arith)) (plain_source 32 (omega arith)) (plain_source (row + b) (omega arith)))
        (keep_more (keeps_add (entry_target e (omega arith)) (entry_source e (omega arith)) (plain_source 32 (omega arith)))
        (entries_keep row n (e + 1) all h w.1 (omega arith))))
