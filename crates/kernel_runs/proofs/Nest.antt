-- Two loops that write an outer product
use Rattle.std.proofs.Common.{◌≡◌, ◌≢◌, ℕ, ◌+◌, ◌*◌, ◌<◌, ◌≤◌, ◌⊎◌, inl, inr, refl, sym, ◌∙◌, ap, ap₂, subst, arith, length, length-set, List, [], ◌∷◌, Bool, true, false, ltb, ltb-true, ltb-false}
use native.Mathlib.Nat as N
use Rattle.algebra.specs.Fraction.{Fraction, mul}
use Rattle.algebra.specs.Steps.{fits}
use Rattle.c_unit.specs.declared.unit.Array.{Array}
use Rattle.c_unit.specs.declared.unit.Array.TheVariants.{X, W, T, A}
use Rattle.c_unit.specs.Meaning.{Slots, array_of, run_one}
use Rattle.kernel.specs.Ends.{Ends}
use Rattle.kernel.proofs.Rules.{ends_weaker}
use Rattle.kernel_runs.specs.Strips.{item, outer}
use Rattle.kernel_runs.specs.Frame.{Holds, IsOutside, Keeps, slot, write}
use Rattle.kernel_runs.specs.Planned.{AllFixed, IsFixed, outer_code, place, stepped, values_of}
use Rattle.kernel_runs.specs.declared.strip.Strip.{Strip}
use Rattle.kernel_runs.specs.Fit.{AllFit}
use Rattle.kernel_runs.proofs.StripLaws.{outer_at, outer_length, strip_is, strip_item, strip_length}
use Rattle.kernel_runs.proofs.Steps.{mul_then, write_other, write_same}
use Rattle.kernel_runs.proofs.Loops.{nest_keeps}

-- ---- what is kept
pub keeps_all : (fixed : ℕ → Type 0) (s : Slots) → Keeps fixed s s
keeps_all fixed s = record { x = refl; w = refl; a = refl; size = refl; slots = λ k h. refl }

pub keeps_then : (fixed : ℕ → Type 0) (s₀ s₁ s₂ : Slots) → Keeps fixed s₀ s₁ → Keeps fixed s₁ s₂ → Keeps fixed s₀ s₂
keeps_then fixed s₀ s₁ s₂ h g =
    record { x = g.x ∙ h.x; w = g.w ∙ h.w; a = g.a ∙ h.a; size = g.size ∙ h.size; slots = λ k f. g.slots k f ∙ h.slots k f }

pub keeps_fewer : (fixed fewer : ℕ → Type 0) (s₀ s : Slots) → ((k : ℕ) → fewer k → fixed k) → Keeps fixed s₀ s → Keeps fewer s₀ s
keeps_fewer fixed fewer s₀ s f h = record { x = h.x; w = h.w; a = h.a; size = h.size; slots = λ k g. h.slots k (f k g) }

pub keeps_write : (fixed : ℕ → Type 0) (s₀ s : Slots) (k : ℕ) (v : Fraction) → ((j : ℕ) → fixed j → j ≢ k) → Keeps fixed s₀ s → Keeps fixed s₀ (write k v s)
keeps_write fixed s₀ s k v f h =
    record { x = h.x; w = h.w; a = h.a; size = length-set s.t k v ∙ h.size; slots = λ j g. write_other k v s j (f j g) ∙ h.slots j g }

pub kept_value : (fixed : ℕ → Type 0) (s₀ s : Slots) (array : Array) (k : ℕ) → Keeps fixed s₀ s → IsFixed fixed array k → item (array_of array s) k ≡ item (array_of array s₀) k
kept_value fixed s₀ s X k h f = ap (λ l. item l k) h.x
kept_value fixed s₀ s W k h f = ap (λ l. item l k) h.w
kept_value fixed s₀ s T k h f = h.slots k f
kept_value fixed s₀ s A k h f = absurd f

-- ---- the values so far
abbrev SoFar : Slots → ℕ → List Fraction → ℕ → Slots → Type 0
SoFar s₀ new xs n s = Keeps (IsOutside new (new + length xs)) s₀ s × ((k : ℕ) → k < n → slot s (new + k) ≡ item xs k)

split : (k n : ℕ) → k < n + 1 → (k < n) ⊎ (k ≡ n)
split k n h = go (ltb k n) refl
  where
    last : (k n : ℕ) → k < n + 1 → n ≤ k → k ≡ n
    last k n h g = omega arith

    go : (t : Bool) → ltb k n ≡ t → (k < n) ⊎ (k ≡ n)
    go true e = inl (ltb-true k n e)
    go false e = inr (last k n h (ltb-false k n e))

next_value : (s : Slots) (new n k : ℕ) (xs : List Fraction) → new + n < length s.t → ((k : ℕ) → k < n → slot s (new + k) ≡ item xs k) → (k < n) ⊎ (k ≡ n)
    → slot (write (new + n) (item xs n) s) (new + k) ≡ item xs k
next_value s new n k xs h f (inl g) = (let other : new + k ≢ new + n = omega arith in write_other (new + n) (item xs n) s (new + k) other) ∙ f k g
next_value s new n k xs h f (inr e) = subst (λ j. slot (write (new + n) (item xs n) s) (new + j) ≡ item xs j) (sym e) (write_same (new + n) (item xs n) s h)

pub one_value_more : (s₀ s : Slots) (new : ℕ) (xs : List Fraction) (n : ℕ) → new + length xs ≤ length s₀.t → n < length xs → SoFar s₀ new xs n s → SoFar s₀ new xs (n + 1) (write (new + n) (item xs n) s)
one_value_more s₀ s new xs n room h (kept, filled) =
    let size : length s.t ≡ length s₀.t = kept.size in
    let inside : new + n < length s.t = omega arith in (
      keeps_write (IsOutside new (new + length xs)) s₀ s (new + n) (item xs n) (apart new n (length xs) h) kept,
      λ k l. next_value s new n k xs inside filled (split k n l),
    )
  where
    apart : (new n m : ℕ) → n < m → (j : ℕ) → IsOutside new (new + m) j → j ≢ new + n
    apart new n m h j (inl g) = omega arith
    apart new n m h j (inr g) = omega arith

to_place : (new q a b : ℕ) → new + q * a + 1 * b + 0 * 0 + 0 * 0 ≡ new + (q * a + b)
to_place new q a b = omega arith

left_place : (base step a b : ℕ) → base + step * a + 0 * b + 0 * 0 + 0 * 0 ≡ base + step * a
left_place base step a b = omega arith

right_place : (base step a b : ℕ) → base + 0 * a + step * b + 0 * 0 + 0 * 0 ≡ base + step * b
right_place base step a b = omega arith

below_product : (p q a b : ℕ) → a < p → b < q → q * a + b < p * q
below_product p q a b h g =
    let next : a + 1 ≤ p = omega arith in
    let more : q * (a + 1) ≤ q * p = N.mul-le-mul_left q next in
    omega arith

-- the list stands where the values were written
pub holds : (s₀ s : Slots) (new : ℕ) (xs : List Fraction) → SoFar s₀ new xs (length xs) s → Holds new xs s
holds s₀ s new xs (kept, filled) = strip_is s.t new 1 xs (λ j h. ap (slot s) (one_apart new j) ∙ filled j h)
  where
    one_apart : (new j : ℕ) → new + 1 * j ≡ new + j
    one_apart new j = omega arith

module _ (Q Z : Type 0) (ks : List (List Fraction)) (s₀ : Slots) (new : ℕ) (l r : Strip) where
  abbrev xs : List Fraction
  xs = values_of s₀ l

  abbrev ys : List Fraction
  ys = values_of s₀ r

  abbrev zs : List Fraction
  zs = outer xs ys

  size_is : length zs ≡ l.count * r.count
  size_is = outer_length xs ys ∙ ap₂ ◌*◌ (strip_length (array_of l.array s₀) l.base l.step l.count) (strip_length (array_of r.array s₀) r.base r.step r.count)

  value_is : (a b : ℕ) → a < l.count → b < r.count
      → item zs (r.count * a + b) ≡ mul (item (array_of l.array s₀) (l.base + l.step * a)) (item (array_of r.array s₀) (r.base + r.step * b))
  value_is a b h g =
      let m : length ys ≡ r.count = strip_length (array_of r.array s₀) r.base r.step r.count in
      ap (λ n. item zs (n * a + b)) (sym m)
      ∙ outer_at xs ys a b (subst (λ n. a < n) (sym (strip_length (array_of l.array s₀) l.base l.step l.count)) h) (subst (λ n. b < n) (sym m) g)
      ∙ ap₂ mul (strip_item (array_of l.array s₀) l.base l.step l.count a h) (strip_item (array_of r.array s₀) r.base r.step r.count b g)

  -- T holds the outer product from `new` on
  pub nest_run : new + length zs ≤ length s₀.t → AllFixed (IsOutside new (new + length zs)) l → AllFixed (IsOutside new (new + length zs)) r → AllFit Q zs
      → Ends Q Z (λ s. Keeps (IsOutside new (new + length zs)) s₀ s × Holds new zs s) (run_one (outer_code new l r) ks 0 (0 ∷ 0 ∷ 0 ∷ 0 ∷ []) s₀)
  nest_run room left right fit =
      ends_weaker Q Z (SoFar s₀ new zs (l.count * r.count)) _ (run_one (outer_code new l r) ks 0 (0 ∷ 0 ∷ 0 ∷ 0 ∷ []) s₀)
      (nest_keeps Q Z (SoFar s₀ new zs) l.count r.count _ ks
      (λ a b s la lb k.
      let is : List ℕ = a ∷ b ∷ 0 ∷ 0 ∷ [] in
      let n : ℕ = r.count * a + b in
      let within : n < length zs = subst (λ m. n < m) (sym size_is) (below_product l.count r.count a b la lb) in
      let u : Fraction = mul (item (array_of l.array s₀) (l.base + l.step * a)) (item (array_of r.array s₀) (r.base + r.step * b)) in
      mul_then Q Z (SoFar s₀ new zs (n + 1)) ks 2 is s [] (stepped new r.count 1) (place l.array l.base l.step 0) (place r.array r.base 0 r.step)
      (new + n) (item (array_of l.array s₀) (l.base + l.step * a)) (item (array_of r.array s₀) (r.base + r.step * b))
      (to_place new r.count a b)
      (ap (item (array_of l.array s)) (left_place l.base l.step a b) ∙ kept_value (IsOutside new (new + length zs)) s₀ s l.array (l.base + l.step * a) k.0 (left a la))
      (ap (item (array_of r.array s)) (right_place r.base r.step a b) ∙ kept_value (IsOutside new (new + length zs)) s₀ s r.array (r.base + r.step * b) k.0 (right b lb))
      (λ e. fit n within (ap fits (value_is a b la lb) ∙ e))
      (subst (λ v. SoFar s₀ new zs (n + 1) (write (new + n) v s)) (value_is a b la lb) (one_value_more s₀ s new zs n room within k)))
      s₀ (keeps_all (IsOutside new (new + length zs)) s₀, λ k h. absurd (omega arith)))
      (λ s k. (k.0, holds s₀ s new zs (subst (λ m. SoFar s₀ new zs m s) (sym size_is) k)))
