-- Slots and places are read from their words
use Rattle.std.proofs.Common.{◌≡◌, refl, sym, ◌∙◌, ap, subst, ℕ, zero, suc, ◌+◌, ◌<◌, ◌≤◌, ◌^◌, Bool, true, false, ◌&&◌, nat_lt, List, [], ◌∷◌, ◌++◌, length, slice_index, slice_set, Some, Ok, codes, decimal, arith, inl, inr, ◌⊎◌, ltb-true}
use Rattle.std.proofs.lemmas.Bool.{lt-ltb, le-leb, lt-leb, ltb-false}
use Rattle.c_unit.specs.declared.unit.Array.{Array}
use Rattle.c_unit.specs.declared.unit.Array.TheVariants.{X, W, T, A}
use Rattle.c_unit.specs.declared.unit.Slot.{Slot}
use Rattle.c_unit.specs.declared.unit.Place.{Place}
use Rattle.c_unit.specs.Rules.{greatest, StepsWithin, Sizes, IsSlot, IsSource, size_of, KeepsItem, KeepsSource, KeepsTarget, HasNumbers}
use Rattle.c_text.specs.declared.place.Scope.{Scope}
use Rattle.c_text.specs.declared.place.Steps.{Steps}
use Rattle.c_text.specs.Stream.{Stream, ◌>>=◌, repeat_while, is_ahead}
use Rattle.c_text.specs.Pieces.{Sign, words_of}
use Rattle.c_text.specs.Layout.{step_pieces, steps_pieces, slot_pieces, place_pieces, counter, array_name}
use Rattle.c_text.specs.Places.{number_at, counter_between, counter_at, factor_at, step_at, with_step, add_step, no_steps, goes_on, steps_at, slot_at, array_at, array_named, slot_of, size_in, written, target_at, source_at}
use Rattle.c_text.proofs.NumberLaws.{eqb_ne}
use Rattle.c_text.proofs.Repeats.{while_one_more, while_all_read}
use Rattle.c_text.proofs.Eats.{Eats, eats_split, cut, one_eaten, expected, is_ahead_of, eaten_length, none_eaten}
use Rattle.c_text.proofs.NumberTexts.{small_decimal, counter_decimal}

pub number_read : (n : ℕ) (s r : Stream) → n < 2 ^ 32 → Eats (decimal n ∷ []) s r → (l : ℕ) × (number_at s ≡ Ok ((n, l), r))
unfolding number_at
number_read n s r h e = let p = one_eaten (decimal n) s r e in (p.0.line, rw p.1 (rw p.2 (rw (small_decimal n h) refl)))

between : (from depth k : ℕ) → from ≤ k → k < depth → counter_between from depth (Some k) ≡ Some k
between from depth k h j = rw (le-leb from k h) (rw (lt-ltb k depth j) refl)

pub counter_read : (from depth k : ℕ) (s r : Stream) → from ≤ k → k < depth → k < 2 ^ 32 → Eats (counter k ∷ []) s r → (l : ℕ) × (counter_at from depth s ≡ Ok ((k, l), r))
unfolding counter_at
counter_read from depth k s r h j i e =
    let p = one_eaten (counter k) s r e in
    (p.0.line, rw p.1 (rw p.2 (rw (counter_decimal k i) (rw (between from depth k h j) refl))))

factor_read : (n : ℕ) (s r : Stream) → 0 < n → n < 2 ^ 32 → Eats (decimal n ∷ []) s r → factor_at s ≡ Ok (n, r)
unfolding factor_at
factor_read n s r h j e = let p = number_read n s r j e in rw p.1 (rw (eqb_ne n 0 (λ z. omega (arith, z, h))) refl)

step_read : (from depth k n : ℕ) (s r : Stream) → from ≤ k → k < depth → k < 2 ^ 32 → 0 < n → n < 2 ^ 32 → Eats (codes "+" ∷ decimal n ∷ codes "*" ∷ counter k ∷ []) s r
    → (l : ℕ) × (step_at from depth s ≡ Ok ((n, k, l), r))
unfolding step_at
step_read from depth k n s r h j i o m e =
    let a = eats_split (codes "+" ∷ []) (decimal n ∷ codes "*" ∷ counter k ∷ []) s r e in
    let b = eats_split (decimal n ∷ []) (codes "*" ∷ counter k ∷ []) a.0 r a.2 in
    let c = eats_split (codes "*" ∷ []) (counter k ∷ []) b.0 r b.2 in
    let p = expected (codes "+") s a.0 a.1 in
    let q = factor_read n a.0 b.0 o m b.1 in
    let u = expected (codes "*") b.0 c.0 c.1 in
    let v = counter_read from depth k c.0 r h j i c.2 in
    (v.0, rw p.1 (rw q (rw u.1 (rw v.1 refl))))

-- ---- multiples of counters

abbrev plus : Stream → Bool
plus s = is_ahead (codes "+") s

-- What is read on top of a, with at most m more, is also read on top of b, with at most k more.
record Onward (depth m : ℕ) (a : Steps) (s r : Stream) (from : ℕ) (steps : List ℕ) : Type 0 where
  b : Steps
  k : ℕ
  room : length r.tokens ≤ k
  least : b.from ≤ from
  same : b.steps ≡ steps
  onward : repeat_while (goes_on depth) (add_step depth) m a s ≡ repeat_while (goes_on depth) (add_step depth) k b r

stays : (depth m : ℕ) (a : Steps) (s r : Stream) (k : ℕ) → length s.tokens ≤ m → a.from ≤ k → Eats [] s r → slice_set a.steps k 0 ≡ a.steps
    → Onward depth m a s r (k + 1) (slice_set a.steps k 0)
stays depth m a s r k l f e same =
    let q = eaten_length [] s r e in
    let h = none_eaten s r e in
    record { b = a; k = m; room = omega (arith, q, l); least = omega (arith, f); same = sym same; onward = ap (repeat_while (goes_on depth) (add_step depth) m a) h }

steps_on : (depth m n : ℕ) (a : Steps) (s r : Stream) (k : ℕ) → length s.tokens ≤ m → a.from ≤ k → k < depth → k < 4 → 0 < n → n < 2 ^ 32
    → Eats (codes "+" ∷ decimal n ∷ codes "*" ∷ counter k ∷ []) s r → Onward depth m a s r (k + 1) (slice_set a.steps k n)
steps_on depth m n a s r k l f d four some small e =
    let p = step_read a.from depth k n s r f d (omega (arith, four)) some small e in
    let q = eaten_length (codes "+" ∷ decimal n ∷ codes "*" ∷ counter k ∷ []) s r e in
    let plus_ahead = is_ahead_of (codes "+") (codes "+") (decimal n ∷ codes "*" ∷ counter k ∷ []) s r e in
    let below : a.from < depth = omega (arith, f, d) in
    let t : goes_on depth a s ≡ true = rw plus_ahead (lt-ltb a.from depth below) in
    let o = while_one_more (goes_on depth) (add_step depth) m (length s.tokens) (length r.tokens) (repeat_while (goes_on depth) (add_step depth) m a s) a s (with_step a (n, k, p.0), r) l (omega (arith, q)) refl t
    (ap (λ x. x >>= λ x. Ok (with_step a x.0, x.1)) p.1) in
    record { b = with_step a (n, k, p.0); k = o.0; room = o.1; least = omega arith; same = refl; onward = o.2 }

pub no_step : (k : ℕ) → words_of (step_pieces k 0) ≡ []
unfolding step_pieces
no_step k = refl

pub one_step : (k n : ℕ) → 0 < n → words_of (step_pieces k n) ≡ codes "+" ∷ decimal n ∷ codes "*" ∷ counter k ∷ []
unfolding step_pieces
one_step k n h = rw (eqb_ne n 0 (λ z. omega (arith, z, h))) refl

below_by : (t : Bool) (k depth n : ℕ) → nat_lt k depth ≡ t → (depth ≤ k → suc n ≡ 0) → k < depth
below_by true k depth n e d = ltb-true k depth e
below_by false k depth n e d = let z = d (ltb-false k depth e) in absurd (omega (arith, z))

next : (depth m n : ℕ) (a : Steps) (s r : Stream) (k : ℕ) → length s.tokens ≤ m → a.from ≤ k → (depth ≤ k → n ≡ 0) → k < 4 → n < 2 ^ 32 → slice_set a.steps k 0 ≡ a.steps
    → Eats (words_of (step_pieces k n)) s r → Onward depth m a s r (k + 1) (slice_set a.steps k n)
next depth m zero a s r k l f d four small same e = stays depth m a s r k l f (rw (no_step k) at e) same
next depth m (suc n) a s r k l f d four small same e =
    steps_on depth m (suc n) a s r k l f (below_by (nat_lt k depth) k depth n refl d) four (omega arith) small (rw (one_step k (suc n) (omega arith)) at e)

four_items : (xs : List ℕ) → length xs ≡ 4 → xs ≡ slice_index xs 0 ∷ slice_index xs 1 ∷ slice_index xs 2 ∷ slice_index xs 3 ∷ []
four_items [] h = cc
four_items (a ∷ []) h = absurd (omega (arith, h))
four_items (a ∷ b ∷ []) h = absurd (omega (arith, h))
four_items (a ∷ b ∷ c ∷ []) h = absurd (omega (arith, h))
four_items (a ∷ b ∷ c ∷ d ∷ []) h = refl
four_items (a ∷ b ∷ c ∷ d ∷ e ∷ es) h = absurd (omega (arith, h))

abbrev start : ℕ → Steps
start line = record { steps = no_steps; from = 0; line = line }

-- the four multiples, of which some may be none
pub steps_read : (depth line : ℕ) (steps : List ℕ) (s r : Stream) → StepsWithin depth steps → length steps ≡ 4
    → slice_index steps 0 < 2 ^ 32 → slice_index steps 1 < 2 ^ 32 → slice_index steps 2 < 2 ^ 32 → slice_index steps 3 < 2 ^ 32
    → Eats (words_of (steps_pieces steps)) s r → plus r ≡ false → (b : Steps) × (steps_at depth line s ≡ Ok (b, r)) × (b.steps ≡ steps)
unfolding steps_at steps_pieces
steps_read depth line steps s r own four n0 n1 n2 n3 e stop =
    let p = cut (step_pieces 0 (slice_index steps 0)) _ s r e in
    let q = cut (step_pieces 1 (slice_index steps 1)) _ p.0 r p.2 in
    let u = cut (step_pieces 2 (slice_index steps 2)) (step_pieces 3 (slice_index steps 3)) q.0 r q.2 in
    let o = next depth (length s.tokens) (slice_index steps 0) (start line) s p.0 0 (omega arith) (omega arith) (own 0) (omega arith) n0 refl p.1 in
    let i = next depth o.k (slice_index steps 1) o.b p.0 q.0 1 o.room o.least (own 1) (omega arith) n1 (rw o.same refl) q.1 in
    let i-same = i.same ∙ ap (λ xs. slice_set xs 1 (slice_index steps 1)) o.same in
    let j = next depth i.k (slice_index steps 2) i.b q.0 u.0 2 i.room i.least (own 2) (omega arith) n2 (rw i-same refl) u.1 in
    let j-same = j.same ∙ ap (λ xs. slice_set xs 2 (slice_index steps 2)) i-same in
    let k = next depth j.k (slice_index steps 3) j.b u.0 r 3 j.room j.least (own 3) (omega arith) n3 (rw j-same refl) u.2 in
    let k-same = k.same ∙ ap (λ xs. slice_set xs 3 (slice_index steps 3)) j-same in (
      k.b,
      while_all_read (goes_on depth) (add_step depth) k.k _ k.b r (o.onward ∙ i.onward ∙ j.onward ∙ k.onward) (ap (λ t. t && nat_lt k.b.from depth) stop),
      k-same ∙ sym (four_items steps four),
    )

-- ---- slots and places

pub slot_read : (scope : Scope) (size : ℕ) (slot : Slot) (s r : Stream) → KeepsItem scope.turns scope.depth size slot → Eats (words_of (slot_pieces slot)) s r → plus r ≡ false
    → slot_at scope size s ≡ Ok (slot, r)
unfolding slot_at slot_pieces
slot_read scope size slot s r keeps e stop =
    let p = eats_split (decimal slot.base ∷ []) (words_of (steps_pieces slot.steps)) s r e in
    let n = number_read slot.base s p.0 keeps.numbers.0 p.1 in
    let q = steps_read scope.depth n.0 slot.steps p.0 r keeps.within.own keeps.within.four keeps.numbers.1 keeps.numbers.2 keeps.numbers.3 keeps.numbers.4 p.2 stop in
    rw n.1 (rw q.1 (rw q.2 (rw (lt-leb size (greatest scope.turns slot) keeps.within.below) refl)))

-- what surrounds a statement inside so many loops of these turns
abbrev pub scope_of : Sizes → List ℕ → ℕ → Scope
scope_of z turns depth = record { x = z.x; w = z.w; t = z.t; a = z.a; turns = turns; depth = depth }

pub bracket : (s r : Stream) → Eats (codes "]" ∷ []) s r → plus s ≡ false
bracket s r e = is_ahead_of (codes "+") (codes "]") [] s r e

pub same_size : (z : Sizes) (turns : List ℕ) (depth : ℕ) (array : Array) → size_of z array ≡ size_in (scope_of z turns depth) array
same_size z turns depth X = refl
same_size z turns depth W = refl
same_size z turns depth T = refl
same_size z turns depth A = refl

pub brackets_read : (scope : Scope) (array : Array) (slot : Slot) (s r : Stream) → KeepsItem scope.turns scope.depth (size_in scope array) slot
    → Eats (words_of (Sign (codes "[") ∷ slot_pieces slot ++ Sign (codes "]") ∷ [])) s r → slot_of scope array s ≡ Ok (record { array = array; slot = slot }, r)
unfolding slot_of
brackets_read scope array slot s r keeps e =
    let p = eats_split (codes "[" ∷ []) (words_of (slot_pieces slot ++ Sign (codes "]") ∷ [])) s r e in
    let q = cut (slot_pieces slot) (Sign (codes "]") ∷ []) p.0 r p.2 in
    let a = expected (codes "[") s p.0 p.1 in
    let b = slot_read scope (size_in scope array) slot p.0 q.0 keeps q.1 (bracket q.0 r q.2) in
    let c = expected (codes "]") q.0 r q.2 in
    rw a.1 (rw b (rw c.1 refl))

name_of : (array : Array) → array_named (array_name array) ≡ Some array
name_of X = refl
name_of W = refl
name_of T = refl
name_of A = refl

may_write : (array : Array) → (array ≡ T) ⊎ (array ≡ A) → written array ≡ true
may_write array (inl h) = ap written h
may_write array (inr h) = ap written h

pub array_read : (array : Array) (s r : Stream) → Eats (array_name array ∷ []) s r → (l : ℕ) × (array_at s ≡ Ok ((array, l), r))
unfolding array_at
array_read array s r e = let p = one_eaten (array_name array) s r e in (p.0.line, rw p.1 (rw p.2 (rw (name_of array) refl)))

module _ (z : Sizes) (turns : List ℕ) (depth : ℕ) where
  item_of : (p : Place) → IsSource z turns depth p → HasNumbers p.slot → KeepsItem turns depth (size_in (scope_of z turns depth) p.array) p.slot
  item_of p h n = record { within = subst (λ k. IsSlot turns depth k p.slot) (same_size z turns depth p.array) h; numbers = n }

  pub source_read : (p : Place) (s r : Stream) → KeepsSource z turns depth p → Eats (words_of (place_pieces p)) s r → source_at (scope_of z turns depth) s ≡ Ok (p, r)
  unfolding source_at place_pieces
  source_read p s r keeps e =
      let a = eats_split (codes "&" ∷ []) (array_name p.array ∷ words_of (Sign (codes "[") ∷ slot_pieces p.slot ++ Sign (codes "]") ∷ [])) s r e in
      let b = eats_split (array_name p.array ∷ []) (words_of (Sign (codes "[") ∷ slot_pieces p.slot ++ Sign (codes "]") ∷ [])) a.0 r a.2 in
      let c = expected (codes "&") s a.0 a.1 in
      let d = array_read p.array a.0 b.0 b.1 in
      let f = brackets_read (scope_of z turns depth) p.array p.slot b.0 r (item_of p keeps.within keeps.numbers) b.2 in
      rw c.1 (rw d.1 (rw f refl))

  pub target_read : (p : Place) (s r : Stream) → KeepsTarget z turns depth p → Eats (words_of (place_pieces p)) s r → target_at (scope_of z turns depth) s ≡ Ok (p, r)
  unfolding target_at place_pieces
  target_read p s r keeps e =
      let a = eats_split (codes "&" ∷ []) (array_name p.array ∷ words_of (Sign (codes "[") ∷ slot_pieces p.slot ++ Sign (codes "]") ∷ [])) s r e in
      let b = eats_split (array_name p.array ∷ []) (words_of (Sign (codes "[") ∷ slot_pieces p.slot ++ Sign (codes "]") ∷ [])) a.0 r a.2 in
      let c = expected (codes "&") s a.0 a.1 in
      let d = array_read p.array a.0 b.0 b.1 in
      let f = brackets_read (scope_of z turns depth) p.array p.slot b.0 r (item_of p keeps.within.0 keeps.numbers) b.2 in
      rw c.1 (rw d.1 (rw (may_write p.array keeps.within.1) (rw f refl)))
