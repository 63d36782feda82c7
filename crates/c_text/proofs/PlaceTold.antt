-- What is read as a slot or a place consists of its words, and keeps the rules
use Rattle.std.proofs.Common.{◌≡◌, refl, sym, ◌∙◌, ap, subst, ℕ, zero, suc, ◌+◌, ◌-◌, ◌<◌, ◌≤◌, ◌^◌, Bool, true, false, ◌&&◌, ◌==◌, nat_le, nat_lt, if◌then◌else◌, List, [], ◌∷◌, ◌++◌, length, slice_index, slice_set, Option, Some, None, Result, Ok, Err, codes, decimal, arith, inl, inr, ◌⊎◌, leb-true, ltb-true}
use Rattle.std.specs.Str.{bytes_eq}
use Rattle.std.proofs.lemmas.Bool.{leb-false, eqb-false, eqb-true}
use Rattle.std.proofs.lemmas.List.{append-nil, get_or-set_same, get_or-set_other, length-set}
use Rattle.std.proofs.lemmas.Slice.Eq.{bytes_eq-Decides}
use Rattle.c_unit.specs.declared.unit.Array.{Array}
use Rattle.c_unit.specs.declared.unit.Array.TheVariants.{X, W, T, A}
use Rattle.c_unit.specs.declared.unit.Slot.{Slot}
use Rattle.c_unit.specs.declared.unit.Place.{Place}
use Rattle.c_unit.specs.Rules.{greatest, Sizes, IsSlot, IsSource, KeepsItem, KeepsSource, KeepsTarget}
use Rattle.c_text.specs.declared.refusal.KernelRefusal.{KernelRefusal}
use Rattle.c_text.specs.declared.refusal.KernelKind.TheVariants as kinds
use Rattle.c_text.specs.declared.place.Scope.{Scope}
use Rattle.c_text.specs.declared.place.Steps.{Steps}
use Rattle.c_text.specs.Stream.{Stream, ◌>>=◌, refusal, shift, expect, expects, repeat_while}
use Rattle.c_text.specs.Pieces.{Piece, Sign, words_of}
use Rattle.c_text.specs.Layout.{step_pieces, steps_pieces, slot_pieces, place_pieces, counter, array_name}
use Rattle.c_text.specs.Lowest.{first, second}
use Rattle.c_text.specs.Numbers.{small_value, counter_value}
use Rattle.c_text.specs.Places.{required, number_at, counter_between, counter_at, factor_at, step_at, with_step, add_step, no_steps, goes_on, steps_at, slot_at, array_at, array_named, slot_of, size_in, written, target_at, source_at}
use Rattle.c_text.proofs.Eats.{Eats, bind_ok, eats_join, glue, taken, shifted}
use Rattle.c_text.proofs.NumberTexts.{small_back, counter_back}
use Rattle.c_text.proofs.PlaceWords.{scope_of, same_size, one_step}

-- a value that was required
pub required_ok : {A : Type 0} (o : Option A) (line : ℕ) (s : Stream) (x : (A × ℕ) × Stream) → required o line s ≡ Ok x → (o ≡ Some x.0.0) × (s ≡ x.1)
required_ok None line s x h = cc
required_ok {A} (Some a) line s x h = let e : ◌≡◌ {A = (A × ℕ) × Stream} ((a, line), s) x = cc in (ap (λ y. Some y.0.0) e, ap (λ y. y.1) e)

-- a test that was passed
pub passed : {A : Type 0} (b : Bool) (e : KernelRefusal) (y x : A) → ◌≡◌ {A = Result A KernelRefusal} (if b then Err e else Ok y) (Ok x) → (b ≡ false) × (y ≡ x)
passed true e y x h = cc
passed false e y x h = (refl, cc)

pub passed_on : {A : Type 0} (b : Bool) (e : KernelRefusal) (r : Result A KernelRefusal) (x : A) → (if b then Err e else r) ≡ Ok x → (b ≡ false) × (r ≡ Ok x)
passed_on true e r x h = cc
passed_on false e r x h = (refl, h)

pub held : {A : Type 0} (b : Bool) (e : KernelRefusal) (r : Result A KernelRefusal) (x : A) → (if b then r else Err e) ≡ Ok x → (b ≡ true) × (r ≡ Ok x)
held true e r x h = (refl, h)
held false e r x h = cc

-- the end of a reading
pub ends : {A : Type 0} (y x : A) → ◌≡◌ {A = Result A KernelRefusal} (Ok y) (Ok x) → y ≡ x
ends y x h = cc

pub number_told : (s : Stream) (x : (ℕ × ℕ) × Stream) → number_at s ≡ Ok x → Eats (decimal x.0.0 ∷ []) s x.1 × (x.0.0 < 2 ^ 32)
unfolding number_at
number_told s x h =
    let p = bind_ok (shift s) _ x h in
    let q = required_ok (small_value p.0.0.text) p.0.0.line p.0.1 x p.2 in
    let n = small_back p.0.0.text x.0.0 q.0 in
    (subst (Eats (decimal x.0.0 ∷ []) s) q.1 (shifted s p.0 (decimal x.0.0) p.1 n.0), n.1)

between_ok : (from depth : ℕ) (o : Option ℕ) (k : ℕ) → counter_between from depth o ≡ Some k → (o ≡ Some k) × (from ≤ k) × (k < depth)
between_ok from depth None k h = cc
between_ok from depth (Some c) k h = between_by (nat_le from c && nat_lt c depth) from depth c k refl h
  where
    between_by : (b : Bool) (from depth c k : ℕ) → (nat_le from c && nat_lt c depth) ≡ b → (if b then Some c else None) ≡ Some k → (Some c ≡ Some k) × (from ≤ k) × (k < depth)
    between_by true from depth c k e h =
        let same : c ≡ k = cc in
        (h, subst (λ k. from ≤ k) same (leb-true from c (first (nat_le from c) _ e)), subst (λ k. k < depth) same (ltb-true c depth (second (nat_le from c) _ e)))
    between_by false from depth c k e h = cc

counter_told : (from depth : ℕ) (s : Stream) (x : (ℕ × ℕ) × Stream) → counter_at from depth s ≡ Ok x → Eats (counter x.0.0 ∷ []) s x.1 × (from ≤ x.0.0) × (x.0.0 < depth)
unfolding counter_at
counter_told from depth s x h =
    let p = bind_ok (shift s) _ x h in
    let q = required_ok (counter_between from depth (counter_value p.0.0.text)) p.0.0.line p.0.1 x p.2 in
    let b = between_ok from depth (counter_value p.0.0.text) x.0.0 q.0 in
    let n = counter_back p.0.0.text x.0.0 b.0 in
    (subst (Eats (counter x.0.0 ∷ []) s) q.1 (shifted s p.0 (counter x.0.0) p.1 n.0), b.1, b.2)

positive : (n : ℕ) → (n == 0) ≡ false → 0 < n
positive zero h = cc
positive (suc n) h = omega arith

factor_told : (s : Stream) (x : ℕ × Stream) → factor_at s ≡ Ok x → Eats (decimal x.0 ∷ []) s x.1 × (0 < x.0) × (x.0 < 2 ^ 32)
unfolding factor_at
factor_told s x h =
    let p = bind_ok (number_at s) _ x h in
    let n = number_told s p.0 p.1 in
    let q = passed (p.0.0.0 == 0) (refusal kinds.Syntax p.0.0.1) (p.0.0.0, p.0.1) x p.2 in
    subst (λ x. Eats (decimal x.0 ∷ []) s x.1 × (0 < x.0) × (x.0 < 2 ^ 32)) q.1 (n.0, positive p.0.0.0 q.0, n.1)

pub step_told : (from depth : ℕ) (s : Stream) (x : (ℕ × ℕ × ℕ) × Stream) → step_at from depth s ≡ Ok x
    → Eats (codes "+" ∷ decimal x.0.0 ∷ codes "*" ∷ counter x.0.1 ∷ []) s x.1 × (0 < x.0.0) × (x.0.0 < 2 ^ 32) × (from ≤ x.0.1) × (x.0.1 < depth)
unfolding step_at
step_told from depth s x h =
    let p = bind_ok (expect (codes "+") s) _ x h in
    let f = bind_ok (factor_at p.0.1) _ x p.2 in
    let m = bind_ok (expect (codes "*") f.0.1) _ x f.2 in
    let c = bind_ok (counter_at from depth m.0.1) _ x m.2 in
    let factor = factor_told p.0.1 f.0 f.1 in
    let count = counter_told from depth m.0.1 c.0 c.1 in
    let e = ends ((f.0.0, c.0.0.0, c.0.0.1), c.0.1) x c.2 in
    let eats =
    eats_join (codes "+" ∷ []) (decimal f.0.0 ∷ codes "*" ∷ counter c.0.0.0 ∷ []) s p.0.1 c.0.1 (taken (codes "+") s p.0 p.1)
    (eats_join (decimal f.0.0 ∷ []) (codes "*" ∷ counter c.0.0.0 ∷ []) p.0.1 f.0.1 c.0.1 factor.0
    (eats_join (codes "*" ∷ []) (counter c.0.0.0 ∷ []) f.0.1 m.0.1 c.0.1 (taken (codes "*") f.0.1 m.0 m.1) count.0)) in
    subst (λ x. Eats (codes "+" ∷ decimal x.0.0 ∷ codes "*" ∷ counter x.0.1 ∷ []) s x.1 × (0 < x.0.0) × (x.0.0 < 2 ^ 32) × (from ≤ x.0.1) × (x.0.1 < depth)) e
    (eats, factor.1, factor.2, count.1, count.2)

-- ---- multiples of counters

-- the multiples of the counters from k on, of which there are n
abbrev tail : ℕ → ℕ → List ℕ → List Piece
tail zero k xs = []
tail (suc n) k xs = step_pieces k (slice_index xs k) ++ tail n (k + 1) xs

-- four numbers below 2^32, of which those from the first on are 0
record Begun (from depth : ℕ) (xs : List ℕ) : Type 0 where
  four : length xs ≡ 4
  small : (k : ℕ) → slice_index xs k < 2 ^ 32
  none : (k : ℕ) → from ≤ k → slice_index xs k ≡ 0
  within : from ≤ depth

pub set_other : (xs : List ℕ) (c f j : ℕ) → (j ≡ c → ⊥) → slice_index (slice_set xs c f) j ≡ slice_index xs j
set_other xs c f j h = get_or-set_other xs c j f 0 h

set_same : (xs : List ℕ) (c f : ℕ) → c < length xs → slice_index (slice_set xs c f) c ≡ f
set_same xs c f h = get_or-set_same xs c f 0 h

small_by : (t : Bool) (xs : List ℕ) (c f j : ℕ) → (j == c) ≡ t → c < length xs → f < 2 ^ 32 → slice_index xs j < 2 ^ 32 → slice_index (slice_set xs c f) j < 2 ^ 32
small_by true xs c f j e h small old = let s = eqb-true j c e in subst (λ j. slice_index (slice_set xs c f) j < 2 ^ 32) (sym s) (subst (λ n. n < 2 ^ 32) (sym (set_same xs c f h)) small)
small_by false xs c f j e h small old = subst (λ n. n < 2 ^ 32) (sym (set_other xs c f j (eqb-false j c e))) old

begun_more : (from depth : ℕ) (xs : List ℕ) (c f : ℕ) → Begun from depth xs → from ≤ c → c < depth → depth ≤ 4 → f < 2 ^ 32 → Begun (c + 1) depth (slice_set xs c f)
begun_more from depth xs c f b h d four small =
    let inside : c < length xs = let l = b.four in omega (arith, l, d, four) in
    record {
      four = length-set xs c f ∙ b.four;
      small = λ j. small_by (j == c) xs c f j refl inside small (b.small j);
      none = λ j k. set_other xs c f j (λ e. omega (arith, e, k)) ∙ b.none j (omega (arith, h, k));
      within = omega (arith, d);
    }

no_pieces : (k : ℕ) → step_pieces k 0 ≡ []
unfolding step_pieces
no_pieces k = refl

-- multiples by 0 are no words
skip : (n m : ℕ) (k : ℕ) (xs : List ℕ) → ((j : ℕ) → k ≤ j → j < k + n → slice_index xs j ≡ 0) → words_of (tail (n + m) k xs) ≡ words_of (tail m (k + n) xs)
skip zero m k xs h = let a : 0 + m ≡ m = omega arith in let b : k ≡ k + 0 = omega arith in ap (λ n. words_of (tail n k xs)) a ∙ ap (λ j. words_of (tail m j xs)) b
skip (suc n) m k xs h =
    let e : suc n + m ≡ suc (n + m) = omega arith in
    let none : slice_index xs k ≡ 0 = h k (omega arith) (omega arith) in
    let i : (k + 1) + n ≡ k + suc n = omega arith in
    ap (λ l. words_of (tail l k xs)) e
    ∙ ap (λ x. words_of (step_pieces k x ++ tail (n + m) (k + 1) xs)) none
    ∙ ap (λ ps. words_of (ps ++ tail (n + m) (k + 1) xs)) (no_pieces k)
    ∙ skip n m (k + 1) xs (λ j a b. h j (omega (arith, a)) (omega (arith, b)))
    ∙ ap (λ j. words_of (tail m j xs)) i

all_none : (n k : ℕ) (xs : List ℕ) → ((j : ℕ) → k ≤ j → slice_index xs j ≡ 0) → words_of (tail n k xs) ≡ []
all_none zero k xs h = refl
all_none (suc n) k xs h =
    ap (λ x. words_of (step_pieces k x ++ tail n (k + 1) xs)) (h k (omega arith)) ∙ ap (λ ps. words_of (ps ++ tail n (k + 1) xs)) (no_pieces k) ∙ all_none n (k + 1) xs (λ j a. h j (omega (arith, a)))

-- What was read on top of a: the words of the multiples from its first counter on. Those before it are as they were.
record StepsTold (depth : ℕ) (a : Steps) (s : Stream) (x : Steps × Stream) : Type 0 where
  begun : Begun depth depth x.0.steps
  same : (j : ℕ) → j < a.from → slice_index x.0.steps j ≡ slice_index a.steps j
  eats : (n : ℕ) → n + a.from ≡ 4 → Eats (words_of (tail n a.from x.0.steps)) s x.1

pub nothing : (s : Stream) → Eats [] s s
unfolding expects
nothing s = refl

stopped : (depth : ℕ) (a : Steps) (s : Stream) (x : Steps × Stream) → (a, s) ≡ x → Begun a.from depth a.steps → StepsTold depth a s x
stopped depth a s x e b =
    subst (StepsTold depth a s) e
    (record {
      begun = record { four = b.four; small = b.small; none = λ k h. b.none k (let w = b.within in omega (arith, w, h)); within = omega arith };
      same = λ j h. refl;
      eats = λ n h. subst (λ ws. Eats ws s s) (sym (all_none n a.from a.steps b.none)) (nothing s);
    })

words_on : (depth from c n : ℕ) (xs : List ℕ) (s m r : Stream) (f : ℕ) → Eats (codes "+" ∷ decimal f ∷ codes "*" ∷ counter c ∷ []) s m → 0 < f → slice_index xs c ≡ f → from ≤ c → c < depth → depth ≤ 4 → n + from ≡ 4
    → ((j : ℕ) → from ≤ j → j < c → slice_index xs j ≡ 0) → ((l : ℕ) → l + (c + 1) ≡ 4 → Eats (words_of (tail l (c + 1) xs)) m r) → Eats (words_of (tail n from xs)) s r
words_on depth from c n xs s m r f e some own h d four k zero_before more =
    let l = 3 - c in
    let parts : n ≡ (c - from) + suc l = omega (arith, h, d, four, k) in
    let there : from + (c - from) ≡ c = omega (arith, h) in
    let same : words_of (tail n from xs) ≡ words_of (tail (suc l) c xs)
    = ap (λ i. words_of (tail i from xs)) parts ∙ skip (c - from) (suc l) from xs (λ j p q. zero_before j p (omega (arith, q, there))) ∙ ap (λ j. words_of (tail (suc l) j xs)) there in
    let own_words : words_of (step_pieces c (slice_index xs c)) ≡ codes "+" ∷ decimal f ∷ codes "*" ∷ counter c ∷ [] = ap (λ n. words_of (step_pieces c n)) own ∙ one_step c f some in
    subst (λ ws. Eats ws s r) (sym same) (glue (step_pieces c (slice_index xs c)) (tail l (c + 1) xs) s m r (subst (λ ws. Eats ws s m) (sym own_words) e) (more l (omega (arith, d, four))))

went_on : (depth : ℕ) (a : Steps) (s : Stream) (y : (ℕ × ℕ × ℕ) × Stream) (x : Steps × Stream) → depth ≤ 4 → Begun a.from depth a.steps → step_at a.from depth s ≡ Ok y → StepsTold depth (with_step a y.0) y.1 x → StepsTold depth a s x
went_on depth a s y x four b h more =
    let t = step_told a.from depth s y h in
    let f = y.0.0 in
    let c = y.0.1 in
    let inside : c < length a.steps = let l = b.four in let d = t.4 in omega (arith, l, d, four) in
    let own : slice_index x.0.steps c ≡ f = more.same c (omega arith) ∙ set_same a.steps c f inside in
    record {
      begun = more.begun;
      same = λ j k. more.same j (let l = t.3 in omega (arith, l, k)) ∙ set_other a.steps c f j (λ e. let l = t.3 in omega (arith, e, l, k));
      eats = λ n k. words_on depth a.from c n x.0.steps s y.1 x.1 f t.0 t.1 own t.3 t.4 four k (λ j p q. more.same j (omega (arith, q)) ∙ set_other a.steps c f j (λ e. omega (arith, e, q)) ∙ b.none j p) (λ m l. more.eats m l);
    }

Onwards : ℕ → ℕ → Steps → Stream → Steps × Stream → Type 0
Onwards depth n a s x = (y : (ℕ × ℕ × ℕ) × Stream) → step_at a.from depth s ≡ Ok y → repeat_while (goes_on depth) (add_step depth) n (with_step a y.0) y.1 ≡ Ok x → StepsTold depth (with_step a y.0) y.1 x

repeat_by : (t : Bool) (depth n : ℕ) (a : Steps) (s : Stream) (x : Steps × Stream) → depth ≤ 4 → Begun a.from depth a.steps
    → (if t then (add_step depth a s >>= λ x. repeat_while (goes_on depth) (add_step depth) n x.0 x.1) else Ok (a, s)) ≡ Ok x → Onwards depth n a s x → StepsTold depth a s x
unfolding Onwards
repeat_by false depth n a s x four b h more = stopped depth a s x (ends (a, s) x h) b
repeat_by true depth n a s x four b h more =
    let p = bind_ok (add_step depth a s) _ x h in
    let q = bind_ok (step_at a.from depth s) _ p.0 p.1 in
    let e = ends (with_step a q.0.0, q.0.1) p.0 q.2 in
    went_on depth a s q.0 x four b q.1 (more q.0 q.1 (subst (λ y. repeat_while (goes_on depth) (add_step depth) n y.0 y.1 ≡ Ok x) (sym e) p.2))

repeat_told : (depth n : ℕ) (a : Steps) (s : Stream) (x : Steps × Stream) → depth ≤ 4 → Begun a.from depth a.steps → repeat_while (goes_on depth) (add_step depth) n a s ≡ Ok x → StepsTold depth a s x
unfolding repeat_while Onwards
repeat_told depth zero a s x four b h = stopped depth a s x (ends (a, s) x h) b
repeat_told depth (suc n) a s x four b h =
    repeat_by (goes_on depth a s) depth n a s x four b h
    (λ y k l. let t = step_told a.from depth s y k in repeat_told depth n (with_step a y.0) y.1 x four (begun_more a.from depth a.steps y.0.1 y.0.0 b t.3 t.4 four t.2) l)

start_begun : (depth : ℕ) → Begun 0 depth no_steps
start_begun depth = record { four = refl; small = λ k. none_small k; none = λ k h. none_zero k; within = omega arith }
  where
    none_zero : (k : ℕ) → slice_index no_steps k ≡ 0
    none_zero zero = refl
    none_zero (suc zero) = refl
    none_zero (suc (suc zero)) = refl
    none_zero (suc (suc (suc zero))) = refl
    none_zero (suc (suc (suc (suc k)))) = refl

    none_small : (k : ℕ) → slice_index no_steps k < 2 ^ 32
    none_small k = let e = none_zero k in omega (arith, e)

-- the words of four multiples
four_tails : (xs : List ℕ) → words_of (tail 4 0 xs) ≡ words_of (steps_pieces xs)
unfolding steps_pieces
four_tails xs =
    ap (λ ps. words_of (step_pieces 0 (slice_index xs 0) ++ (step_pieces 1 (slice_index xs 1) ++ (step_pieces 2 (slice_index xs 2) ++ ps)))) (append-nil (step_pieces 3 (slice_index xs 3)))

steps_told : (depth line : ℕ) (s : Stream) (x : Steps × Stream) → depth ≤ 4 → steps_at depth line s ≡ Ok x → Begun depth depth x.0.steps × Eats (words_of (steps_pieces x.0.steps)) s x.1
unfolding steps_at
steps_told depth line s x four h =
    let t = repeat_told depth (length s.tokens) (record { steps = no_steps; from = 0; line = line }) s x four (start_begun depth) h in
    (t.begun, subst (λ ws. Eats ws s x.1) (four_tails x.0.steps) (t.eats 4 (omega arith)))

-- ---- slots and places

pub slot_told : (scope : Scope) (size : ℕ) (s : Stream) (x : Slot × Stream) → scope.depth ≤ 4 → slot_at scope size s ≡ Ok x → Eats (words_of (slot_pieces x.0)) s x.1 × KeepsItem scope.turns scope.depth size x.0
unfolding slot_at slot_pieces
slot_told scope size s x four h =
    let b = bind_ok (number_at s) _ x h in
    let r = bind_ok (steps_at scope.depth b.0.0.1 b.0.1) _ x b.2 in
    let slot : Slot = record { base = b.0.0.0; steps = r.0.0.steps } in
    let n = number_told s b.0 b.1 in
    let t = steps_told scope.depth b.0.0.1 b.0.1 r.0 four r.1 in
    let q = passed (nat_le size (greatest scope.turns slot)) (refusal kinds.Slot r.0.0.line) (slot, r.0.1) x r.2 in
    subst (λ x. Eats (decimal x.0.base ∷ words_of (steps_pieces x.0.steps)) s x.1 × KeepsItem scope.turns scope.depth size x.0) q.1 (
      eats_join (decimal slot.base ∷ []) (words_of (steps_pieces slot.steps)) s b.0.1 r.0.1 n.0 t.1,
      record {
        within = record { below = leb-false size (greatest scope.turns slot) q.0; own = t.0.none; four = t.0.four };
        numbers = (n.1, t.0.small 0, t.0.small 1, t.0.small 2, t.0.small 3);
      },
    )

named_by : (b : Bool) (w v : List ℕ) (y a : Array) (o : Option Array) → bytes_eq w v ≡ b → array_name y ≡ v → (if b then Some y else o) ≡ Some a → (o ≡ Some a → w ≡ array_name a) → w ≡ array_name a
named_by true w v y a o e n h more = let same : y ≡ a = cc in (bytes_eq-Decides w v).0 e ∙ sym n ∙ ap array_name same
named_by false w v y a o e n h more = more h

array_back : (w : List ℕ) (a : Array) → array_named w ≡ Some a → w ≡ array_name a
array_back w a h =
    named_by (bytes_eq w (codes "X")) w (codes "X") X a _ refl refl h
    (λ h. named_by (bytes_eq w (codes "W")) w (codes "W") W a _ refl refl h
    (λ h. named_by (bytes_eq w (codes "T")) w (codes "T") T a _ refl refl h (λ h. named_by (bytes_eq w (codes "A")) w (codes "A") A a None refl refl h (λ h. cc))))

array_told : (s : Stream) (x : (Array × ℕ) × Stream) → array_at s ≡ Ok x → Eats (array_name x.0.0 ∷ []) s x.1
unfolding array_at
array_told s x h =
    let p = bind_ok (shift s) _ x h in
    let q = required_ok (array_named p.0.0.text) p.0.0.line p.0.1 x p.2 in
    subst (Eats (array_name x.0.0 ∷ []) s) q.1 (shifted s p.0 (array_name x.0.0) p.1 (array_back p.0.0.text x.0.0 q.0))

to_written : (a : Array) → written a ≡ true → (a ≡ T) ⊎ (a ≡ A)
to_written X h = cc
to_written W h = cc
to_written T h = inl refl
to_written A h = inr refl

module _ (z : Sizes) (turns : List ℕ) (depth : ℕ) (four : depth ≤ 4) where
  brackets_told : (array : Array) (s : Stream) (x : Place × Stream) → slot_of (scope_of z turns depth) array s ≡ Ok x
      → Eats (words_of (Sign (codes "[") ∷ slot_pieces x.0.slot ++ Sign (codes "]") ∷ [])) s x.1 × KeepsSource z turns depth x.0 × (x.0.array ≡ array)
  unfolding slot_of
  brackets_told array s x h =
      let o = bind_ok (expect (codes "[") s) _ x h in
      let r = bind_ok (slot_at (scope_of z turns depth) (size_in (scope_of z turns depth) array) o.0.1) _ x o.2 in
      let c = bind_ok (expect (codes "]") r.0.1) _ x r.2 in
      let place : Place = record { array = array; slot = r.0.0 } in
      let t = slot_told (scope_of z turns depth) (size_in (scope_of z turns depth) array) o.0.1 r.0 four r.1 in
      let e = ends (place, c.0.1) x c.2 in
      let eats =
      eats_join (codes "[" ∷ []) (words_of (slot_pieces r.0.0 ++ Sign (codes "]") ∷ [])) s o.0.1 c.0.1 (taken (codes "[") s o.0 o.1)
      (glue (slot_pieces r.0.0) (Sign (codes "]") ∷ []) o.0.1 r.0.1 c.0.1 t.0 (taken (codes "]") r.0.1 c.0 c.1)) in
      let within : IsSource z turns depth place = subst (λ k. IsSlot turns depth k r.0.0) (sym (same_size z turns depth array)) t.1.within in
      subst (λ x. Eats (words_of (Sign (codes "[") ∷ slot_pieces x.0.slot ++ Sign (codes "]") ∷ [])) s x.1 × KeepsSource z turns depth x.0 × (x.0.array ≡ array)) e
      (eats, record { within = within; numbers = t.1.numbers }, refl)

  pub source_told : (s : Stream) (x : Place × Stream) → source_at (scope_of z turns depth) s ≡ Ok x → Eats (words_of (place_pieces x.0)) s x.1 × KeepsSource z turns depth x.0
  unfolding source_at place_pieces
  source_told s x h =
      let p = bind_ok (expect (codes "&") s) _ x h in
      let a = bind_ok (array_at p.0.1) _ x p.2 in
      let n = array_told p.0.1 a.0 a.1 in
      let t = brackets_told a.0.0.0 a.0.1 x a.2 in
      let name = subst (λ b. Eats (array_name b ∷ []) p.0.1 a.0.1) (sym t.2) n in (
        eats_join (codes "&" ∷ []) _ s p.0.1 x.1 (taken (codes "&") s p.0 p.1) (eats_join (array_name x.0.array ∷ []) (words_of (Sign (codes "[") ∷ slot_pieces x.0.slot ++ Sign (codes "]") ∷ [])) p.0.1 a.0.1 x.1 name t.0),
        t.1,
      )

  pub target_told : (s : Stream) (x : Place × Stream) → target_at (scope_of z turns depth) s ≡ Ok x → Eats (words_of (place_pieces x.0)) s x.1 × KeepsTarget z turns depth x.0
  unfolding target_at place_pieces
  target_told s x h =
      let p = bind_ok (expect (codes "&") s) _ x h in
      let a = bind_ok (array_at p.0.1) _ x p.2 in
      let n = array_told p.0.1 a.0 a.1 in
      let w = held (written a.0.0.0) (refusal kinds.Syntax a.0.0.1) (slot_of (scope_of z turns depth) a.0.0.0 a.0.1) x a.2 in
      let t = brackets_told a.0.0.0 a.0.1 x w.1 in
      let name = subst (λ b. Eats (array_name b ∷ []) p.0.1 a.0.1) (sym t.2) n in (
        eats_join (codes "&" ∷ []) _ s p.0.1 x.1 (taken (codes "&") s p.0 p.1) (eats_join (array_name x.0.array ∷ []) (words_of (Sign (codes "[") ∷ slot_pieces x.0.slot ++ Sign (codes "]") ∷ [])) p.0.1 a.0.1 x.1 name t.0),
        record { within = (t.1.within, to_written x.0.array (ap written t.2 ∙ w.0)); numbers = t.1.numbers },
      )
