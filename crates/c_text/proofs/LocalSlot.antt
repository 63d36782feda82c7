-- A slot number that has reached its size is refused whatever follows: further multiples only make it greater
use Rattle.std.proofs.Common.{◌≡◌, refl, sym, ◌∙◌, ap, subst, ℕ, zero, suc, ◌+◌, ◌-◌, ◌*◌, ◌<◌, ◌≤◌, ◌&&◌, ◌==◌, nat_le, nat_lt, Bool, true, false, if◌then◌else◌, List, [], ◌∷◌, ◌++◌, length, append_assoc, slice_index, slice_set, Ok, Err, inl, inr, ◌⊎◌, codes, arith, leb-true}
use Rattle.std.proofs.lemmas.Bool.{leb-false, eqb-true, eqb-false}
use Rattle.slices.specs.Tokens.{Token}
use Rattle.c_unit.specs.declared.unit.Slot.{Slot}
use Rattle.c_unit.specs.Rules.{greatest}
use Rattle.c_text.specs.declared.refusal.KernelRefusal.{KernelRefusal}
use Rattle.c_text.specs.declared.refusal.KernelKind.TheVariants as kinds
use Rattle.c_text.specs.declared.place.Scope.{Scope}
use Rattle.c_text.specs.declared.place.Steps.{Steps}
use Rattle.c_text.specs.Stream.{Stream, Read, ◌>>=◌, refusal, text_ahead, repeat_while}
use Rattle.c_text.specs.Places.{number_at, step_at, add_step, with_step, goes_on, no_steps, steps_at, slot_at}
use Rattle.c_text.proofs.Eats.{bind_ok}
use Rattle.c_text.proofs.PlaceTold.{ends, passed, step_told, set_other}
use Rattle.c_text.proofs.Local.{is_own, at, Local, Reads, Stops, at_token, Firm, Takes, gives, local_of, firm_test, OfHead, head_ahead, Where, first_part, second_part, refused_where, bind_same, first_stops, second_stops, behind, both_ok, no_value, no_refusal, ends_with, Goes, repeat_ok, local_repeat}
use Rattle.c_text.proofs.LocalReads.{firm_number, firm_step}

-- the counters from this one on have no multiples
abbrev Fresh : Steps → Type 0
Fresh a = (j : ℕ) → a.from ≤ j → slice_index a.steps j ≡ 0

abbrev Grown : Steps → Steps → Type 0
Grown a b = (j : ℕ) → slice_index a.steps j ≤ slice_index b.steps j

grown_by : (t : Bool) (xs : List ℕ) (c f j : ℕ) → (j == c) ≡ t → slice_index xs c ≡ 0 → slice_index xs j ≤ slice_index (slice_set xs c f) j
grown_by true xs c f j e z =
    let same : j ≡ c = eqb-true j c e in
    let none : slice_index xs j ≡ 0 = ap (slice_index xs) same ∙ z in
    omega (arith, none)
grown_by false xs c f j e z =
    let same : slice_index (slice_set xs c f) j ≡ slice_index xs j = set_other xs c f j (eqb-false j c e) in
    omega (arith, same)

fresh_step : (a : Steps) (f c line : ℕ) → Fresh a → a.from ≤ c → Fresh (with_step a (f, c, line))
fresh_step a f c line h l j k = set_other a.steps c f j (λ e. omega (arith, e, k)) ∙ h j (omega (arith, l, k))

grows_by : (depth n : ℕ) (t : Bool) (a : Steps) (s : Stream) (x : Steps × Stream) → Fresh a
    → (if t then (add_step depth a s >>= λ x. repeat_while (goes_on depth) (add_step depth) n x.0 x.1) else Ok (a, s)) ≡ Ok x
    → ((b : Steps) (r : Stream) → Fresh b → repeat_while (goes_on depth) (add_step depth) n b r ≡ Ok x → Fresh x.0 × Grown b x.0) → Fresh x.0 × Grown a x.0
grows_by depth n false a s x h e again = subst (λ y. Fresh y.0 × Grown a y.0) (ends (a, s) x e) (h, λ j. omega arith)
grows_by depth n true a s x h e again =
    let p = bind_ok (add_step depth a s) _ x e in
    let q = bind_ok (step_at a.from depth s) _ p.0 p.1 in
    let t = step_told a.from depth s q.0 q.1 in
    let same = ends (with_step a q.0.0, q.0.1) p.0 q.2 in
    let next = again (with_step a q.0.0) q.0.1 (fresh_step a q.0.0.0 q.0.0.1 q.0.0.2 h t.3) (subst (λ y. repeat_while (goes_on depth) (add_step depth) n y.0 y.1 ≡ Ok x) (sym same) p.2) in
    (next.0, λ j. let first = grown_by (j == q.0.0.1) a.steps q.0.0.1 q.0.0.0 j refl (h q.0.0.1 t.3) in let rest = next.1 j in omega (arith, first, rest))

grows : (depth n : ℕ) (a : Steps) (s : Stream) (x : Steps × Stream) → Fresh a → repeat_while (goes_on depth) (add_step depth) n a s ≡ Ok x → Fresh x.0 × Grown a x.0
unfolding repeat_while
grows depth zero a s x h e = subst (λ y. Fresh y.0 × Grown a y.0) (ends (a, s) x e) (h, λ j. omega arith)
grows depth (suc n) a s x h e = grows_by depth n (goes_on depth a s) a s x h e (λ b r k w. grows depth n b r x k w)

abbrev slot_with : ℕ → Steps → Slot
slot_with base a = record { base = base; steps = a.steps }

times_more : (m n k : ℕ) → m ≤ n → m * k ≤ n * k
times_more m n k h = grind arith

greater : (turns : List ℕ) (base : ℕ) (a b : Steps) → Grown a b → greatest turns (slot_with base a) ≤ greatest turns (slot_with base b)
unfolding greatest
greater turns base a b h =
    let p0 = times_more (slice_index a.steps 0) (slice_index b.steps 0) (slice_index turns 0 - 1) (h 0) in
    let p1 = times_more (slice_index a.steps 1) (slice_index b.steps 1) (slice_index turns 1 - 1) (h 1) in
    let p2 = times_more (slice_index a.steps 2) (slice_index b.steps 2) (slice_index turns 2 - 1) (h 2) in
    let p3 = times_more (slice_index a.steps 3) (slice_index b.steps 3) (slice_index turns 3 - 1) (h 3) in
    omega (arith, p0, p1, p2, p3)

still_too_great : (turns : List ℕ) (base size : ℕ) (a b : Steps) → Grown a b → nat_le size (greatest turns (slot_with base a)) ≡ true → nat_le size (greatest turns (slot_with base b)) ≡ false → ⊥
still_too_great turns base size a b h e f =
    let more = greater turns base a b h in
    let low = leb-true size (greatest turns (slot_with base a)) e in
    let high = leb-false size (greatest turns (slot_with base b)) f in
    omega (arith, more, low, high)

abbrev start : ℕ → Steps
start line = record { steps = no_steps; from = 0; line = line }

start_fresh : (line : ℕ) → Fresh (start line)
start_fresh line zero h = refl
start_fresh line (suc zero) h = refl
start_fresh line (suc (suc zero)) h = refl
start_fresh line (suc (suc (suc zero))) h = refl
start_fresh line (suc (suc (suc (suc j)))) h = refl

-- ---- the multiples

firm_add : (depth : ℕ) (a : Steps) → Firm (λ b k. b.line ≡ k) (λ s. add_step depth a s)
firm_add depth a = firm_test (firm_step a.from depth) _ (λ x line h. gives (with_step a x) h (λ s. refl))

head_more : (depth : ℕ) (a : Steps) → OfHead (λ s. goes_on depth a s)
head_more depth a ts us x y h = ap (λ b. b && nat_lt a.from depth) (head_ahead (codes "+") ts us x y h)

none_more : (depth : ℕ) (a : Steps) (x : KernelRefusal) → goes_on depth a (at [] x) ≡ false
unfolding text_ahead
none_more depth a x = refl

local_steps : (depth line : ℕ) → Local (λ s. steps_at depth line s)
unfolding steps_at
local_steps depth line = local_repeat (goes_on depth) (add_step depth) (head_more depth) (none_more depth) (firm_add depth) (start line)

module _ (scope : Scope) (size : ℕ) where
  abbrev tested : ℕ → Steps × Stream → Read Slot
  tested base r = if nat_le size (greatest scope.turns (slot_with base r.0)) then Err (refusal kinds.Slot r.0.line) else Ok (slot_with base r.0, r.1)

  abbrev rest : (ℕ × ℕ) × Stream → Read Slot
  rest b = steps_at scope.depth b.0.1 b.1 >>= tested b.0.0

  tested_ok : (t : Bool) (e : KernelRefusal) (v : Slot) (ts : List Token) (end : KernelRefusal) (b : Slot) (r : Stream) → ◌≡◌ {A = Read Slot} (if t then Err e else Ok (v, at ts end)) (Ok (b, r))
      → Reads {A = Slot} (λ s. if t then Err e else Ok (v, s)) ts end b r
  tested_ok true e v ts end b r h = absurd (no_value {A = Slot × Stream} e (b, r) h)
  tested_ok false e v ts end b r h = subst (λ x. Reads {A = Slot} (λ s. Ok (v, s)) ts end x.0 x.1) (ends (v, at ts end) (b, r) h) (record { taken = []; all = refl; kept = refl; same = λ q x s. refl })

  rest_ok : (b : ℕ × ℕ) (ts : List Token) (end : KernelRefusal) (v : Slot) (r : Stream) → rest (b, at ts end) ≡ Ok (v, r) → Reads (λ s. rest (b, s)) ts end v r
  rest_ok b = both_ok (λ s. steps_at scope.depth b.1 s) (tested b.0) (local_steps scope.depth b.1) (λ a. tested_ok (nat_le size (greatest scope.turns (slot_with b.0 a))) (refusal kinds.Slot a.line) (slot_with b.0 a))

  -- nothing is read where the multiples so far are too great
  never_again : (b : ℕ × ℕ) (a : Steps) (s : Stream) (k : ℕ) (q : Stream) → Fresh a → nat_le size (greatest scope.turns (slot_with b.0 a)) ≡ true
      → steps_at scope.depth b.1 s ≡ repeat_while (goes_on scope.depth) (add_step scope.depth) k a q → (x : Slot × Stream) → rest (b, s) ≡ Ok x → ⊥
  never_again b a s k q h e w x j =
      let p = bind_ok (steps_at scope.depth b.1 s) (tested b.0) x j in
      let g = grows scope.depth k a q p.0 h (sym w ∙ p.1) in
      let o = passed (nat_le size (greatest scope.turns (slot_with b.0 p.0.0))) (refusal kinds.Slot p.0.0.line) (slot_with b.0 p.0.0, p.0.1) x p.2 in
      still_too_great scope.turns b.0 size a p.0.0 g.1 e o.0

  test_err : (t : Bool) (y e : KernelRefusal) (v : Slot × Stream) → ◌≡◌ {A = Read Slot} (if t then Err y else Ok v) (Err e) → (t ≡ true) × (y ≡ e)
  test_err true y e v h = (refl, ends_with {A = Slot × Stream} y e h)
  test_err false y e v h = absurd (no_refusal {A = Slot × Stream} v e h)

  abbrev Going : ℕ → List Token → KernelRefusal → Steps → Stream → Type 0
  Going line ts end a r = Goes (goes_on scope.depth) (add_step scope.depth) (head_more scope.depth) (none_more scope.depth) (firm_add scope.depth) (start line) ts end a r

  -- the number, the multiples behind it, and that the slot number is too great
  too_great : (ts : List Token) (end e : KernelRefusal) (b : ℕ × ℕ) (m : Stream) (a : Steps) (r : Stream) → Takes (λ x k. x.1 ≡ k) (λ s. number_at s) ts end b m → Going b.1 m.tokens end a r → Fresh a
      → nat_le size (greatest scope.turns (slot_with b.0 a)) ≡ true → e ≡ refusal kinds.Slot a.line → Stops (λ s. slot_at scope size s) ts end e
  unfolding slot_at steps_at
  too_great ts end e b m a r t g h v w = elim g.last [
    | inl none ↦
        at_token t.before t.last m.tokens t.all (ap (λ x. x.line) w ∙ ap (λ x. x.line) (sym none.1) ∙ t.line) (ap (λ x. is_own x.kind) w)
        (λ q y x j.
        never_again b a (at q y) (length q) (at q y) h v (ap (λ x. repeat_while (goes_on scope.depth) (add_step scope.depth) (length q) x (at q y)) none.1) x
        (sym (bind_same (number_at (at (t.before ++ t.last ∷ q) y)) (b, at q y) rest (t.same q y)) ∙ j))
    | inr some ↦
        let p = some.0 in
        let u = some.1 in
        at_token (t.before ++ t.last ∷ p) u r.tokens
        (t.all ∙ ap (λ l. t.before ++ t.last ∷ l) (g.all ∙ ap (λ l. l ++ r.tokens) some.2 ∙ append_assoc p (u ∷ []) r.tokens) ∙ sym (append_assoc t.before (t.last ∷ p) (u ∷ r.tokens)))
        (ap (λ x. x.line) w ∙ some.3) (ap (λ x. is_own x.kind) w)
        (λ q y x j.
        let flat : p ++ u ∷ q ≡ g.taken ++ q = sym (ap (λ l. l ++ q) some.2 ∙ append_assoc p (u ∷ []) q) in
        let i = g.resumes q y (length (g.taken ++ q)) (omega arith) in
        never_again b a (at (p ++ u ∷ q) y) i.0 (at q y) h v (ap (λ l. repeat_while (goes_on scope.depth) (add_step scope.depth) (length l) (start b.1) (at l y)) flat ∙ i.2) x
        (sym (bind_same (number_at (at (t.before ++ t.last ∷ (p ++ u ∷ q)) y)) (b, at (p ++ u ∷ q) y) rest (t.same (p ++ u ∷ q) y))
        ∙ ap (λ l. slot_at scope size (at l y)) (sym (append_assoc t.before (t.last ∷ p) (u ∷ q))) ∙ j))
  ]

  steps_going : (line : ℕ) (ts : List Token) (end : KernelRefusal) (a : Steps) (r : Stream) → steps_at scope.depth line (at ts end) ≡ Ok (a, r) → Going line ts end a r × Fresh a
  unfolding steps_at
  steps_going line ts end a r h = (
    repeat_ok (goes_on scope.depth) (add_step scope.depth) (head_more scope.depth) (none_more scope.depth) (firm_add scope.depth) (length ts) (start line) ts end a r (omega arith) h,
    (grows scope.depth (length ts) (start line) (at ts end) (a, r) (start_fresh line) h).0,
  )

  slot_err : (ts : List Token) (end e : KernelRefusal) → slot_at scope size (at ts end) ≡ Err e → Stops (λ s. slot_at scope size s) ts end e
  unfolding slot_at
  slot_err ts end e h = elim (refused_where (number_at (at ts end)) rest e h) [
    | first_part w ↦ first_stops (λ s. number_at s) rest ts end e (firm_number.err ts end e w)
    | second_part b w v ↦
        let t = firm_number.ok ts end b.0 b.1 w in
        let o = (local_of (λ s. number_at s) firm_number).ok ts end b.0 b.1 w in
        let m : b.1 ≡ at b.1.tokens end = behind (λ s. number_at s) rest ts end b.0 b.1 o in
        elim (refused_where (steps_at scope.depth b.0.1 (at b.1.tokens end)) (tested b.0.0) e (ap (λ x. rest (b.0, x)) (sym m) ∙ v)) [
          | first_part i ↦
              second_stops (λ s. number_at s) rest ts end e b.0 b.1 o
              (first_stops (λ s. steps_at scope.depth b.0.1 s) (tested b.0.0) b.1.tokens end e ((local_steps scope.depth b.0.1).err b.1.tokens end e i))
          | second_part a i j ↦
              let g = steps_going b.0.1 b.1.tokens end a.0 a.1 i in
              let c = test_err (nat_le size (greatest scope.turns (slot_with b.0.0 a.0))) (refusal kinds.Slot a.0.line) e (slot_with b.0.0 a.0, a.1) j in
              too_great ts end e b.0 b.1 a.0 a.1 t g.0 g.1 c.0 (sym c.1)
        ]
  ]

  pub local_slot : Local (λ s. slot_at scope size s)
  unfolding slot_at
  local_slot = record { ok = both_ok (λ s. number_at s) rest (local_of (λ s. number_at s) firm_number) rest_ok; err = slot_err }
