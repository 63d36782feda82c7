-- Statements that count nothing change nothing
use Rattle.std.proofs.Common.{◌≡◌, ℕ, zero, suc, ◌+◌, ◌*◌, refl, ◌∙◌, ap, arith, slice_set, List, [], ◌∷◌}
use Rattle.algebra.specs.Fraction.{Fraction}
use Rattle.c_unit.specs.declared.unit.CStmt.{CStmt, Set, Copy, Abs, Inv, Add, Sub, Mul, Load, For', Row_of-CStmt, end_of-CStmt, more_of-CStmt}
use Rattle.c_unit.specs.Meaning.{Slots, End, Going, counted, counted_row, counted_list, further, run_list, run_one, run_row, then_do, turns, deeper, written}

first_none : (m n : ℕ) → m + n ≡ 0 → m ≡ 0
first_none m n h = omega arith

second_none : (m n : ℕ) → m + n ≡ 0 → n ≡ 0
second_none m n h = omega arith

none_a_turn : (n k : ℕ) → suc n * k ≡ 0 → k ≡ 0
none_a_turn n k h = grind arith

idle_turns : (n i : ℕ) (body : ℕ → Slots → End) (s : Slots) → ((i : ℕ) → body i s ≡ Going s) → turns n i body s ≡ Going s
idle_turns zero i body s h = refl
idle_turns (suc n) i body s h = ap (λ e. then_do e (turns n (i + 1) body)) (h i) ∙ idle_turns n (i + 1) body s h

mutual
  pub idle_one : (c : CStmt) → counted c ≡ 0 → (ks : List (List Fraction)) (d : ℕ) (is : List ℕ) (s : Slots) → run_one c ks d is s ≡ Going s
  idle_one (Set to v) h ks d is s = absurd (omega arith)
  idle_one (Copy to p) h ks d is s = absurd (omega arith)
  idle_one (Abs to p) h ks d is s = absurd (omega arith)
  idle_one (Inv to p) h ks d is s = absurd (omega arith)
  idle_one (Add to p q) h ks d is s = absurd (omega arith)
  idle_one (Sub to p q) h ks d is s = absurd (omega arith)
  idle_one (Mul to p q) h ks d is s = absurd (omega arith)
  idle_one (Load to k at) h ks d is s = absurd (omega arith)
  idle_one (For' zero m body) h ks d is s = refl
  idle_one (For' (suc n) m body) h ks d is s =
      ap (further 1) (idle_turns (suc n) 0 (λ i. run_row body ks (deeper d) (slice_set is d i)) s (λ i. idle_row body (none_a_turn n (counted_row body) h) ks (deeper d) (slice_set is d i) s))

  pub idle_row : {m : _} (k : Row_of-CStmt m) → counted_row k ≡ 0 → (ks : List (List Fraction)) (d : ℕ) (is : List ℕ) (s : Slots) → run_row k ks d is s ≡ Going s
  idle_row end_of-CStmt h ks d is s = refl
  idle_row (more_of-CStmt c rest) h ks d is s =
      ap (λ e. then_do e (λ s'. further (written c) (run_row rest ks d is s'))) (idle_one c (first_none (counted c) (counted_row rest) h) ks d is s)
      ∙ ap (further (written c)) (idle_row rest (second_none (counted c) (counted_row rest) h) ks d is s)

pub idle_list : (cs : List CStmt) → counted_list cs ≡ 0 → (ks : List (List Fraction)) (d : ℕ) (is : List ℕ) (s : Slots) → run_list cs ks d is s ≡ Going s
idle_list [] h ks d is s = refl
idle_list (c ∷ cs) h ks d is s =
    ap (λ e. then_do e (λ s'. further (written c) (run_list cs ks d is s'))) (idle_one c (first_none (counted c) (counted_list cs) h) ks d is s)
    ∙ ap (further (written c)) (idle_list cs (second_none (counted c) (counted_list cs) h) ks d is s)
