-- What is left of a run within a block
use Rattle.std.proofs.Common.{◌≡◌, ℕ, suc, ◌+◌, ◌-◌, ◌<◌, ◌≤◌, refl, sym, ◌∙◌, ap, ap₂, arith, length, drop, drop-cons, take, get_or, slice_set, List, [], ◌∷◌, Bool, true, false}
use Rattle.algebra.specs.Fraction.{Fraction}
use Rattle.c_unit.specs.declared.unit.CStmt.{CStmt}
use Rattle.c_unit.specs.declared.unit.CStmt.TheViews as View
use Rattle.c_unit.specs.Meaning.{Slots, End, Going, counted, counted_list, deeper, further, run_list, run_one, run_one-For, then_do, turns, written, written-For, written_list}
use Rattle.c_run.specs.declared.ret.Ret.{Ret}
use Rattle.c_run.specs.Answer.{end_of, is_good, number, numbered}
use Rattle.c_run.proofs.Ends.{further-further, further-zero, numbered-further, numbered_count, stopped, stopped_at, then_further, went_on, went_on_at}
use Rattle.c_run.proofs.Counts.{one_more_written}
use Rattle.c_run.proofs.Idle.{idle_one, idle_list}

-- one turn of a loop
abbrev pub turn : List CStmt → List (List Fraction) → ℕ → List ℕ → ℕ → Slots → End
turn inner ks d is i = run_list inner ks (deeper d) (slice_set is d i)

-- what is left from statement k on
abbrev pub left_at : List CStmt → List (List Fraction) → ℕ → List ℕ → ℕ → Slots → End
left_at body ks d is k s = further (written_list (take k body)) (run_list (drop k body) ks d is s)

-- what is left from turn i of n on, where statement k is a loop over `inner`
abbrev pub left_in : List CStmt → List (List Fraction) → ℕ → List ℕ → ℕ → List CStmt → ℕ → ℕ → Slots → End
left_in body ks d is k inner n i s =
    further (written_list (take k body)) (then_do (further 1 (turns (n - i) i (turn inner ks d is) s)) (λ s'. further (1 + written_list inner) (run_list (drop (k + 1) body) ks d is s')))

pub next : (body : List CStmt) (k : ℕ) (c : CStmt) → k < length body → c ≡ get_or body k c → drop k body ≡ c ∷ drop (k + 1) body
next body k c h e = drop-cons body k c h ∙ ap₂ (λ x n. x ∷ drop n body) (sym e) (after k)
  where
    after : (k : ℕ) → suc k ≡ k + 1
    after k = omega arith

pub starts : (body : List CStmt) (ks : List (List Fraction)) (d : ℕ) (is : List ℕ) (s : Slots) → run_list body ks d is s ≡ left_at body ks d is 0 s
starts body ks d is s = sym (further-zero (run_list body ks d is s))

opened : (body : List CStmt) (ks : List (List Fraction)) (d : ℕ) (is : List ℕ) (k : ℕ) (s : Slots) (c : CStmt) → k < length body → c ≡ get_or body k c
    → left_at body ks d is k s ≡ further (written_list (take k body)) (then_do (run_one c ks d is s) (λ s'. further (written c) (run_list (drop (k + 1) body) ks d is s')))
opened body ks d is k s c h e = ap (λ l. further (written_list (take k body)) (run_list l ks d is s)) (next body k c h e)

closed : (body : List CStmt) (ks : List (List Fraction)) (d : ℕ) (is : List ℕ) (k : ℕ) (s : Slots) (c : CStmt) → k < length body → c ≡ get_or body k c
    → further (written_list (take k body)) (further (written c) (run_list (drop (k + 1) body) ks d is s)) ≡ left_at body ks d is (k + 1) s
closed body ks d is k s c h e =
    further-further (written_list (take k body)) (written c) (run_list (drop (k + 1) body) ks d is s)
    ∙ ap (λ n. further n (run_list (drop (k + 1) body) ks d is s)) (sym (one_more_written body k c h e))

pub statement_done : (body : List CStmt) (ks : List (List Fraction)) (d : ℕ) (is : List ℕ) (k : ℕ) (s s' : Slots) (c : CStmt) (r : Ret) → k < length body → c ≡ get_or body k c
    → end_of r s' ≡ run_one c ks d is s → is_good r ≡ true → left_at body ks d is k s ≡ left_at body ks d is (k + 1) s'
statement_done body ks d is k s s' c r h e f g =
    opened body ks d is k s c h e
    ∙ ap (λ x. further (written_list (take k body)) (then_do x (λ s'. further (written c) (run_list (drop (k + 1) body) ks d is s')))) (sym f ∙ went_on_at r s' g)
    ∙ closed body ks d is k s' c h e

pub statement_stops : (body : List CStmt) (ks : List (List Fraction)) (d : ℕ) (is : List ℕ) (k : ℕ) (s s' : Slots) (c : CStmt) (r : Ret) → k < length body → c ≡ get_or body k c
    → end_of r s' ≡ run_one c ks d is s → is_good r ≡ false → numbered (left_at body ks d is k s) ≡ numbered (further (number (written_list (take k body))) (end_of r s'))
statement_stops body ks d is k s s' c r h e f g =
    ap numbered
    (opened body ks d is k s c h e
    ∙ ap (λ x. further (written_list (take k body)) (then_do x (λ s'. further (written c) (run_list (drop (k + 1) body) ks d is s')))) (sym f)
    ∙ ap (further (written_list (take k body))) (stopped_at r s' _ g))
    ∙ sym (numbered_count (written_list (take k body)) (end_of r s'))

pub idle_passed : (body : List CStmt) (ks : List (List Fraction)) (d : ℕ) (is : List ℕ) (k : ℕ) (s : Slots) (c : CStmt) → k < length body → c ≡ get_or body k c → counted c ≡ 0
    → left_at body ks d is k s ≡ left_at body ks d is (k + 1) s
idle_passed body ks d is k s c h e z =
    opened body ks d is k s c h e
    ∙ ap (λ x. further (written_list (take k body)) (then_do x (λ s'. further (written c) (run_list (drop (k + 1) body) ks d is s')))) (idle_one c z ks d is s)
    ∙ closed body ks d is k s c h e

pub nothing_left : (body : List CStmt) (ks : List (List Fraction)) (d : ℕ) (is : List ℕ) (k : ℕ) (s : Slots) → counted_list (drop k body) ≡ 0 → left_at body ks d is k s ≡ Going s
nothing_left body ks d is k s h = ap (further (written_list (take k body))) (idle_list (drop k body) h ks d is s)

pub loop_begins : (body : List CStmt) (ks : List (List Fraction)) (d : ℕ) (is : List ℕ) (k : ℕ) (s : Slots) (c : CStmt) (n : ℕ) (inner : List CStmt) → k < length body → c ≡ get_or body k c → c ≡ View.For n inner
    → left_at body ks d is k s ≡ left_in body ks d is k inner n 0 s
loop_begins body ks d is k s c n inner h e f =
    opened body ks d is k s c h e
    ∙ ap (λ x. further (written_list (take k body)) (then_do (run_one x ks d is s) (λ s'. further (written x) (run_list (drop (k + 1) body) ks d is s')))) f
    ∙ ap₂ (λ x j. further (written_list (take k body)) (then_do x (λ s'. further j (run_list (drop (k + 1) body) ks d is s'))))
    (run_one-For n inner ks d is s ∙ ap (λ j. further 1 (turns j 0 (turn inner ks d is) s)) (whole n))
    (written-For n inner)
  where
    whole : (m : ℕ) → m ≡ m - 0
    whole m = omega arith

pub loop_ends : (body : List CStmt) (ks : List (List Fraction)) (d : ℕ) (is : List ℕ) (k : ℕ) (s : Slots) (c : CStmt) (n : ℕ) (inner : List CStmt) (i : ℕ) → k < length body → c ≡ get_or body k c → c ≡ View.For n inner
    → n ≤ i → left_in body ks d is k inner n i s ≡ left_at body ks d is (k + 1) s
loop_ends body ks d is k s c n inner i h e f g =
    ap (λ j. further (written_list (take k body)) (then_do (further 1 (turns j i (turn inner ks d is) s)) (λ s'. further (1 + written_list inner) (run_list (drop (k + 1) body) ks d is s')))) (none n i g)
    ∙ ap (λ j. further (written_list (take k body)) (further j (run_list (drop (k + 1) body) ks d is s))) (sym (ap written f ∙ written-For n inner))
    ∙ closed body ks d is k s c h e
  where
    none : (m i : ℕ) → m ≤ i → m - i ≡ 0
    none m i h = omega arith

turn_opens : (n i : ℕ) (body : ℕ → Slots → End) (s : Slots) → i < n → turns (n - i) i body s ≡ then_do (body i s) (turns (n - (i + 1)) (i + 1) body)
turn_opens n i body s h = ap (λ k. turns k i body s) (one_less n i h)
  where
    one_less : (n i : ℕ) → i < n → n - i ≡ suc (n - (i + 1))
    one_less n i h = omega arith

pub turn_done : (body : List CStmt) (ks : List (List Fraction)) (d : ℕ) (is : List ℕ) (k : ℕ) (inner : List CStmt) (n i : ℕ) (s s' : Slots) (r : Ret) → i < n
    → end_of r s' ≡ numbered (turn inner ks d is i s) → is_good r ≡ true → left_in body ks d is k inner n i s ≡ left_in body ks d is k inner n (i + 1) s'
turn_done body ks d is k inner n i s s' r h e g =
    ap (λ x. further (written_list (take k body)) (then_do (further 1 x) (λ s'. further (1 + written_list inner) (run_list (drop (k + 1) body) ks d is s'))))
    (turn_opens n i (turn inner ks d is) s h ∙ ap (λ x. then_do x (turns (n - (i + 1)) (i + 1) (turn inner ks d is))) (went_on (turn inner ks d is i s) r s' (sym e) g))

pub turn_stops : (body : List CStmt) (ks : List (List Fraction)) (d : ℕ) (is : List ℕ) (k : ℕ) (inner : List CStmt) (n i : ℕ) (s s' : Slots) (r : Ret) → i < n
    → end_of r s' ≡ numbered (turn inner ks d is i s) → is_good r ≡ false
    → numbered (left_in body ks d is k inner n i s) ≡ numbered (further (number (written_list (take k body))) (numbered (further 1 (end_of r s'))))
turn_stops body ks d is k inner n i s s' r h e g =
    let E : End = turn inner ks d is i s in
    ap (λ x. numbered (further (written_list (take k body)) x))
    (ap (λ x. then_do (further 1 x) (λ s'. further (1 + written_list inner) (run_list (drop (k + 1) body) ks d is s'))) (turn_opens n i (turn inner ks d is) s h ∙ stopped E r s' _ (sym e) g)
    ∙ then_further E r s' 1 _ (sym e) g)
    ∙ sym (numbered-further (written_list (take k body)) (further 1 E))
    ∙ ap (λ x. numbered (further (number (written_list (take k body))) x)) (sym (numbered-further 1 E) ∙ ap (λ x. numbered (further 1 x)) (sym e))
