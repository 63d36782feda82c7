-- What is listed of a block, and what a run of it is from an entry on
use Rattle.std.proofs.Common.{◌≡◌, ℕ, zero, suc, ◌+◌, ◌-◌, ◌*◌, ◌<◌, ◌≤◌, refl, sym, ◌∙◌, ap, subst, arith, length, drop, drop-cons, take, get_or, set, List, [], ◌∷◌, ◌++◌, Bool, true, false, Result, Ok, Err, OnOk}
use Rattle.std.proofs.lemmas.List.{length-drop, append-nil, drop_all}
use Rattle.std.proofs.Math.Seq.{take-append_seam, drop-append_seam, set-append_seam}
use Rattle.algebra.specs.Fraction.{Fraction}
use Rattle.c_unit.specs.declared.unit.CStmt.{CStmt, Set, Copy, Abs, Inv, Add, Sub, Mul, Load, For', items_hidden-the_row-CStmt-0}
use Rattle.c_unit.specs.declared.unit.CStmt.TheViews as View
use Rattle.c_unit.specs.Meaning.{Slots, counted, counted-For, counted_list}
use Rattle.c_run.specs.declared.busy.Busy.{Busy}
use Rattle.c_run.specs.Answer.{is_loop}
use Rattle.c_run.specs.Busy.{inner_of, entry, IsListed, all_listed, passed_over, listed, with_inside, AddsBlock, AddsLoop, AddsStatement}
use Rattle.c_run.proofs.Counts.{one_counted}
use Rattle.c_run.proofs.Runs.{left_at, idle_passed, next}

pub inner-For : (n : ℕ) (body : List CStmt) → inner_of (View.For n body) ≡ body
inner-For n body = items_hidden-the_row-CStmt-0 body

inner_none : (c : CStmt) → is_loop c ≡ false → inner_of c ≡ []
inner_none (Set to v) h = refl
inner_none (Copy to p) h = refl
inner_none (Abs to p) h = refl
inner_none (Inv to p) h = refl
inner_none (Add to p q) h = refl
inner_none (Sub to p q) h = refl
inner_none (Mul to p q) h = refl
inner_none (Load to k at) h = refl
inner_none (For' n m body) h = cc

pub none_listed : {k : ℕ} {cs : List CStmt} → IsListed k cs [] → counted_list cs ≡ 0
none_listed all_listed = refl
none_listed (passed_over h rest) = let r = none_listed rest in omega (arith, h, r)

some_listed : {k : ℕ} {cs : List CStmt} {e : Busy} {es : List Busy} → IsListed k cs (e ∷ es) → 0 < counted_list cs
some_listed (passed_over h rest) = let r = some_listed rest in omega (arith, r)
some_listed (listed h inside rest) = omega (arith, h)

-- ---- listing

pub one_listed : (k : ℕ) (c : CStmt) → is_loop c ≡ false → (cs : List CStmt) (more : List Busy) → IsListed (k + 1) cs more → IsListed k (c ∷ cs) (entry k 0 ∷ more)
one_listed k c h cs more rest =
    let one = one_counted c h in
    listed {inside = []} (omega (arith, one)) (subst (λ b. IsListed 0 b []) (sym (inner_none c h)) all_listed) rest

times_none : (n : ℕ) → n * 0 ≡ 0
times_none n = grind arith

none_times : (n : ℕ) → 0 * n ≡ 0
none_times n = grind arith

times_some : (n k : ℕ) → 0 < n → 0 < k → 0 < n * k
times_some n k h g = grind arith

pub no_turns_listed : (k : ℕ) (c : CStmt) (n : ℕ) (inner : List CStmt) → c ≡ View.For n inner → n ≡ 0 → (cs : List CStmt) (more : List Busy) → IsListed (k + 1) cs more → IsListed k (c ∷ cs) more
no_turns_listed k c n inner e z cs more rest = passed_over (ap counted e ∙ counted-For n inner ∙ ap (λ m. m * counted_list inner) z ∙ none_times (counted_list inner)) rest

pub loop_listed : (k : ℕ) (c : CStmt) (n : ℕ) (inner : List CStmt) (inside : List Busy) → c ≡ View.For n inner → 0 < n → IsListed 0 inner inside → (cs : List CStmt) (more : List Busy) → IsListed (k + 1) cs more
    → IsListed k (c ∷ cs) (with_inside k inside ++ more)
loop_listed k c n inner [] e h i cs more rest = passed_over (ap counted e ∙ counted-For n inner ∙ ap (λ m. n * m) (none_listed i) ∙ times_none n) rest
loop_listed k c n inner (x ∷ inside) e h i cs more rest =
    let count : counted c ≡ n * counted_list inner = ap counted e ∙ counted-For n inner in
    listed {inside = x ∷ inside} (subst (λ m. 0 < m) (sym count) (times_some n (counted_list inner) h (some_listed i)))
    (subst (λ b. IsListed 0 b (x ∷ inside)) (sym (ap inner_of e ∙ inner-For n inner)) i) rest

-- ---- runs

-- What is read off an entry: the run from statement k on is the run from its statement on, and the entries behind it are
-- those of its body and those of the statements behind it.
pub record Opens (body : List CStmt) (k : ℕ) (e : Busy) (behind : List Busy) : Type 0 where
  pub below : e.index < length body
  pub fits : e.inside ≤ length behind
  pub same : (ks : List (List Fraction)) (d : ℕ) (is : List ℕ) (s : Slots) → left_at body ks d is k s ≡ left_at body ks d is e.index s
  pub within : (c : CStmt) → c ≡ get_or body e.index c → IsListed 0 (inner_of c) (take e.inside behind)
  pub rest : IsListed (e.index + 1) (drop (e.index + 1) body) (drop e.inside behind)

record Here (body : List CStmt) (k : ℕ) (c : CStmt) (cs : List CStmt) : Type 0 where
  below : k < length body
  own : (x : CStmt) → x ≡ get_or body k x → x ≡ c
  rest : cs ≡ drop (k + 1) body

here : (body : List CStmt) (k : ℕ) (c : CStmt) (cs : List CStmt) → c ∷ cs ≡ drop k body → Here body k c cs
here body k c cs e =
    let long : suc (length cs) ≡ length body - k = ap length e ∙ length-drop k body in
    let below : k < length body = omega (arith, long) in
    record {
      below = below;
      own = λ x f. f ∙ sym (ap (λ l. get_or l 0 c) (e ∙ drop-cons body k x below));
      rest = ap (drop 1) (e ∙ drop-cons body k c below) ∙ ap (λ n. drop n body) (after k);
    }
  where
    after : (k : ℕ) → suc k ≡ k + 1
    after k = omega arith

pub opens : {k : ℕ} {cs : List CStmt} {e : Busy} {behind : List Busy} → IsListed k cs (e ∷ behind) → (body : List CStmt) → cs ≡ drop k body → Opens body k e behind
opens {k} (passed_over {c = c} {cs = cs} h rest) body f =
    let p = here body k c cs f in
    let o = opens rest body p.rest in
    record {
      below = o.below;
      fits = o.fits;
      same = λ ks d is s. idle_passed body ks d is k s c p.below (sym (own_again body k c cs f)) h ∙ o.same ks d is s;
      within = o.within;
      rest = o.rest;
    }
  where
    own_again : (body : List CStmt) (k : ℕ) (c : CStmt) (cs : List CStmt) → c ∷ cs ≡ drop k body → get_or body k c ≡ c
    own_again body k c cs e = let long : suc (length cs) ≡ length body - k = ap length e ∙ length-drop k body in sym (ap (λ l. get_or l 0 c) (e ∙ drop-cons body k c (omega (arith, long))))
opens {k} (listed {c = c} {cs = cs} {inside = inside} {es = es} h i rest) body f =
    let p = here body k c cs f in
    record {
      below = p.below;
      fits = long inside es;
      same = λ ks d is s. refl;
      within = λ x g. subst (λ b. IsListed 0 (inner_of b) (take (length inside) (inside ++ es))) (sym (p.own x g)) (subst (IsListed 0 (inner_of c)) (sym (take-append_seam inside es)) i);
      rest = subst (λ b. IsListed (k + 1) b (drop (length inside) (inside ++ es))) p.rest (subst (IsListed (k + 1) cs) (sym (drop-append_seam inside es)) rest);
    }
  where
    long : (xs ys : List Busy) → length xs ≤ length (xs ++ ys)
    long [] ys = omega arith
    long (x ∷ xs) ys = let l = long xs ys in omega (arith, l)

-- ---- the entry of a loop

pub nothing_inside : (front : List Busy) (e : Busy) (inside : List Busy) (at : ℕ) → length front ≡ at → length (front ++ e ∷ inside) - at - 1 ≡ 0 → take at (front ++ e ∷ inside) ≡ front ++ with_inside e.index inside
nothing_inside front e [] at h z = subst (λ n. take n (front ++ e ∷ []) ≡ front ++ []) h (take-append_seam front (e ∷ []) ∙ sym (append-nil front))
nothing_inside front e (x ∷ inside) at h z = let l = long front e x inside in absurd (omega (arith, h, z, l))
  where
    long : (front : List Busy) (e x : Busy) (inside : List Busy) → length (front ++ e ∷ x ∷ inside) ≡ length front + suc (suc (length inside))
    long [] e x inside = omega arith
    long (f ∷ front) e x inside = let l = long front e x inside in omega (arith, l)

pub some_inside : (front : List Busy) (e : Busy) (inside : List Busy) (at : ℕ) → length front ≡ at → (length (front ++ e ∷ inside) - at - 1 ≡ 0 → ⊥)
    → set (front ++ e ∷ inside) at (entry e.index (length (front ++ e ∷ inside) - at - 1)) ≡ front ++ with_inside e.index inside
some_inside front e [] at h z = let l = alone front e in absurd (z (omega (arith, h, l)))
  where
    alone : (front : List Busy) (e : Busy) → length (front ++ e ∷ []) ≡ length front + 1
    alone [] e = omega arith
    alone (f ∷ front) e = let l = alone front e in omega (arith, l)
some_inside front e (x ∷ inside) at h z =
    let l = long front e (x ∷ inside) in
    let count : length (front ++ e ∷ x ∷ inside) - at - 1 ≡ length (x ∷ inside) = omega (arith, h, l) in
    ap (λ n. set (front ++ e ∷ x ∷ inside) n (entry e.index (length (front ++ e ∷ x ∷ inside) - at - 1))) (sym h)
    ∙ set-append_seam front e (x ∷ inside) (entry e.index (length (front ++ e ∷ x ∷ inside) - at - 1))
    ∙ ap (λ n. front ++ entry e.index n ∷ x ∷ inside) count
  where
    long : (front : List Busy) (e : Busy) (inside : List Busy) → length (front ++ e ∷ inside) ≡ length front + suc (length inside)
    long [] e inside = omega arith
    long (f ∷ front) e inside = let l = long front e inside in omega (arith, l)

pub at_seam : (front : List Busy) (e d : Busy) (inside : List Busy) → get_or (front ++ e ∷ inside) (length front) d ≡ e
at_seam [] e d inside = refl
at_seam (f ∷ front) e d inside = at_seam front e d inside

-- ---- the statements of a block

pub all_are_listed : (body : List CStmt) (k : ℕ) → length body ≤ k → IsListed k (drop k body) []
all_are_listed body k h = subst (λ b. IsListed k b []) (sym (drop_all k body h)) all_listed

pub next_listed : (body : List CStmt) (k : ℕ) (c : CStmt) (es : List Busy) → k < length body → c ≡ get_or body k c → IsListed k (c ∷ drop (k + 1) body) es → IsListed k (drop k body) es
next_listed body k c es h e l = subst (λ b. IsListed k b es) (sym (next body k c h e)) l

pub statement_added : {X E : Type 0} (r : Result X E) (index : ℕ) (c : CStmt) (n : ℕ) (inner : List CStmt) (old new : List Busy) → c ≡ View.For n inner → 0 < n → OnOk r (AddsLoop index inner old new) → OnOk r (AddsStatement index c old new)
statement_added (Ok x) index c n inner old new e h a = (with_inside index a.0, a.1, λ cs more rest. loop_listed index c n inner a.0 e h a.2 cs more rest)
statement_added (Err x) index c n inner old new e h a = tt

pub opened_at : (body : List CStmt) (list : List Busy) (k : ℕ) (e : Busy) (behind : List Busy) → IsListed k (drop k body) list → list ≡ e ∷ behind → Opens body k e behind
opened_at body list k e behind l h = opens (subst (IsListed k (drop k body)) h l) body refl

pub nothing_more : (body : List CStmt) (list : List Busy) (k : ℕ) → IsListed k (drop k body) list → length list ≡ 0 → counted_list (drop k body) ≡ 0
nothing_more body [] k l h = none_listed l
nothing_more body (e ∷ list) k l h = absurd (omega (arith, h))

pub taken_length : (xs : List CStmt) (n : ℕ) → n < length xs → n ≡ length (take n xs)
taken_length [] n h = absurd (omega (arith, h))
taken_length (x ∷ xs) zero h = refl
taken_length (x ∷ xs) (suc n) h = let l = taken_length xs n (omega (arith, h)) in omega (arith, l)

-- the list of a block that was begun as an empty one
pub listed_alone : (own body : List CStmt) (old new : List Busy) → own ≡ body → old ≡ [] → AddsBlock own old new → IsListed 0 body new
listed_alone own body old new same none a = subst (λ b. IsListed 0 b new) same (subst (IsListed 0 own) (sym (a.1 ∙ ap (λ l. l ++ a.0) none)) a.2)
