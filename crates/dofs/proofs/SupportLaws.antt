-- Vertices put in order, in lists and in arrays
use Rattle.std.proofs.Common.{◌≡◌, ℕ, zero, suc, ◌+◌, ◌-◌, ◌<◌, ◌≤◌, Bool, true, false, List, [], ◌∷◌, length, get_or, drop, nat_lt, if◌then◌else◌, refl, sym, ap, ◌∙◌, arith}
use Rattle.std.proofs.lemmas.Bool.Decides.{nat_tests}
use Rattle.calculus.specs.LocalFunction.{degree_of}
use Rattle.dofs.specs.declared.support.Support.{Support}
use Rattle.dofs.specs.Label.{Weighted, put, weighted}
use Rattle.dofs.specs.Arrays.{support_of}

-- ---- the list
put_before : (p q : Weighted) (qs : List Weighted) → p.vertex < q.vertex → put p (q ∷ qs) ≡ p ∷ q ∷ qs
put_before p q qs lt = let t : nat_lt p.vertex q.vertex ≡ true = grind (arith, nat_tests) in ap (λ b. if b then p ∷ q ∷ qs else q ∷ put p qs) t

put_behind : (p q : Weighted) (qs : List Weighted) → q.vertex ≤ p.vertex → put p (q ∷ qs) ≡ q ∷ put p qs
put_behind p q qs le = let t : nat_lt p.vertex q.vertex ≡ false = grind (arith, nat_tests) in ap (λ b. if b then p ∷ q ∷ qs else q ∷ put p qs) t

pub length-put : (p : Weighted) (qs : List Weighted) → length (put p qs) ≡ suc (length qs)
length-put p [] = refl
length-put p (q ∷ qs) = either (nat_lt p.vertex q.vertex) (length-put p qs)
  where
    either : (b : Bool) → length (put p qs) ≡ suc (length qs) → length (if b then p ∷ q ∷ qs else q ∷ put p qs) ≡ suc (suc (length qs))
    either true more = refl
    either false more = ap suc more

-- at most as many vertices as the weights add up to
pub length-weighted : (vs ws : List ℕ) → length (weighted vs ws) ≤ degree_of ws
length-weighted [] ws = omega arith
length-weighted (v ∷ vs) [] = omega arith
length-weighted (v ∷ vs) (zero ∷ ws) = omega (arith, length-weighted vs ws)
length-weighted (v ∷ vs) (suc a ∷ ws) = omega (arith, length-weighted vs ws, length-put (record { vertex = v; weight = suc a }) (weighted vs ws))

sum_behind : (ws : List ℕ) (j : ℕ) → get_or ws j 0 + degree_of (drop (suc j) ws) ≤ degree_of ws
sum_behind [] j = omega arith
sum_behind (w ∷ ws) zero = omega arith
sum_behind (w ∷ ws) (suc j) = omega (arith, sum_behind ws j)

-- a vertex with a positive weight finds room
pub few_behind : (vs ws : List ℕ) (i : ℕ) (s : Support) → degree_of ws ≤ 3 → 0 < i → 0 < get_or ws (i - 1) 0 → s ≡ support_of (weighted (drop i vs) (drop i ws)) → s.count ≤ 2
few_behind vs ws zero s few lt some e = absurd (omega arith)
few_behind vs ws (suc j) s few lt some e =
    let back : suc j - 1 ≡ j = omega arith in
    let some_at : 0 < get_or ws j 0 = rw (← back) some in
    omega (arith, ap (λ (t : Support). t.count) e, length-weighted (drop (suc j) vs) (drop (suc j) ws), sum_behind ws j)

-- ---- the arrays
made : (s : Support) (t : List ℕ × List ℕ) (r : Support) → s.count + 1 ≡ r.count → t.0 ≡ r.vertices → t.1 ≡ r.weights → record { count = s.count + 1; vertices = t.0; weights = t.1 } ≡ r
made s t r a b c = λ i. record { count = a i; vertices = b i; weights = c i }

counted : (s : Support) (ps : List Weighted) → s ≡ support_of ps → s.count ≡ length ps
counted s ps e = ap (λ (t : Support). t.count) e

-- what becomes of the arrays, where this pair is put into the list
abbrev pub Puts : Support → ℕ → ℕ → List ℕ × List ℕ → Type 0
Puts s v a t = (ps : List Weighted) → s ≡ support_of ps → record { count = s.count + 1; vertices = t.0; weights = t.1 } ≡ support_of (put (record { vertex = v; weight = a }) ps)

pub put_alone : (s : Support) (v a : ℕ) (t : List ℕ × List ℕ) → s.count ≡ 0 → t ≡ (v ∷ 0 ∷ 0 ∷ [], a ∷ 0 ∷ 0 ∷ []) → Puts s v a t
put_alone s v a t n h [] e = made s t _ (omega arith) (ap (λ (u : List ℕ × List ℕ). u.0) h) (ap (λ (u : List ℕ × List ℕ). u.1) h)
put_alone s v a t n h (p ∷ ps) e = absurd (omega (arith, counted s (p ∷ ps) e))

pub put_first : (s : Support) (v a : ℕ) (t : List ℕ × List ℕ) → s.count ≡ 1 → v < get_or s.vertices 0 0
    → t ≡ (v ∷ get_or s.vertices 0 0 ∷ 0 ∷ [], a ∷ get_or s.weights 0 0 ∷ 0 ∷ []) → Puts s v a t
put_first s v a t n lt h [] e = absurd (omega (arith, counted s [] e))
put_first s v a t n lt h (p ∷ []) e =
    made s t (support_of (record { vertex = v; weight = a } ∷ p ∷ [])) (omega arith)
    (ap (λ (u : List ℕ × List ℕ). u.0) h ∙ ap (λ (u : Support). v ∷ get_or u.vertices 0 0 ∷ 0 ∷ []) e)
    (ap (λ (u : List ℕ × List ℕ). u.1) h ∙ ap (λ (u : Support). a ∷ get_or u.weights 0 0 ∷ 0 ∷ []) e)
    ∙ ap support_of (sym (put_before (record { vertex = v; weight = a }) p [] (omega (arith, ap (λ (u : Support). get_or u.vertices 0 0) e))))
put_first s v a t n lt h (p ∷ q ∷ ps) e = absurd (omega (arith, counted s (p ∷ q ∷ ps) e))

pub put_second : (s : Support) (v a : ℕ) (t : List ℕ × List ℕ) → s.count ≡ 1 → get_or s.vertices 0 0 ≤ v
    → t ≡ (get_or s.vertices 0 0 ∷ v ∷ 0 ∷ [], get_or s.weights 0 0 ∷ a ∷ 0 ∷ []) → Puts s v a t
put_second s v a t n le h [] e = absurd (omega (arith, counted s [] e))
put_second s v a t n le h (p ∷ []) e =
    made s t (support_of (p ∷ record { vertex = v; weight = a } ∷ [])) (omega arith)
    (ap (λ (u : List ℕ × List ℕ). u.0) h ∙ ap (λ (u : Support). get_or u.vertices 0 0 ∷ v ∷ 0 ∷ []) e)
    (ap (λ (u : List ℕ × List ℕ). u.1) h ∙ ap (λ (u : Support). get_or u.weights 0 0 ∷ a ∷ 0 ∷ []) e)
    ∙ ap support_of (sym (put_behind (record { vertex = v; weight = a }) p [] (omega (arith, ap (λ (u : Support). get_or u.vertices 0 0) e))))
put_second s v a t n le h (p ∷ q ∷ ps) e = absurd (omega (arith, counted s (p ∷ q ∷ ps) e))

two : (s : Support) (p q : Weighted) (v : ℕ) → s ≡ support_of (p ∷ q ∷ []) → (get_or s.vertices 0 0 ≡ p.vertex) × (get_or s.vertices 1 0 ≡ q.vertex) × (s.count + 1 ≡ 3)
two s p q v e = (ap (λ (u : Support). get_or u.vertices 0 0) e, ap (λ (u : Support). get_or u.vertices 1 0) e, omega (arith, counted s (p ∷ q ∷ []) e))

pub put_front : (s : Support) (v a : ℕ) (t : List ℕ × List ℕ) → s.count ≡ 2 → v < get_or s.vertices 0 0
    → t ≡ (v ∷ get_or s.vertices 0 0 ∷ get_or s.vertices 1 0 ∷ [], a ∷ get_or s.weights 0 0 ∷ get_or s.weights 1 0 ∷ []) → Puts s v a t
put_front s v a t n lt h [] e = absurd (omega (arith, counted s [] e))
put_front s v a t n lt h (p ∷ []) e = absurd (omega (arith, counted s (p ∷ []) e))
put_front s v a t n lt h (p ∷ q ∷ []) e =
    let at = two s p q v e in
    made s t (support_of (record { vertex = v; weight = a } ∷ p ∷ q ∷ [])) at.2
    (ap (λ (u : List ℕ × List ℕ). u.0) h ∙ ap (λ (u : Support). v ∷ get_or u.vertices 0 0 ∷ get_or u.vertices 1 0 ∷ []) e)
    (ap (λ (u : List ℕ × List ℕ). u.1) h ∙ ap (λ (u : Support). a ∷ get_or u.weights 0 0 ∷ get_or u.weights 1 0 ∷ []) e)
    ∙ ap support_of (sym (put_before (record { vertex = v; weight = a }) p (q ∷ []) (omega (arith, at.0))))
put_front s v a t n lt h (p ∷ q ∷ r ∷ ps) e = absurd (omega (arith, counted s (p ∷ q ∷ r ∷ ps) e))

pub put_middle : (s : Support) (v a : ℕ) (t : List ℕ × List ℕ) → s.count ≡ 2 → get_or s.vertices 0 0 ≤ v → v < get_or s.vertices 1 0
    → t ≡ (get_or s.vertices 0 0 ∷ v ∷ get_or s.vertices 1 0 ∷ [], get_or s.weights 0 0 ∷ a ∷ get_or s.weights 1 0 ∷ []) → Puts s v a t
put_middle s v a t n le lt h [] e = absurd (omega (arith, counted s [] e))
put_middle s v a t n le lt h (p ∷ []) e = absurd (omega (arith, counted s (p ∷ []) e))
put_middle s v a t n le lt h (p ∷ q ∷ []) e =
    let at = two s p q v e in
    made s t (support_of (p ∷ record { vertex = v; weight = a } ∷ q ∷ [])) at.2
    (ap (λ (u : List ℕ × List ℕ). u.0) h ∙ ap (λ (u : Support). get_or u.vertices 0 0 ∷ v ∷ get_or u.vertices 1 0 ∷ []) e)
    (ap (λ (u : List ℕ × List ℕ). u.1) h ∙ ap (λ (u : Support). get_or u.weights 0 0 ∷ a ∷ get_or u.weights 1 0 ∷ []) e)
    ∙ ap support_of (sym (put_behind (record { vertex = v; weight = a }) p (q ∷ []) (omega (arith, at.0)) ∙ ap (λ rs. p ∷ rs) (put_before (record { vertex = v; weight = a }) q [] (omega (arith, at.1)))))
put_middle s v a t n le lt h (p ∷ q ∷ r ∷ ps) e = absurd (omega (arith, counted s (p ∷ q ∷ r ∷ ps) e))

pub put_last : (s : Support) (v a : ℕ) (t : List ℕ × List ℕ) → s.count ≡ 2 → get_or s.vertices 0 0 ≤ v → get_or s.vertices 1 0 ≤ v
    → t ≡ (get_or s.vertices 0 0 ∷ get_or s.vertices 1 0 ∷ v ∷ [], get_or s.weights 0 0 ∷ get_or s.weights 1 0 ∷ a ∷ []) → Puts s v a t
put_last s v a t n le ge h [] e = absurd (omega (arith, counted s [] e))
put_last s v a t n le ge h (p ∷ []) e = absurd (omega (arith, counted s (p ∷ []) e))
put_last s v a t n le ge h (p ∷ q ∷ []) e =
    let at = two s p q v e in
    made s t (support_of (p ∷ q ∷ record { vertex = v; weight = a } ∷ [])) at.2
    (ap (λ (u : List ℕ × List ℕ). u.0) h ∙ ap (λ (u : Support). get_or u.vertices 0 0 ∷ get_or u.vertices 1 0 ∷ v ∷ []) e)
    (ap (λ (u : List ℕ × List ℕ). u.1) h ∙ ap (λ (u : Support). get_or u.weights 0 0 ∷ get_or u.weights 1 0 ∷ a ∷ []) e)
    ∙ ap support_of (sym (put_behind (record { vertex = v; weight = a }) p (q ∷ []) (omega (arith, at.0)) ∙ ap (λ rs. p ∷ rs) (put_behind (record { vertex = v; weight = a }) q [] (omega (arith, at.1)))))
put_last s v a t n le ge h (p ∷ q ∷ r ∷ ps) e = absurd (omega (arith, counted s (p ∷ q ∷ r ∷ ps) e))
