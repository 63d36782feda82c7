-- Lists of weighted vertices, by rising vertex: each is told by the weight that it has at each vertex
use Rattle.std.proofs.Common.{◌≡◌, ◌≢◌, ℕ, zero, suc, ◌+◌, ◌<◌, ◌⊎◌, inl, inr, Bool, true, false, ◌&&◌, ◌||◌, List, [], ◌∷◌, length, map, nat_lt, not, if◌then◌else◌, refl, sym, ap, ap₂, ◌∙◌, subst, arith, eq-eqb, eqb-true, true≢false}
use Rattle.std.specs.Prelude.{nat_eq}
use Rattle.std.specs.List.{AllByRecursion, list_any}
use Rattle.std.proofs.lemmas.Bool.{eqb-false, cases_eq, cases_order, cases_Bool}
use Rattle.std.proofs.lemmas.Bool.Decides.{nat_tests}
use Rattle.calculus.specs.LocalFunction.{degree_of, label_weight, is_vertex_of, lies_on, weights_of}
use Rattle.mesh_in.specs.MeshData.{is_distinct}
use Rattle.dofs.specs.Label.{Weighted, put, weighted, vertices_of, weights_of as weights_in}
use Rattle.dofs.specs.Basis.{pairs}
use Rattle.dofs.proofs.Lists.{IsDistinct}

either_false : (a b : Bool) → not (a || b) ≡ true → (a ≡ false) × (b ≡ false)
either_false true b h = cc
either_false false true h = cc
either_false false false h = (refl, refl)

both_true : (a b : Bool) → (a && b) ≡ true → (a ≡ true) × (b ≡ true)
both_true true b h = (refl, h)
both_true false b h = cc

none_equal : (x : ℕ) (xs : List ℕ) → not (list_any (λ y. nat_eq y x) xs) ≡ true → AllByRecursion (λ y. x ≢ y) xs
none_equal x [] h = tt
none_equal x (y ∷ ys) h =
    let both = either_false (nat_eq y x) (list_any (λ z. nat_eq z x) ys) h in
    (λ e. eqb-false y x both.0 (sym e), none_equal x ys (ap not both.1))

pub distinct_from_test : (xs : List ℕ) → is_distinct xs ≡ true → IsDistinct xs
distinct_from_test [] h = tt
distinct_from_test (x ∷ xs) h =
    let both = both_true (not (list_any (λ y. nat_eq y x) xs)) (is_distinct xs) h in
    (none_equal x xs both.0, distinct_from_test xs both.1)

-- ---- the weight of a vertex
abbrev pub pair_of : Weighted → ℕ × ℕ
pair_of p = (p.vertex, p.weight)

abbrev pub weight_in : List Weighted → ℕ → ℕ
weight_in ps n = label_weight (map pair_of ps) n

-- that of a vertex of a cell
abbrev pub weight_of : List ℕ → List ℕ → ℕ → ℕ
weight_of [] ws n = 0
weight_of (v ∷ vs) [] n = 0
weight_of (v ∷ vs) (w ∷ ws) n = if nat_eq v n then w else weight_of vs ws n

-- rising vertices with positive weights
abbrev pub IsSupport : List Weighted → Type 0
IsSupport [] = Unit {0}
IsSupport (p ∷ ps) = (0 < p.weight) × AllByRecursion (λ q. p.vertex < q.vertex) ps × IsSupport ps

abbrev Absent : ℕ → List Weighted → Type 0
Absent n ps = AllByRecursion (λ p. n ≢ p.vertex) ps

same_test : (n : ℕ) → nat_eq n n ≡ true
same_test n = eq-eqb n n refl

other_test : (m n : ℕ) → m ≢ n → nat_eq m n ≡ false
other_test m n h = grind (arith, nat_tests)

weight_here : (p : Weighted) (ps : List Weighted) (n : ℕ) → p.vertex ≡ n → weight_in (p ∷ ps) n ≡ p.weight
weight_here p ps n e = ap (λ t. elim t [ true ↦ p.weight | false ↦ weight_in ps n ]) (eq-eqb p.vertex n e)

weight_behind : (p : Weighted) (ps : List Weighted) (n : ℕ) → p.vertex ≢ n → weight_in (p ∷ ps) n ≡ weight_in ps n
weight_behind p ps n h = ap (λ t. elim t [ true ↦ p.weight | false ↦ weight_in ps n ]) (other_test p.vertex n h)

weight_absent : (n : ℕ) (ps : List Weighted) → Absent n ps → weight_in ps n ≡ 0
weight_absent n [] all = refl
weight_absent n (p ∷ ps) all = weight_behind p ps n (λ e. all.0 (sym e)) ∙ weight_absent n ps all.1

abbrev Above : ℕ → List Weighted → Type 0
Above n ps = AllByRecursion (λ p. n < p.vertex) ps

absent_above : (n : ℕ) (ps : List Weighted) → Above n ps → Absent n ps
absent_above n [] all = tt
absent_above n (p ∷ ps) all = (λ e. absurd (omega (arith, all.0, e)), absent_above n ps all.1)

above_less : (m n : ℕ) (ps : List Weighted) → m < n → Above n ps → Above m ps
above_less m n [] lt all = tt
above_less m n (p ∷ ps) lt all = (omega (arith, all.0), above_less m n ps lt all.1)

-- ---- one more vertex
all_put : (P : Weighted → Type 0) (p : Weighted) (qs : List Weighted) → P p → AllByRecursion P qs → AllByRecursion P (put p qs)
all_put P p [] here all = (here, tt)
all_put P p (q ∷ qs) here all = go (nat_lt p.vertex q.vertex) (all_put P p qs here all.1)
  where
    go : (t : Bool) → AllByRecursion P (put p qs) → AllByRecursion P (if t then p ∷ q ∷ qs else q ∷ put p qs)
    go true rest = (here, all)
    go false rest = (all.0, rest)

put_support : (p : Weighted) (qs : List Weighted) → 0 < p.weight → Absent p.vertex qs → IsSupport qs → IsSupport (put p qs)
put_support p [] some none is = (some, tt, tt)
put_support p (q ∷ qs) some none is = go (nat_lt p.vertex q.vertex) refl (put_support p qs some none.1 is.2)
  where
    go : (t : Bool) → nat_lt p.vertex q.vertex ≡ t → IsSupport (put p qs) → IsSupport (if t then p ∷ q ∷ qs else q ∷ put p qs)
    go true e rest =
        let lt : p.vertex < q.vertex = grind (arith, nat_tests) in
        (some, (lt, above_less p.vertex q.vertex qs lt is.1), is)
    go false e rest =
        let lt : q.vertex < p.vertex = grind (arith, nat_tests, none.0) in
        (is.0, all_put (λ r. q.vertex < r.vertex) p qs lt is.1, rest)

weight_put_here : (p : Weighted) (qs : List Weighted) → Absent p.vertex qs → weight_in (put p qs) p.vertex ≡ p.weight
weight_put_here p [] none = weight_here p [] p.vertex refl
weight_put_here p (q ∷ qs) none = go (nat_lt p.vertex q.vertex) (weight_put_here p qs none.1)
  where
    go : (t : Bool) → weight_in (put p qs) p.vertex ≡ p.weight → weight_in (if t then p ∷ q ∷ qs else q ∷ put p qs) p.vertex ≡ p.weight
    go true rest = weight_here p (q ∷ qs) p.vertex refl
    go false rest = weight_behind q (put p qs) p.vertex (λ e. none.0 (sym e)) ∙ rest

weight_put_other : (p : Weighted) (qs : List Weighted) (n : ℕ) → p.vertex ≢ n → weight_in (put p qs) n ≡ weight_in qs n
weight_put_other p [] n h = weight_behind p [] n h
weight_put_other p (q ∷ qs) n h = go (nat_lt p.vertex q.vertex) (weight_put_other p qs n h)
  where
    go : (t : Bool) → weight_in (put p qs) n ≡ weight_in qs n → weight_in (if t then p ∷ q ∷ qs else q ∷ put p qs) n ≡ weight_in (q ∷ qs) n
    go true rest = weight_behind p (q ∷ qs) n h
    go false rest = ap (λ w. elim (nat_eq q.vertex n) [ true ↦ q.weight | false ↦ w ]) rest

-- ---- the vertices of a cell
absent_weighted : (n : ℕ) (vs ws : List ℕ) → AllByRecursion (λ v. n ≢ v) vs → Absent n (weighted vs ws)
absent_weighted n [] ws all = tt
absent_weighted n (v ∷ vs) [] all = tt
absent_weighted n (v ∷ vs) (zero ∷ ws) all = absent_weighted n vs ws all.1
absent_weighted n (v ∷ vs) (suc a ∷ ws) all = all_put (λ p. n ≢ p.vertex) _ (weighted vs ws) all.0 (absent_weighted n vs ws all.1)

pub weighted_support : (vs ws : List ℕ) → IsDistinct vs → IsSupport (weighted vs ws)
weighted_support [] ws d = tt
weighted_support (v ∷ vs) [] d = tt
weighted_support (v ∷ vs) (zero ∷ ws) d = weighted_support vs ws d.1
weighted_support (v ∷ vs) (suc a ∷ ws) d = put_support _ (weighted vs ws) (omega arith) (absent_weighted v vs ws d.0) (weighted_support vs ws d.1)

pub weight_weighted : (vs ws : List ℕ) → IsDistinct vs → (n : ℕ) → weight_in (weighted vs ws) n ≡ weight_of vs ws n
weight_weighted [] ws d n = refl
weight_weighted (v ∷ vs) [] d n = refl
weight_weighted (v ∷ vs) (zero ∷ ws) d n = go (nat_eq v n) refl (weight_weighted vs ws d.1 n)
  where
    go : (t : Bool) → nat_eq v n ≡ t → weight_in (weighted vs ws) n ≡ weight_of vs ws n → weight_in (weighted vs ws) n ≡ (if t then 0 else weight_of vs ws n)
    go true e rest = weight_absent n (weighted vs ws) (absent_weighted n vs ws (subst (λ m. AllByRecursion (λ w. m ≢ w) vs) (eqb-true v n e) d.0))
    go false e rest = rest
weight_weighted (v ∷ vs) (suc a ∷ ws) d n = go (nat_eq v n) refl (weight_weighted vs ws d.1 n)
  where
    p : Weighted
    p = record { vertex = v; weight = suc a }

    go : (t : Bool) → nat_eq v n ≡ t → weight_in (weighted vs ws) n ≡ weight_of vs ws n → weight_in (put p (weighted vs ws)) n ≡ (if t then suc a else weight_of vs ws n)
    go true e rest = subst (λ m. weight_in (put p (weighted vs ws)) m ≡ suc a) (eqb-true v n e) (weight_put_here p (weighted vs ws) (absent_weighted v vs ws d.0))
    go false e rest = weight_put_other p (weighted vs ws) n (eqb-false v n e) ∙ rest

-- ---- a support is told by its weights
first_positive : (p : Weighted) (ps qs : List Weighted) → IsSupport (p ∷ ps) → Absent p.vertex qs → ((n : ℕ) → weight_in (p ∷ ps) n ≡ weight_in qs n) → ⊥
first_positive p ps qs is none h =
    absurd (omega (arith, is.0, sym (weight_here p ps p.vertex refl) ∙ h p.vertex ∙ weight_absent p.vertex qs none))

pub same_support : (ps qs : List Weighted) → IsSupport ps → IsSupport qs → ((n : ℕ) → weight_in ps n ≡ weight_in qs n) → ps ≡ qs
same_support [] [] a b h = refl
same_support [] (q ∷ qs) a b h = absurd (first_positive q qs [] b tt (λ n. sym (h n)))
same_support (p ∷ ps) [] a b h = absurd (first_positive p ps [] a tt h)
same_support (p ∷ ps) (q ∷ qs) a b h = elim (cases_order p.vertex q.vertex) [
  | inl e ↦
      let weights : p.weight ≡ q.weight = sym (weight_here p ps p.vertex refl) ∙ h p.vertex ∙ weight_here q qs p.vertex (sym e) in
      ap₂ (λ r rs. r ∷ rs) (λ i. record { vertex = e i; weight = weights i })
      (same_support ps qs a.2 b.2 (λ n. elim (cases_eq p.vertex n) [
        | inl here ↦
            weight_absent n ps (subst (λ m. Absent m ps) here (absent_above p.vertex ps a.1))
            ∙ sym (weight_absent n qs (subst (λ m. Absent m qs) (sym e ∙ here) (absent_above q.vertex qs b.1)))
        | inr other ↦ sym (weight_behind p ps n other) ∙ h n ∙ weight_behind q qs n (λ k. other (e ∙ k))
      ]))
  | inr (inl lt) ↦ absurd (first_positive p ps (q ∷ qs) a (λ k. absurd (omega (arith, lt, k)), absent_above p.vertex qs (above_less p.vertex q.vertex qs lt b.1)) h)
  | inr (inr lt) ↦ absurd (first_positive q qs (p ∷ ps) b (λ k. absurd (omega (arith, lt, k)), absent_above q.vertex ps (above_less q.vertex p.vertex ps lt a.1)) (λ n. sym (h n)))
]

-- ---- there and back
weights_map : (f : ℕ → ℕ) (vs ws : List ℕ) → IsDistinct vs → length ws ≡ length vs → AllByRecursion (λ n. f n ≡ weight_of vs ws n) vs → map f vs ≡ ws
weights_map f [] [] d e all = refl
weights_map f [] (w ∷ ws) d e all = absurd (omega arith)
weights_map f (v ∷ vs) [] d e all = absurd (omega arith)
weights_map f (v ∷ vs) (w ∷ ws) d e all =
    ap₂ (λ x xs. x ∷ xs) (all.0 ∙ ap (λ t. if t then w else weight_of vs ws v) (same_test v)) (weights_map f vs ws d.1 (omega arith) (rest vs d.0 all.1))
  where
    rest : (ns : List ℕ) → AllByRecursion (λ n. v ≢ n) ns → AllByRecursion (λ n. f n ≡ weight_of (v ∷ vs) (w ∷ ws) n) ns → AllByRecursion (λ n. f n ≡ weight_of vs ws n) ns
    rest [] other all = tt
    rest (n ∷ ns) other all = (all.0 ∙ ap (λ t. if t then w else weight_of vs ws n) (other_test v n other.0), rest ns other.1 all.1)

weights_as_map : (label : List (ℕ × ℕ)) (vs : List ℕ) → weights_of label vs ≡ map (label_weight label) vs
weights_as_map label [] = refl
weights_as_map label (v ∷ vs) = ap (λ ws. label_weight label v ∷ ws) (weights_as_map label vs)

all_true : {A : Type 0} (P : A → Type 0) → ((x : A) → P x) → (xs : List A) → AllByRecursion P xs
all_true P f [] = tt
all_true P f (x ∷ xs) = (f x, all_true P f xs)

-- the weights of a node come back from its label
pub round_trip : (vs ws : List ℕ) → IsDistinct vs → length ws ≡ length vs → weights_of (map pair_of (weighted vs ws)) vs ≡ ws
round_trip vs ws d e =
    weights_as_map (map pair_of (weighted vs ws)) vs
    ∙ weights_map (weight_in (weighted vs ws)) vs ws d e (all_true (λ n. weight_in (weighted vs ws) n ≡ weight_of vs ws n) (weight_weighted vs ws d) vs)

weight_of_map : (f : ℕ → ℕ) (vs : List ℕ) (n : ℕ) → is_vertex_of vs n ≡ true → weight_of vs (map f vs) n ≡ f n
weight_of_map f [] n h = cc
weight_of_map f (v ∷ vs) n h = go (nat_eq v n) refl h (weight_of_map f vs n)
  where
    go : (t : Bool) → nat_eq v n ≡ t → elim t [ true ↦ true | false ↦ is_vertex_of vs n ] ≡ true → (is_vertex_of vs n ≡ true → weight_of vs (map f vs) n ≡ f n)
        → (if t then f v else weight_of vs (map f vs) n) ≡ f n
    go true e h rest = ap f (eqb-true v n e)
    go false e h rest = rest h

weight_of_none : (vs ws : List ℕ) (n : ℕ) → is_vertex_of vs n ≡ false → weight_of vs ws n ≡ 0
weight_of_none [] ws n h = refl
weight_of_none (v ∷ vs) [] n h = refl
weight_of_none (v ∷ vs) (w ∷ ws) n h = go (nat_eq v n) h (weight_of_none vs ws n)
  where
    go : (t : Bool) → elim t [ true ↦ true | false ↦ is_vertex_of vs n ] ≡ false → (is_vertex_of vs n ≡ false → weight_of vs ws n ≡ 0) → (if t then w else weight_of vs ws n) ≡ 0
    go true h rest = cc
    go false h rest = rest h

on_first : (p : ℕ × ℕ) (label : List (ℕ × ℕ)) (vs : List ℕ) → lies_on (p ∷ label) vs ≡ true → (is_vertex_of vs p.0 ≡ true) × (lies_on label vs ≡ true)
on_first p label vs h = go (is_vertex_of vs p.0) h
  where
    go : (t : Bool) → elim t [ true ↦ lies_on label vs | false ↦ false ] ≡ true → (t ≡ true) × (lies_on label vs ≡ true)
    go true h = (refl, h)
    go false h = cc

lies_on_more : (p : Weighted) (qs : List Weighted) (vs : List ℕ) → is_vertex_of vs p.vertex ≡ true → lies_on (map pair_of qs) vs ≡ true → lies_on (map pair_of (p ∷ qs)) vs ≡ true
lies_on_more p qs vs here all = ap (λ t. elim t [ true ↦ lies_on (map pair_of qs) vs | false ↦ false ]) here ∙ all

lies_on_put : (p : Weighted) (qs : List Weighted) (vs : List ℕ) → is_vertex_of vs p.vertex ≡ true → lies_on (map pair_of qs) vs ≡ true → lies_on (map pair_of (put p qs)) vs ≡ true
lies_on_put p [] vs here all = lies_on_more p [] vs here all
lies_on_put p (q ∷ qs) vs here all = let both = on_first (pair_of q) (map pair_of qs) vs all in go (nat_lt p.vertex q.vertex) (lies_on_more q (put p qs) vs both.0 (lies_on_put p qs vs here both.1))
  where
    go : (t : Bool) → lies_on (map pair_of (q ∷ put p qs)) vs ≡ true → lies_on (map pair_of (if t then p ∷ q ∷ qs else q ∷ put p qs)) vs ≡ true
    go true rest = lies_on_more p (q ∷ qs) vs here all
    go false rest = rest

vertex_more : (v n : ℕ) (vs : List ℕ) → is_vertex_of vs n ≡ true → is_vertex_of (v ∷ vs) n ≡ true
vertex_more v n vs h = go (nat_eq v n)
  where
    go : (t : Bool) → elim t [ true ↦ true | false ↦ is_vertex_of vs n ] ≡ true
    go true = refl
    go false = h

vertex_here : (v : ℕ) (vs : List ℕ) → is_vertex_of (v ∷ vs) v ≡ true
vertex_here v vs = ap (λ t. elim t [ true ↦ true | false ↦ is_vertex_of vs v ]) (same_test v)

lies_wider : (ps : List Weighted) (v : ℕ) (vs : List ℕ) → lies_on (map pair_of ps) vs ≡ true → lies_on (map pair_of ps) (v ∷ vs) ≡ true
lies_wider [] v vs h = refl
lies_wider (p ∷ ps) v vs h = let both = on_first (pair_of p) (map pair_of ps) vs h in lies_on_more p ps (v ∷ vs) (vertex_more v p.vertex vs both.0) (lies_wider ps v vs both.1)

-- and its vertices are those of the cell
pub weighted_lies_on : (vs ws : List ℕ) → lies_on (map pair_of (weighted vs ws)) vs ≡ true
weighted_lies_on [] ws = refl
weighted_lies_on (v ∷ vs) [] = refl
weighted_lies_on (v ∷ vs) (zero ∷ ws) = lies_wider (weighted vs ws) v vs (weighted_lies_on vs ws)
weighted_lies_on (v ∷ vs) (suc a ∷ ws) = lies_on_put _ (weighted vs ws) (v ∷ vs) (vertex_here v vs) (lies_wider (weighted vs ws) v vs (weighted_lies_on vs ws))

weight_off : (ps : List Weighted) (vs : List ℕ) (n : ℕ) → lies_on (map pair_of ps) vs ≡ true → is_vertex_of vs n ≡ false → weight_in ps n ≡ 0
weight_off [] vs n on off = refl
weight_off (p ∷ ps) vs n on off =
    let both = on_first (pair_of p) (map pair_of ps) vs on in
    weight_behind p ps n (λ e. true≢false (sym both.0 ∙ ap (is_vertex_of vs) e ∙ off)) ∙ weight_off ps vs n both.1 off

-- a support on the vertices of a cell is that of its weights there
pub back_again : (ps : List Weighted) (vs : List ℕ) → IsSupport ps → IsDistinct vs → lies_on (map pair_of ps) vs ≡ true → weighted vs (weights_of (map pair_of ps) vs) ≡ ps
back_again ps vs is d on =
    same_support (weighted vs (weights_of (map pair_of ps) vs)) ps (weighted_support vs _ d) is
    (λ n. ap (λ ws. weight_in (weighted vs ws) n) (weights_as_map (map pair_of ps) vs) ∙ weight_weighted vs (map (weight_in ps) vs) d n ∙ at n (cases_Bool (is_vertex_of vs n)))
  where
    at : (n : ℕ) → (is_vertex_of vs n ≡ true) ⊎ (is_vertex_of vs n ≡ false) → weight_of vs (map (weight_in ps) vs) n ≡ weight_in ps n
    at n (inl is_there) = weight_of_map (weight_in ps) vs n is_there
    at n (inr not_there) = weight_of_none vs (map (weight_in ps) vs) n not_there ∙ sym (weight_off ps vs n on not_there)

-- ---- the sum of the weights
sum_put : (p : Weighted) (qs : List Weighted) → degree_of (weights_in (put p qs)) ≡ p.weight + degree_of (weights_in qs)
sum_put p [] = refl
sum_put p (q ∷ qs) = go (nat_lt p.vertex q.vertex) (sum_put p qs)
  where
    go : (t : Bool) → degree_of (weights_in (put p qs)) ≡ p.weight + degree_of (weights_in qs) → degree_of (weights_in (if t then p ∷ q ∷ qs else q ∷ put p qs)) ≡ p.weight + degree_of (weights_in (q ∷ qs))
    go true rest = refl
    go false rest = omega (arith, rest)

pub sum_weighted : (vs ws : List ℕ) → length ws ≡ length vs → degree_of (weights_in (weighted vs ws)) ≡ degree_of ws
sum_weighted [] [] e = refl
sum_weighted [] (w ∷ ws) e = absurd (omega arith)
sum_weighted (v ∷ vs) [] e = absurd (omega arith)
sum_weighted (v ∷ vs) (zero ∷ ws) e = omega (arith, sum_weighted vs ws (omega arith))
sum_weighted (v ∷ vs) (suc a ∷ ws) e = sum_put _ (weighted vs ws) ∙ ap (λ n. suc a + n) (sum_weighted vs ws (omega arith))

pub pairs_back : (ps : List Weighted) → pairs (vertices_of ps) (weights_in ps) ≡ map pair_of ps
pairs_back [] = refl
pairs_back (p ∷ ps) = ap (λ qs. pair_of p ∷ qs) (pairs_back ps)

pub length-weights_of : (label : List (ℕ × ℕ)) (vs : List ℕ) → length (weights_of label vs) ≡ length vs
length-weights_of label [] = refl
length-weights_of label (v ∷ vs) = ap suc (length-weights_of label vs)
