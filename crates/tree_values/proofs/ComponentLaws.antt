-- Components, one step further
use Rattle.std.proofs.Common.{◌≡◌, ℕ, zero, suc, ◌+◌, ◌<◌, ◌≤◌, refl, sym, ◌∙◌, ap, List, [], ◌∷◌, ◌++◌, length, take, drop, get_or, map, arith, ◌-◌, length-drop}
use Rattle.std.proofs.lemmas.List.{take_all}
use Rattle.algebra.specs.RingLaws as L
use Rattle.calculus.specs.Polynomial.{polynomials, plus, plus_assoc, plus-nil}
use Rattle.ufl_tree.specs.Indices.{front, back, followed_by}
use Rattle.calculus.specs.Integral.{sum_below}
use Rattle.ufl_meaning.specs.Operators.{Components, sum_components}
use Rattle.tree_values.specs.Scene.{gathered}
use Rattle.tree_values.specs.Component.{listed, sum_at}
use Rattle.tree_values.proofs.SceneLaws.{next, sum_same}

pub followed : (at : List ℕ) (i : ℕ) → at ++ i ∷ [] ≡ followed_by at i
followed [] i = refl
followed (k ∷ at) i = ap (λ b. k ∷ b) (followed at i)

pub front_short : (shape at : List ℕ) → length at < length shape → at ≡ front shape at
front_short [] [] h = refl
front_short [] (k ∷ at) h = absurd (omega arith)
front_short (d ∷ ds) [] h = refl
front_short (d ∷ ds) (k ∷ at) h = ap (λ b. k ∷ b) (front_short ds at (omega arith))

pub back_short : (shape at : List ℕ) → length at < length shape → [] ≡ back shape at
back_short [] [] h = refl
back_short [] (k ∷ at) h = absurd (omega arith)
back_short (d ∷ ds) [] h = refl
back_short (d ∷ ds) (k ∷ at) h = back_short ds at (omega arith)

pub front_taken : (shape at : List ℕ) → length shape ≤ length at → take (length shape) at ≡ front shape at
front_taken [] at h = refl
front_taken (d ∷ ds) [] h = absurd (omega arith)
front_taken (d ∷ ds) (k ∷ at) h = ap (λ b. k ∷ b) (front_taken ds at (omega arith))

pub back_dropped : (shape at : List ℕ) → length shape ≤ length at → drop (length shape) at ≡ back shape at
back_dropped [] at h = refl
back_dropped (d ∷ ds) [] h = absurd (omega arith)
back_dropped (d ∷ ds) (k ∷ at) h = back_dropped ds at (omega arith)

pub ruleset parts = (front_short, back_short, front_taken, back_dropped)

-- ---- sums over all components
sum_at-append : (xs ys : List (List ℕ)) (f : Components) → sum_at (xs ++ ys) f ≡ plus (sum_at xs f) (sum_at ys f)
sum_at-append [] ys f = sym (L.zero-add polynomials _)
sum_at-append (x ∷ xs) ys f = ap (plus (f x)) (sum_at-append xs ys f) ∙ sym (plus_assoc _ _ _)

sum_at-gathered : (n : ℕ) (g : ℕ → List (List ℕ)) (f : Components) → sum_at (gathered n g) f ≡ sum_below n (λ k. sum_at (g k) f)
sum_at-gathered zero g f = refl
sum_at-gathered (suc n) g f = sum_at-append (gathered n g) (g n) f ∙ ap (λ p. plus p (sum_at (g n) f)) (sum_at-gathered n g f)

sum_at-map : (k : ℕ) (xs : List (List ℕ)) (f : Components) → sum_at (map (λ b. k ∷ b) xs) f ≡ sum_at xs (λ b. f (k ∷ b))
sum_at-map k [] f = refl
sum_at-map k (x ∷ xs) f = ap (plus (f (k ∷ x))) (sum_at-map k xs f)

pub sum_at-listed : (s : List ℕ) (f : Components) → sum_at (listed s) f ≡ sum_components s f
sum_at-listed [] f = plus-nil _
sum_at-listed (d ∷ ds) f =
    sum_at-gathered d (λ k. map (λ b. k ∷ b) (listed ds)) f
    ∙ sum_same d _ _ (λ k. sum_at-map k (listed ds) f ∙ sum_at-listed ds (λ b. f (k ∷ b)))

pub all_behind : (shape at : List ℕ) → length shape ≤ length at → take (length at - length shape) (drop (length shape) at) ≡ back shape at
all_behind shape at h = take_all (length at - length shape) (drop (length shape) at) (omega (arith, length-drop (length shape) at)) ∙ back_dropped shape at h

pub listed_is : (shape : List ℕ) (d : ℕ) (ds : List ℕ) (behind all : List (List ℕ)) → shape ≡ d ∷ ds → behind ≡ listed ds → all ≡ gathered d (λ k. map (λ b. k ∷ b) behind) → all ≡ listed shape
listed_is shape d ds behind all e h is = is ∙ ap (λ bs. gathered d (λ k. map (λ b. k ∷ b) bs)) h ∙ ap listed (sym e)
