-- The order of products: which rows and blocks meet, and how many products there are
use Rattle.std.proofs.Common.{◌≡◌, ℕ, zero, suc, ◌+◌, ◌*◌, ◌^◌, ◌<◌, ◌≤◌, ◌⊎◌, inl, inr, Bool, true, false, ◌==◌, if◌then◌else◌, List, [], ◌∷◌, ◌++◌, length, get_or, map, take, drop, refl, sym, ap, ap₂, ◌∙◌, subst, arith}
use Rattle.std.specs.List.{flat_map, AllByRecursion}
use Rattle.std.proofs.lemmas.Bool.Decides.{nat_tests}
use Rattle.std.proofs.lemmas.Nat.{mul-add-lt}
use Rattle.std.proofs.lemmas.List.{take-map, drop-map, length-append, length-drop}
use native.Mathlib.Nat as N
use Rattle.refint.specs.Local.{numbers_below}
use Rattle.refint.proofs.Lists.{flat_append}
use Rattle.refint.proofs.Combined.{map_length}
use Rattle.basis_products.specs.declared.factor.Source.{Source}
use Rattle.basis_products.specs.declared.factor.Source.TheVariants as source
use Rattle.basis_products.specs.declared.products.Pair.{Pair}
use Rattle.basis_products.specs.declared.products.Sizes.{Sizes}
use Rattle.basis_products.specs.Order.{own_node, start_at, first_row, row_count, pairs_at, with_factor, pairs_of, piece, joined, Fit}
use Rattle.basis_products.proofs.Lists.{all_append, all_get, all_take, all_drop, flat_length}

-- ---- nodes
own_equal : (n : ℕ) → (n == 1) ≡ true → n ≡ 1
own_equal n h = grind (arith, nat_tests)

pub own_most : (n t : ℕ) → own_node n t ≤ t
own_most n t = go (n == 1) where
  go : (b : Bool) → (if b then 0 else t) ≤ t
  go true = omega arith
  go false = omega arith

-- where one node stands for all, or there are as many as there are nodes
pub own_below : (n m t : ℕ) → (n ≡ 1) ⊎ (n ≡ m) → t < m → own_node n t < n
own_below n m t h l = go (n == 1) refl where
  go : (b : Bool) → (n == 1) ≡ b → (if b then 0 else t) < n
  go true e = let o = own_equal n e in omega arith
  go false e = elim h [ inl o ↦ apart o | inr s ↦ omega arith ]
    where
      apart : n ≡ 1 → t < n
      apart o = grind (arith, nat_tests)

-- the first block fits
pub first_few : (n t k : ℕ) → t < 2 ^ 20 → k < 2 ^ 20 → own_node n t * k ≤ 2 ^ 40
first_few n t k h g =
    let o : own_node n t ≤ 2 ^ 20 = omega (arith, own_most n t) in
    let m : k ≤ 2 ^ 20 = omega arith in
    let p : own_node n t * k ≤ 2 ^ 20 * 2 ^ 20 = N.mul-le-mul o m in
    omega arith

pub start_few : (s : Sizes) (t u : ℕ) → t < 2 ^ 20 → u < 2 ^ 20 → s.trials < 2 ^ 20 → s.nodes ≤ 2 ^ 20 → start_at s t u ≤ 2 ^ 61
start_few s t u h g k n =
    let a = first_few s.tests t s.trials h k in
    let o : own_node s.tests t * s.trials + own_node s.trials u ≤ 2 ^ 41 = omega (arith, own_most s.trials u) in
    let p : start_at s t u ≤ 2 ^ 41 * 2 ^ 20 = N.mul-le-mul o n in
    omega arith

pub first_most : (src : Source) (t u : ℕ) → first_row src t u ≤ t + u
first_most source.Test t u = omega arith
first_most source.Trial t u = omega arith
first_most source.Summed t u = omega arith

pub count_most : (src : Source) (n : ℕ) → row_count src n ≤ n + 1
count_most source.Test n = omega arith
count_most source.Trial n = omega arith
count_most source.Summed n = omega arith

pub sizes_few : (s : Sizes) (src : Source) (n k : ℕ) → s.tests < 2 ^ 20 → s.trials < 2 ^ 20 → n ≤ 20
    → ((with_factor s src n k).tests < 2 ^ 20) × ((with_factor s src n k).trials < 2 ^ 20)
sizes_few s source.Test n k h g f = (omega arith, omega arith)
sizes_few s source.Trial n k h g f = (omega arith, omega arith)
sizes_few s source.Summed n k h g f = (omega arith, omega arith)

pub sum_nodes_few : (n m : ℕ) → n ≤ 20 → m ≤ 2 ^ 20 → n * m < 2 ^ 64
sum_nodes_few n m h g = let p : n * m ≤ 20 * 2 ^ 20 = N.mul-le-mul h g in omega arith

-- ---- how many
pub below_length : (n : ℕ) → length (numbers_below n) ≡ n
below_length zero = refl
below_length (suc n) = length-append (numbers_below n) (n ∷ []) ∙ ap (λ k. k + 1) (below_length n) ∙ omega arith

pairs_at_length : (s : Sizes) (src : Source) (n t u : ℕ) → length (pairs_at s src n t u) ≡ row_count src n * s.nodes
pairs_at_length s src n t u =
    flat_length (λ i. map (λ k. record { row = first_row src t u + i; block = start_at s t u + k }) (numbers_below s.nodes)) s.nodes
    (λ i. map_length _ (numbers_below s.nodes) ∙ below_length s.nodes) (row_count src n)

pub pairs_length : (s : Sizes) (src : Source) (n k : ℕ)
    → length (pairs_of s src n k) ≡ (with_factor s src n k).tests * ((with_factor s src n k).trials * (row_count src n * s.nodes))
pairs_length s src n k =
    flat_length (λ t. flat_map (λ u. pairs_at s src n t u) (numbers_below (with_factor s src n k).trials)) _
    (λ t. flat_length (λ u. pairs_at s src n t u) _ (λ u. pairs_at_length s src n t u) (with_factor s src n k).trials)
    (with_factor s src n k).tests

-- ---- all of them are there
abbrev pub IsThere : Sizes → ℕ → Pair → Type 0
IsThere s n p = (p.row < n) × (p.block < s.tests * (s.trials * s.nodes))

all_mapped : {A : Type 0} (P : A → Type 0) (f : ℕ → A) (n : ℕ) → ((j : ℕ) → j < n → P (f j)) → AllByRecursion P (map f (numbers_below n))
all_mapped P f zero h = tt
all_mapped P f (suc n) h =
    subst (AllByRecursion P) (sym (map_next f n))
    (all_append P (map f (numbers_below n)) (f n ∷ []) (all_mapped P f n (λ j l. h j (omega arith))) (h n (omega arith), tt))
  where
    map_next : {A : Type 0} (f : ℕ → A) (n : ℕ) → map f (numbers_below n ++ n ∷ []) ≡ map f (numbers_below n) ++ f n ∷ []
    map_next f n = go f (numbers_below n) n
      where
        go : {A : Type 0} (f : ℕ → A) (xs : List ℕ) (n : ℕ) → map f (xs ++ n ∷ []) ≡ map f xs ++ f n ∷ []
        go f [] n = refl
        go f (x ∷ xs) n = ap (λ r. f x ∷ r) (go f xs n)

all_flat : {A : Type 0} (P : A → Type 0) (f : ℕ → List A) (n : ℕ) → ((j : ℕ) → j < n → AllByRecursion P (f j)) → AllByRecursion P (flat_map f (numbers_below n))
all_flat P f zero h = tt
all_flat P f (suc n) h =
    subst (AllByRecursion P) (sym (flat_append f (numbers_below n) (n ∷ [])))
    (all_append P (flat_map f (numbers_below n)) (f n ++ []) (all_flat P f n (λ j l. h j (omega arith))) (all_append P (f n) [] (h n (omega arith)) tt))

within_start : (s : Sizes) (t u k : ℕ) → own_node s.tests t < s.tests → own_node s.trials u < s.trials → k < s.nodes → start_at s t u + k < s.tests * (s.trials * s.nodes)
within_start s t u k h g l =
    let a = mul-add-lt (own_node s.tests t) s.trials (own_node s.trials u) s.tests h g in
    let b = mul-add-lt (own_node s.tests t * s.trials + own_node s.trials u) s.nodes k (s.trials * s.tests) a l in
    omega arith

row_there : (s : Sizes) (src : Source) (n k t u i : ℕ) → t < (with_factor s src n k).tests → u < (with_factor s src n k).trials → i < row_count src n → first_row src t u + i < n
row_there s source.Test n k t u i h g l = omega arith
row_there s source.Trial n k t u i h g l = omega arith
row_there s source.Summed n k t u i h g l = omega arith

own_test : (s : Sizes) (src : Source) (n k t : ℕ) → Fit s src n k → t < (with_factor s src n k).tests → own_node s.tests t < s.tests
own_test s source.Test n k t f h = own_below s.tests n t (f.tests refl) h
own_test s source.Trial n k t f h = own_below s.tests s.tests t (inr refl) h
own_test s source.Summed n k t f h = own_below s.tests s.tests t (inr refl) h

own_trial : (s : Sizes) (src : Source) (n k u : ℕ) → Fit s src n k → u < (with_factor s src n k).trials → own_node s.trials u < s.trials
own_trial s source.Test n k u f h = own_below s.trials s.trials u (inr refl) h
own_trial s source.Trial n k u f h = own_below s.trials n u (f.trials refl) h
own_trial s source.Summed n k u f h = own_below s.trials s.trials u (inr refl) h

pub all_there : (s : Sizes) (src : Source) (n k : ℕ) → Fit s src n k → AllByRecursion (IsThere s n) (pairs_of s src n k)
all_there s src n k f =
    all_flat (IsThere s n) (λ t. flat_map (λ u. pairs_at s src n t u) (numbers_below (with_factor s src n k).trials)) (with_factor s src n k).tests (λ t h.
    all_flat (IsThere s n) (λ u. pairs_at s src n t u) (with_factor s src n k).trials (λ u g.
    all_flat (IsThere s n) (λ i. map (λ j. record { row = first_row src t u + i; block = start_at s t u + j }) (numbers_below s.nodes)) (row_count src n) (λ i l.
    all_mapped (IsThere s n) (λ j. record { row = first_row src t u + i; block = start_at s t u + j }) s.nodes (λ j m.
    (row_there s src n k t u i h g l, within_start s t u j (own_test s src n k t f h) (own_trial s src n k u f g) m)))))

pub there_at : (s : Sizes) (src : Source) (n k : ℕ) (ps : List Pair) (i : ℕ) (d : Pair) → Fit s src n k → ps ≡ pairs_of s src n k → i < length ps → IsThere s n (get_or ps i d)
there_at s src n k ps i d f e l = all_get (IsThere s n) ps i d l (subst (AllByRecursion (IsThere s n)) (sym e) (all_there s src n k f))

-- ---- pieces
pub piece_mapped : {A B : Type 0} (f : A → B) (n i : ℕ) (xs : List A) → map f (piece n i xs) ≡ piece n i (map f xs)
piece_mapped f n i xs = sym (take-map f n (drop (i * n) xs)) ∙ ap (take n) (sym (drop-map f (i * n) xs))

pub all_piece : {A : Type 0} (P : A → Type 0) (n i : ℕ) (xs : List A) → AllByRecursion P xs → AllByRecursion P (piece n i xs)
all_piece P n i xs h = all_take P n (drop (i * n) xs) (all_drop P (i * n) xs h)

take_length : {A : Type 0} (n : ℕ) (xs : List A) → n ≤ length xs → length (take n xs) ≡ n
take_length zero [] h = refl
take_length zero (x ∷ xs) h = refl
take_length (suc n) [] h = absurd (omega arith)
take_length (suc n) (x ∷ xs) h = ap suc (take_length n xs (omega arith))

-- a piece ends within the list
pub piece_within : (n i c : ℕ) → i < c → suc i * n ≤ c * n
piece_within n i c h = N.mul-le-mul_right n h

piece_length : {A : Type 0} (n i c : ℕ) (xs : List A) → i < c → length xs ≡ c * n → length (piece n i xs) ≡ n
piece_length n i c xs h e =
    let w = piece_within n i c h in
    take_length n (drop (i * n) xs) (omega (arith, length-drop (i * n) xs))

-- how many there are of each pair
pub each_flat : {A B : Type 0} (f : A → List B) (m : ℕ) (xs : List A) → AllByRecursion (λ x. length (f x) ≡ m) xs → length (flat_map f xs) ≡ length xs * m
each_flat f m [] h = omega arith
each_flat f m (x ∷ xs) h = length-append (f x) (flat_map f xs) ∙ ap₂ ◌+◌ h.0 (each_flat f m xs h.1) ∙ more (length xs) m
  where
    more : (n m : ℕ) → m + n * m ≡ suc n * m
    more n m = omega arith

pub each_all : {A : Type 0} (P : A → Type 0) → ((x : A) → P x) → (xs : List A) → AllByRecursion P xs
each_all P h [] = tt
each_all P h (x ∷ xs) = (h x, each_all P h xs)

joined_length : {A B C : Type 0} (f : A → B → C) (s : Sizes) (n k r : ℕ) (rows : List A) (blocks : List B) (ps : List Pair)
    → length rows ≡ n * k → length blocks ≡ s.tests * (s.trials * s.nodes) * r → AllByRecursion (IsThere s n) ps
    → length (joined f k rows r blocks ps) ≡ length ps * (k * r)
joined_length f s n k r rows blocks ps g h a =
    each_flat (λ p. flat_map (λ x. map (f x) (piece r p.block blocks)) (piece k p.row rows)) (k * r) ps (go ps a)
  where
    one : (p : Pair) → IsThere s n p → length (flat_map (λ x. map (f x) (piece r p.block blocks)) (piece k p.row rows)) ≡ k * r
    one p t =
        each_flat (λ x. map (f x) (piece r p.block blocks)) r (piece k p.row rows)
        (each_all (λ x. length (map (f x) (piece r p.block blocks)) ≡ r) (λ x. map_length (f x) (piece r p.block blocks) ∙ piece_length r p.block (s.tests * (s.trials * s.nodes)) blocks t.1 h) (piece k p.row rows))
        ∙ ap (λ m. m * r) (piece_length k p.row n rows t.0 g)

    go : (ps : List Pair) → AllByRecursion (IsThere s n) ps → AllByRecursion (λ p. length (flat_map (λ x. map (f x) (piece r p.block blocks)) (piece k p.row rows)) ≡ k * r) ps
    go [] a = tt
    go (p ∷ ps) a = (one p a.0, go ps a.1)

-- as many as the sizes say
pub products_length : {A B C : Type 0} (f : A → B → C) (s : Sizes) (src : Source) (n k : ℕ) (rows : List A) (blocks : List B) → Fit s src n k
    → length rows ≡ n * k → length blocks ≡ s.tests * (s.trials * (s.nodes * s.directions))
    → length (joined f k rows s.directions blocks (pairs_of s src n k))
    ≡ (with_factor s src n k).tests * ((with_factor s src n k).trials * ((with_factor s src n k).nodes * (with_factor s src n k).directions))
products_length f s src n k rows blocks t g h =
    joined_length f s n k s.directions rows blocks (pairs_of s src n k) g (h ∙ shape s.tests s.trials s.nodes s.directions) (all_there s src n k t)
    ∙ ap (λ m. m * (k * s.directions)) (pairs_length s src n k)
    ∙ go src
  where
    shape : (a b c d : ℕ) → a * (b * (c * d)) ≡ a * (b * c) * d
    shape a b c d = omega arith

    once : (a b c d : ℕ) → a * (b * (1 * c)) * d ≡ a * (b * (c * d))
    once a b c d = omega arith

    often : (a b n c d : ℕ) → a * (b * (n * c)) * d ≡ a * (b * (n * c * d))
    often a b n c d = omega arith

    go : (src : Source) → (with_factor s src n k).tests * ((with_factor s src n k).trials * (row_count src n * s.nodes)) * (k * s.directions)
        ≡ (with_factor s src n k).tests * ((with_factor s src n k).trials * ((with_factor s src n k).nodes * (with_factor s src n k).directions))
    go source.Test = once n s.trials s.nodes (k * s.directions)
    go source.Trial = once s.tests n s.nodes (k * s.directions)
    go source.Summed = often s.tests s.trials n s.nodes (k * s.directions)
