-- The nodes are all lists of weights with the sum q, each once, in order
use Rattle.std.proofs.Common.{◌≡◌, ℕ, zero, suc, ◌+◌, ◌<◌, ◌≤◌, ◌⊎◌, inl, inr, Bool, true, false, if◌then◌else◌, List, [], ◌∷◌, ◌++◌, length, get_or, refl, sym, ap, subst, arith}
use Rattle.spaces.specs.declared.cell.Cell.{Cell}
use Rattle.spaces.specs.declared.cell.Cell.TheVariants.{Interval, Triangle, Tetrahedron}
use Rattle.spaces.specs.Cell.{dimension}
use Rattle.spaces.specs.Nodes.{weight_sum, each_with, with_first, choices, rank, is_before, put, in_order, nodes_of, in_strict_order}
use Rattle.spaces.proofs.NodeLaws.{by_degree, node_number, node_at}

-- ---- each list of weights is among the choices
abbrev Among : List ℕ → List (List ℕ) → Type 0
Among w [] = ⊥
Among w (v ∷ vs) = (v ≡ w) ⊎ Among w vs

among_left : (w : List ℕ) (us vs : List (List ℕ)) → Among w us → Among w (us ++ vs)
among_left w [] vs h = absurd h
among_left w (u ∷ us) vs (inl e) = inl e
among_left w (u ∷ us) vs (inr h) = inr (among_left w us vs h)

among_right : (w : List ℕ) (us vs : List (List ℕ)) → Among w vs → Among w (us ++ vs)
among_right w [] vs h = h
among_right w (u ∷ us) vs h = inr (among_right w us vs h)

among_each : (a : ℕ) (w : List ℕ) (us : List (List ℕ)) → Among w us → Among (a ∷ w) (each_with a us)
among_each a w [] h = absurd h
among_each a w (u ∷ us) (inl e) = inl (ap (λ v. a ∷ v) e)
among_each a w (u ∷ us) (inr h) = inr (among_each a w us h)

same_or_less : (a m : ℕ) → a ≤ suc m → (a ≡ suc m) ⊎ (a ≤ m)
same_or_less a m h = grind arith

among_first : (rest : ℕ → List (List ℕ)) (w : List ℕ) (m c a b : ℕ) → a + b ≡ m + c → a ≤ m → Among w (rest b) → Among (a ∷ w) (with_first rest m c)
among_first rest w zero c a b e h i =
    let n : a ≡ 0 = omega arith in
    let k : b ≡ c = omega arith in
    subst (λ v. Among v (each_with 0 (rest c))) (ap (λ x. x ∷ w) (sym n)) (among_each 0 w (rest c) (subst (λ x. Among w (rest x)) k i))
among_first rest w (suc m) c a b e h i = elim (same_or_less a m h) [
  | inl n ↦
      let k : b ≡ c = omega arith in
      among_left (a ∷ w) (each_with (suc m) (rest c)) (with_first rest m (suc c))
      (subst (λ v. Among v (each_with (suc m) (rest c))) (ap (λ x. x ∷ w) (sym n)) (among_each (suc m) w (rest c) (subst (λ x. Among w (rest x)) k i)))
  | inr l ↦ among_right (a ∷ w) (each_with (suc m) (rest c)) (with_first rest m (suc c)) (among_first rest w m (suc c) a b (omega arith) l i)
]

among_choices : (n k : ℕ) (w : List ℕ) → length w ≡ n → weight_sum w ≡ k → Among w (choices n k)
among_choices zero zero [] l e = inl refl
among_choices zero (suc k) [] l e = absurd (omega (arith, e))
among_choices zero k (a ∷ w) l e = absurd (omega (arith, l))
among_choices (suc n) k [] l e = absurd (omega (arith, l))
among_choices (suc n) k (a ∷ w) l e = among_first (λ b. choices n b) w k 0 a (weight_sum w) (omega (arith, e)) (omega (arith, e)) (among_choices n (weight_sum w) w (omega (arith, l)) refl)

-- ---- and sorting keeps it
among_put : (u w : List ℕ) (vs : List (List ℕ)) → (w ≡ u) ⊎ Among u vs → Among u (put w vs)
among_put u w [] h = h
among_put u w (v ∷ vs) h = go (is_before (rank w) (rank v)) h (λ i. among_put u w vs i)
  where
    go : (b : Bool) → (w ≡ u) ⊎ ((v ≡ u) ⊎ Among u vs) → ((w ≡ u) ⊎ Among u vs → Among u (put w vs)) → Among u (if b then w ∷ v ∷ vs else v ∷ put w vs)
    go true h ih = h
    go false (inl e) ih = inr (ih (inl e))
    go false (inr (inl e)) ih = inl e
    go false (inr (inr i)) ih = inr (ih (inr i))

among_in_order : (u : List ℕ) (ws : List (List ℕ)) → Among u ws → Among u (in_order ws)
among_in_order u [] h = h
among_in_order u (w ∷ ws) (inl e) = among_put u w (in_order ws) (inl e)
among_in_order u (w ∷ ws) (inr h) = among_put u w (in_order ws) (inr (among_in_order u ws h))

place_of : (w : List ℕ) (vs : List (List ℕ)) → Among w vs → (k : ℕ) × (k < length vs) × (get_or vs k [] ≡ w)
place_of w [] h = absurd h
place_of w (v ∷ vs) (inl e) = (0, omega arith, e)
place_of w (v ∷ vs) (inr h) = let p = place_of w vs h in (suc p.0, omega (arith, p.1), p.2)

pub complete : (c : Cell) (q : ℕ) (w : List ℕ) → length w ≡ suc (dimension c) → weight_sum w ≡ q → (k : ℕ) × (k < length (nodes_of c q)) × (get_or (nodes_of c q) k [] ≡ w)
complete c q w l e = place_of w (nodes_of c q) (among_in_order w (choices (suc (dimension c)) q) (among_choices (suc (dimension c)) q w l e))

pub sound : (c : Cell) (q : ℕ) → q ≤ 3 → (k : ℕ) → k < length (nodes_of c q)
    → (length (get_or (nodes_of c q) k []) ≡ suc (dimension c)) × (weight_sum (get_or (nodes_of c q) k []) ≡ q)
sound c q h k g = let n = node_at c q k h (omega (arith, node_number c q h)) in (n.vertices, n.sum)

pub strict_order : (c : Cell) (q : ℕ) → q ≤ 3 → in_strict_order (nodes_of c q) ≡ true
strict_order Interval q h = by_degree (λ q. in_strict_order (nodes_of Interval q) ≡ true) refl refl refl refl q h
strict_order Triangle q h = by_degree (λ q. in_strict_order (nodes_of Triangle q) ≡ true) refl refl refl refl q h
strict_order Tetrahedron q h = by_degree (λ q. in_strict_order (nodes_of Tetrahedron q) ≡ true) refl refl refl refl q h
