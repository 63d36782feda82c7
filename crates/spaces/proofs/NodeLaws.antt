-- What the tables of nodes say
use Rattle.std.proofs.Common.{◌≡◌, ℕ, zero, suc, ◌+◌, ◌-◌, ◌<◌, ◌≤◌, Bool, true, false, ◌&&◌, ◌==◌, List, [], ◌∷◌, ◌++◌, length, map, get_or, refl, ap, ◌∙◌, arith}
use Rattle.std.specs.List.{list_all}
use Rattle.std.proofs.lemmas.Bool.Decides.{nat_tests}
use Rattle.spaces.specs.declared.cell.Cell.{Cell}
use Rattle.spaces.specs.declared.cell.Cell.TheVariants.{Interval, Triangle, Tetrahedron}
use Rattle.spaces.specs.Cell.{dimension}
use Rattle.spaces.specs.Family.{node_count}
use Rattle.spaces.specs.Nodes.{weight_sum, nodes_of, padded, zeros}

-- ---- each node of degree q has a weight for each vertex, and they add up to q
abbrev pub is_node : Cell → ℕ → List ℕ → Bool
is_node c q w = length w == suc (dimension c) && weight_sum w == q

pub by_degree : (P : ℕ → Type 0) → P 0 → P 1 → P 2 → P 3 → (q : ℕ) → q ≤ 3 → P q
by_degree P a b c d zero h = a
by_degree P a b c d (suc zero) h = b
by_degree P a b c d (suc (suc zero)) h = c
by_degree P a b c d (suc (suc (suc zero))) h = d
by_degree P a b c d (suc (suc (suc (suc q)))) h = absurd (omega arith)

pub all_nodes : (c : Cell) (q : ℕ) → q ≤ 3 → list_all (is_node c q) (nodes_of c q) ≡ true
all_nodes Interval q h = by_degree (λ q. list_all (is_node Interval q) (nodes_of Interval q) ≡ true) refl refl refl refl q h
all_nodes Triangle q h = by_degree (λ q. list_all (is_node Triangle q) (nodes_of Triangle q) ≡ true) refl refl refl refl q h
all_nodes Tetrahedron q h = by_degree (λ q. list_all (is_node Tetrahedron q) (nodes_of Tetrahedron q) ≡ true) refl refl refl refl q h

-- there are as many as an element has
pub node_number : (c : Cell) (q : ℕ) → q ≤ 3 → length (nodes_of c q) ≡ node_count c q
node_number Interval q h = by_degree (λ q. length (nodes_of Interval q) ≡ node_count Interval q) refl refl refl refl q h
node_number Triangle q h = by_degree (λ q. length (nodes_of Triangle q) ≡ node_count Triangle q) refl refl refl refl q h
node_number Tetrahedron q h = by_degree (λ q. length (nodes_of Tetrahedron q) ≡ node_count Tetrahedron q) refl refl refl refl q h

length-padded_all : (ws : List (List ℕ)) → length (map padded ws) ≡ length ws
length-padded_all [] = refl
length-padded_all (w ∷ ws) = ap suc (length-padded_all ws)

pub table_length : (c : Cell) (q n : ℕ) (ws : List (List ℕ)) → q ≤ 3 → n < node_count c q → ws ≡ map padded (nodes_of c q) → n < length ws
table_length c q n ws h g e = omega (arith, node_number c q h, length-padded_all (nodes_of c q), ap length e)

pub both_true : (a b : Bool) → (a && b) ≡ true → (a ≡ true) × (b ≡ true)
both_true true b h = (refl, h)
both_true false b h = cc

pub all_at : (f : List ℕ → Bool) (ws : List (List ℕ)) (n : ℕ) → list_all f ws ≡ true → n < length ws → f (get_or ws n []) ≡ true
all_at f [] n h g = absurd (omega arith)
all_at f (w ∷ ws) zero h g = (both_true (f w) (list_all f ws) h).0
all_at f (w ∷ ws) (suc n) h g = all_at f ws n (both_true (f w) (list_all f ws) h).1 (omega arith)

padded_at : (ws : List (List ℕ)) (n : ℕ) (d : List ℕ) → n < length ws → get_or (map padded ws) n d ≡ padded (get_or ws n [])
padded_at [] n d h = absurd (omega arith)
padded_at (w ∷ ws) zero d h = refl
padded_at (w ∷ ws) (suc n) d h = padded_at ws n d (omega arith)

pub number_equal : (m n : ℕ) → (m == n) ≡ true → m ≡ n
number_equal m n h = grind (arith, nat_tests)

pub record Node (c : Cell) (q : ℕ) (w : List ℕ) : Type 0 where
  pub vertices : length w ≡ suc (dimension c)
  pub sum : weight_sum w ≡ q

pub node_at : (c : Cell) (q n : ℕ) → q ≤ 3 → n < node_count c q → Node c q (get_or (nodes_of c q) n [])
node_at c q n h g =
    let w = get_or (nodes_of c q) n [] in
    let k : n < length (nodes_of c q) = omega (arith, node_number c q h) in
    let t = both_true (length w == suc (dimension c)) (weight_sum w == q) (all_at (is_node c q) (nodes_of c q) n (all_nodes c q h) k) in
    record { vertices = number_equal _ _ t.0; sum = number_equal _ _ t.1 }

pub entry_at : (c : Cell) (q n : ℕ) (ws : List (List ℕ)) (d : List ℕ) → q ≤ 3 → n < node_count c q → ws ≡ map padded (nodes_of c q)
    → get_or ws n d ≡ padded (get_or (nodes_of c q) n [])
entry_at c q n ws d h g e =
    let k : n < length (nodes_of c q) = omega (arith, node_number c q h) in
    ap (λ vs. get_or vs n d) e ∙ padded_at (nodes_of c q) n d k

-- ---- zeros behind the weights change nothing
length-zeros : (n : ℕ) → length (zeros n) ≡ n
length-zeros zero = refl
length-zeros (suc n) = ap suc (length-zeros n)

length-behind : (ws vs : List ℕ) → length (ws ++ vs) ≡ length ws + length vs
length-behind [] vs = omega arith
length-behind (w ∷ ws) vs = omega (arith, length-behind ws vs)

dimension_few : (c : Cell) → suc (dimension c) ≤ 4
dimension_few Interval = omega arith
dimension_few Triangle = omega arith
dimension_few Tetrahedron = omega arith

pub dimension_range : (c : Cell) → (1 ≤ dimension c) × (dimension c ≤ 3)
dimension_range Interval = (omega arith, omega arith)
dimension_range Triangle = (omega arith, omega arith)
dimension_range Tetrahedron = (omega arith, omega arith)

pub padded_four : (c : Cell) (q : ℕ) (w : List ℕ) → Node c q w → length (padded w) ≡ 4
padded_four c q w n = omega (arith, length-behind w (zeros (4 - length w)), length-zeros (4 - length w), n.vertices, dimension_few c)

sum-zeros : (n : ℕ) → weight_sum (zeros n) ≡ 0
sum-zeros zero = refl
sum-zeros (suc n) = omega (arith, sum-zeros n)

sum-behind : (ws vs : List ℕ) → weight_sum (ws ++ vs) ≡ weight_sum ws + weight_sum vs
sum-behind [] vs = omega arith
sum-behind (w ∷ ws) vs = omega (arith, sum-behind ws vs)

pub padded_sum : (c : Cell) (q : ℕ) (w : List ℕ) → Node c q w → weight_sum (padded w) ≡ q
padded_sum c q w n = omega (arith, sum-behind w (zeros (4 - length w)), sum-zeros (4 - length w), n.sum)
