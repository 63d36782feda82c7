-- The local nodes of an element of degree q: all lists of weights, one for each vertex, that add up to q, in order
use Rattle.std.specs.Prelude.{ℕ, zero, suc, ◌+◌, ◌-◌, Bool, true, false, ◌&&◌, ◌||◌, ◌==◌, nat_lt, if◌then◌else◌, List, [], ◌∷◌, ◌++◌, length}
use Rattle.spaces.specs.declared.cell.Cell.{Cell}
use Rattle.spaces.specs.Cell.{dimension}

-- the degree of a node
abbrev pub weight_sum : List ℕ → ℕ
weight_sum [] = 0
weight_sum (a ∷ weights) = a + weight_sum weights

abbrev pub each_with : ℕ → List (List ℕ) → List (List ℕ)
each_with a [] = []
each_with a (w ∷ ws) = (a ∷ w) ∷ each_with a ws

-- a first weight of at most a, and what is left of the sum, which is b and what a lacks
abbrev pub with_first : (ℕ → List (List ℕ)) → ℕ → ℕ → List (List ℕ)
with_first rest zero b = each_with 0 (rest b)
with_first rest (suc a) b = each_with (suc a) (rest b) ++ with_first rest a (suc b)

-- all lists of n weights that add up to q
abbrev pub choices : ℕ → ℕ → List (List ℕ)
choices zero zero = [] ∷ []
choices zero (suc q) = []
choices (suc n) q = with_first (λ b. choices n b) q 0

-- the vertices with a positive weight, numbered from j on, and these weights
abbrev pub vertices_from : ℕ → List ℕ → List ℕ
vertices_from j [] = []
vertices_from j (zero ∷ ws) = vertices_from (suc j) ws
vertices_from j (suc a ∷ ws) = j ∷ vertices_from (suc j) ws

abbrev pub positive : List ℕ → List ℕ
positive [] = []
positive (zero ∷ ws) = positive ws
positive (suc a ∷ ws) = suc a ∷ positive ws

-- nodes are sorted by the number of positive weights, then by their vertices, then by these weights
abbrev pub rank : List ℕ → List ℕ
rank w = length (positive w) ∷ (vertices_from 0 w ++ positive w)

abbrev pub is_before : List ℕ → List ℕ → Bool
is_before [] ys = true
is_before (x ∷ xs) [] = false
is_before (x ∷ xs) (y ∷ ys) = nat_lt x y || (x == y && is_before xs ys)

abbrev pub put : List ℕ → List (List ℕ) → List (List ℕ)
put w [] = w ∷ []
put w (v ∷ vs) = if is_before (rank w) (rank v) then w ∷ v ∷ vs else v ∷ put w vs

abbrev pub in_order : List (List ℕ) → List (List ℕ)
in_order [] = []
in_order (w ∷ ws) = put w (in_order ws)

abbrev pub nodes_of : Cell → ℕ → List (List ℕ)
nodes_of c q = in_order (choices (suc (dimension c)) q)

abbrev pub zeros : ℕ → List ℕ
zeros zero = []
zeros (suc n) = 0 ∷ zeros n

-- four weights, with 0 behind the vertices of the cell
abbrev pub padded : List ℕ → List ℕ
padded w = w ++ zeros (4 - length w)

-- the first place where two lists differ decides
abbrev pub comes_before : List ℕ → List ℕ → Bool
comes_before [] [] = false
comes_before [] (y ∷ ys) = true
comes_before (x ∷ xs) [] = false
comes_before (x ∷ xs) (y ∷ ys) = nat_lt x y || (x == y && comes_before xs ys)

abbrev pub before_all : List ℕ → List (List ℕ) → Bool
before_all w [] = true
before_all w (v ∷ vs) = comes_before (rank w) (rank v) && before_all w vs

-- each node comes before all behind it, so none stands twice
abbrev pub in_strict_order : List (List ℕ) → Bool
in_strict_order [] = true
in_strict_order (w ∷ ws) = before_all w ws && in_strict_order ws
