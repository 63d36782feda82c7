-- Indices: the values of their names, their places in a shape, and which of them are summed
use Rattle.std.specs.Prelude.{ℕ, suc, ◌+◌, ◌*◌, ◌==◌, List, [], ◌∷◌, if◌then◌else◌, nat_lt, Option, None, Some}
use Rattle.spaces.specs.declared.cell.Cell.{Cell}
use Rattle.spaces.specs.Cell.{dimension}
use Rattle.ufl_tree.specs.declared.function.Free.{Free}
use Rattle.ufl_tree.specs.declared.function.Ix.{Ix}
use Rattle.ufl_tree.specs.declared.function.Ix.TheVariants.{Fixed, Named}

-- ---- the values of the names
abbrev pub Names : Type 0
Names = ℕ → ℕ

abbrev pub with_name : ℕ → ℕ → Names → Names
with_name i k v j = if j == i then k else v j

-- the names of a binding take the numbers of a component
abbrev pub with_names : List ℕ → List ℕ → Names → Names
with_names [] ks v = v
with_names (i ∷ is) [] v = v
with_names (i ∷ is) (k ∷ ks) v = with_names is ks (with_name i k v)

abbrev pub index_value : Names → Ix → ℕ
index_value v (Fixed k) = k
index_value v (Named i) = v i

abbrev pub index_values : Names → List Ix → List ℕ
index_values v [] = []
index_values v (i ∷ is) = index_value v i ∷ index_values v is

-- ---- components: lists of numbers, one for each size of a shape
-- the place of a component in the flat list, the last index running fastest, if it is one of the shape
abbrev pub place_from : ℕ → List ℕ → List ℕ → Option ℕ
place_from n [] [] = Some n
place_from n (d ∷ ds) (k ∷ ks) = if nat_lt k d then place_from (n * d + k) ds ks else None
place_from n _ _ = None

abbrev pub place : List ℕ → List ℕ → Option ℕ
place = place_from 0

-- the first numbers, as many as the shape has sizes
abbrev pub front : {A : Type 0} → List ℕ → List A → List A
front [] b = []
front (d ∷ ds) [] = []
front (d ∷ ds) (x ∷ b) = x ∷ front ds b

-- those behind them
abbrev pub back : {A : Type 0} → List ℕ → List A → List A
back [] b = b
back (d ∷ ds) [] = []
back (d ∷ ds) (x ∷ b) = back ds b

abbrev pub followed_by : {A : Type 0} → List A → A → List A
followed_by [] y = y ∷ []
followed_by (x ∷ xs) y = x ∷ followed_by xs y

abbrev pub all_but_first : List ℕ → List ℕ
all_but_first [] = []
all_but_first (d ∷ ds) = ds

abbrev pub first_size : List ℕ → ℕ
first_size [] = 0
first_size (d ∷ ds) = d

abbrev pub last_size : List ℕ → ℕ
last_size [] = 0
last_size (d ∷ []) = d
last_size (d ∷ e ∷ ds) = last_size (e ∷ ds)

-- ---- indices that are summed
-- the names at the places of a shape, with the sizes there
abbrev pub named : List Ix → List ℕ → List Free
named (Fixed k ∷ at) (d ∷ ds) = named at ds
named (Named i ∷ at) (d ∷ ds) = record { index = i; dim = d } ∷ named at ds
named _ _ = []

-- the name of a direction, with the dimension of the cell
abbrev pub cell_size : Option Cell → ℕ
cell_size None = 0
cell_size (Some c) = dimension c

abbrev pub direction : Ix → Option Cell → List Free
direction i c = named (i ∷ []) (cell_size c ∷ [])

abbrev pub count_of : ℕ → List Free → ℕ
count_of i [] = 0
count_of i (x ∷ xs) = if x.index == i then suc (count_of i xs) else count_of i xs

-- each index that occurs twice or more, once
abbrev pub repeated : List Free → List Free
repeated [] = []
repeated (x ∷ xs) = if count_of x.index xs == 1 then x ∷ repeated xs else repeated xs
