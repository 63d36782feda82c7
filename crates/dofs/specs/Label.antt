-- The labels of local nodes. Two nodes of a space are one exactly where their labels are
use Rattle.std.specs.Prelude.{ℕ, zero, suc, List, [], ◌∷◌, map, Option, Some, None, nat_lt, if◌then◌else◌}
use Rattle.spaces.specs.declared.family.Family.{Family}
use Rattle.spaces.specs.declared.family.Family.TheVariants.{Lagrange, Dg, Real}

-- a node of a scalar part: vertices of the mesh with the node's weights there
pub record Label : Type 0 where
  pub part : ℕ
  -- where no other cell has the node
  pub cell : Option ℕ
  pub vertices : List ℕ
  pub weights : List ℕ

-- a vertex and a weight
pub record Weighted : Type 0 where
  pub vertex : ℕ
  pub weight : ℕ

-- into a list that is sorted by vertex
abbrev pub put : Weighted → List Weighted → List Weighted
put p [] = p ∷ []
put p (r ∷ rs) = if nat_lt p.vertex r.vertex then p ∷ r ∷ rs else r ∷ put p rs

-- the vertices of a cell where the weights of a local node are positive, sorted by vertex
abbrev pub weighted : List ℕ → List ℕ → List Weighted
weighted [] ws = []
weighted (v ∷ vs) [] = []
weighted (v ∷ vs) (zero ∷ ws) = weighted vs ws
weighted (v ∷ vs) (suc a ∷ ws) = put (record { vertex = v; weight = suc a }) (weighted vs ws)

abbrev pub vertices_of : List Weighted → List ℕ
vertices_of ps = map (λ (p : Weighted). p.vertex) ps

abbrev pub weights_of : List Weighted → List ℕ
weights_of ps = map (λ (p : Weighted). p.weight) ps

-- only the nodes of a discontinuous part belong to a cell
abbrev pub cell_in_label : Family → ℕ → Option ℕ
cell_in_label Lagrange k = None
cell_in_label Dg k = Some k
cell_in_label Real k = None

-- of the node with these weights on cell k with these vertices
abbrev pub node_label : ℕ → Family → ℕ → List ℕ → List ℕ → Label
node_label part family k vertices weights =
    record { part = part; cell = cell_in_label family k; vertices = vertices_of (weighted vertices weights); weights = weights_of (weighted vertices weights) }
