-- What a run is on, and what it gives
use Rattle.std.specs.Prelude.{ℕ, Bool, true, false, List, [], ◌∷◌, ◌++◌, slice_index_or}
use Rattle.algebra.specs.Fraction.{Fraction}
use Rattle.c_run.specs.Answer.{Answer, Good, Passed, Zero}
use Rattle.mesh_in.specs.MeshData.{MeshData}

-- the coordinates of the vertices of a cell, one after the other
abbrev pub coordinates_of : MeshData Fraction → List ℕ → List Fraction
coordinates_of m [] = []
coordinates_of m (v ∷ vs) = slice_index_or m.points v [] ++ coordinates_of m vs

-- the local tensor, row by row, of a run that goes to its end
abbrev pub tensor_of : Answer → List Fraction
tensor_of (Good a) = a
tensor_of (Passed at op l r a) = []
tensor_of (Zero at a) = []

abbrev pub is_good : Answer → Bool
is_good (Good a) = true
is_good (Passed at op l r a) = false
is_good (Zero at a) = false
