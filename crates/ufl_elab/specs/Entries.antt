-- The entries of the map that holds the names
use Rattle.std.specs.Prelude.{ℕ, ◌+◌, min, List, [], ◌∷◌, Option, None, Some}
use denote.Bor.{Bor}
use Rattle.ufl_values.specs.Values.{nodes_of}
use Rattle.ufl_elab.specs.declared.bound.Bound.{Bound}
use Rattle.ufl_elab.specs.Names.{Name}

abbrev pub Entry : Type 0
Entry = Bor (List ℕ) × Bound

abbrev pub names_of : List Entry → List Name
names_of [] = []
names_of (e ∷ es) = record { name = e.0.now; bound = e.1 } ∷ names_of es

-- the nodes of all values, each as far as 32 bits go
abbrev pub count_of : List Entry → ℕ
count_of [] = 0
count_of (e ∷ es) = min (nodes_of e.1.value) 4294967295 + count_of es

-- the nodes of what a name was bound to
abbrev pub freed_of : Option Bound → ℕ
freed_of None = 0
freed_of (Some b) = min (nodes_of b.value) 4294967295
