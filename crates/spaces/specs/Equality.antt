-- Equal elements
use Rattle.std.specs.Prelude.{ℕ, ◌==◌, Bool, true, false, if◌then◌else◌}
use Rattle.spaces.specs.Cell.{same_cell}
use Rattle.spaces.specs.declared.family.Family.{Family}
use Rattle.spaces.specs.declared.family.Family.TheVariants.{Lagrange, Dg, Real}
use Rattle.spaces.specs.Space.{Space, scalar, vector, tensor, mixed, Spaces, no_spaces, space}

abbrev pub same_family : Family → Family → Bool
same_family Lagrange Lagrange = true
same_family Dg Dg = true
same_family Real Real = true
same_family _ _ = false

abbrev pub same_sizes : ℕ → ℕ → ℕ → ℕ → Bool
same_sizes m n k l = if m == k then n == l else false

abbrev mutual
  pub same_space : Space → Space → Bool
  same_space (scalar f c q) (scalar g e r) = if same_family f g then (if same_cell c e then q == r else false) else false
  same_space (vector s m) (vector t n) = if m == n then same_space s t else false
  same_space (tensor s m n) (tensor t k l) = if same_sizes m n k l then same_space s t else false
  same_space (mixed ss) (mixed ts) = same_spaces ss ts
  same_space _ _ = false

  pub same_spaces : Spaces → Spaces → Bool
  same_spaces no_spaces no_spaces = true
  same_spaces (space s ss) (space t ts) = if same_space s t then same_spaces ss ts else false
  same_spaces _ _ = false
