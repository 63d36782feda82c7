-- Components, one step further
use Rattle.std.proofs.Common.{◌≡◌, ℕ, ◌<◌, ◌≤◌, refl, ◌∙◌, ap, List, [], ◌∷◌, ◌++◌, length, take, drop, arith, ◌-◌, length-drop}
use Rattle.std.proofs.lemmas.List.{take_all}
use Rattle.ufl_tree.specs.declared.function.Ix.{Ix}
use Rattle.ufl_tree.specs.Indices.{front, back, followed_by}

pub followed : (at : List Ix) (i : Ix) → at ++ i ∷ [] ≡ followed_by at i
followed [] i = refl
followed (k ∷ at) i = ap (λ b. k ∷ b) (followed at i)

pub front_short : (shape : List ℕ) (at : List Ix) → length at < length shape → at ≡ front shape at
front_short [] [] h = refl
front_short [] (k ∷ at) h = absurd (omega arith)
front_short (d ∷ ds) [] h = refl
front_short (d ∷ ds) (k ∷ at) h = ap (λ b. k ∷ b) (front_short ds at (omega arith))

pub back_short : (shape : List ℕ) (at : List Ix) → length at < length shape → [] ≡ back shape at
back_short [] [] h = refl
back_short [] (k ∷ at) h = absurd (omega arith)
back_short (d ∷ ds) [] h = refl
back_short (d ∷ ds) (k ∷ at) h = back_short ds at (omega arith)

pub front_taken : (shape : List ℕ) (at : List Ix) → length shape ≤ length at → take (length shape) at ≡ front shape at
front_taken [] at h = refl
front_taken (d ∷ ds) [] h = absurd (omega arith)
front_taken (d ∷ ds) (k ∷ at) h = ap (λ b. k ∷ b) (front_taken ds at (omega arith))

pub back_dropped : (shape : List ℕ) (at : List Ix) → length shape ≤ length at → drop (length shape) at ≡ back shape at
back_dropped [] at h = refl
back_dropped (d ∷ ds) [] h = absurd (omega arith)
back_dropped (d ∷ ds) (k ∷ at) h = back_dropped ds at (omega arith)

pub ruleset parts = (front_short, back_short, front_taken, back_dropped)

pub all_behind : (shape : List ℕ) (at : List Ix) → length shape ≤ length at → take (length at - length shape) (drop (length shape) at) ≡ back shape at
all_behind shape at h = take_all (length at - length shape) (drop (length shape) at) (omega (arith, length-drop (length shape) at)) ∙ back_dropped shape at h
