-- Operators on matrices and vectors at a component, by the number of its indices
use Rattle.std.proofs.Common.{◌≡◌, ℕ, max, refl, sym, ◌∙◌, ap, ap₂, List, [], ◌∷◌, ◌++◌}
use Rattle.ufl_tree.specs.declared.function.Ix.{Ix}
use Rattle.ufl_tree.specs.declared.tree.Op1.TheVariants.{Dev}
use Rattle.ufl_tree.specs.Term.{Term, num, dx, delta, prod}
use Rattle.ufl_tree.specs.Indices.{first_size}
use Rattle.lower.specs.Lowering.{Lowered, matrix_term, grad_term, minus_term, trace_term, one_term}
use Rattle.lower.specs.Shares.{share_of}
use Rattle.passes.specs.declared.indices.Entry.{Entry}
use Rattle.passes.specs.Spots.{entry_of, kept}

pub matrix_at : (h : Ix → Ix → Term) (b : List Ix) (n : ℕ) → kept (entry_of b).is n (h (entry_of b).row (entry_of b).col) ≡ matrix_term h b n
matrix_at h [] n = refl
matrix_at h (i ∷ []) n = refl
matrix_at h (i ∷ j ∷ []) n = refl
matrix_at h (i ∷ j ∷ k ∷ b) n = refl

grad_pushed : (f : Lowered) (rest : List Ix) (i : Ix) (n : ℕ) → dx i (f rest n) ≡ grad_term f (rest ++ i ∷ []) n
grad_pushed f [] i n = refl
grad_pushed f (k ∷ []) i n = refl
grad_pushed f (k ∷ j ∷ rest) i n = grad_pushed (λ c m. f (k ∷ c) m) (j ∷ rest) i n

pub grad_at : (f : Lowered) (b rest : List Ix) (i : Ix) (n : ℕ) (p : Term) → b ≡ rest ++ i ∷ [] → p ≡ f rest n → dx i p ≡ grad_term f b n
grad_at f b rest i n p h e = ap (dx i) e ∙ grad_pushed f rest i n ∙ sym (ap (λ b. grad_term f b n) h)

pub dev_at : (f : Lowered) (s : List ℕ) (b : List Ix) (n size : ℕ) (spot : Entry) (rest : Term) → spot ≡ entry_of b → size ≡ first_size s
    → rest ≡ minus_term (f (spot.row ∷ spot.col ∷ []) n) (prod (prod (trace_term size f n) (num (share_of (max size 1)))) (delta spot.row spot.col))
    → kept spot.is n rest ≡ one_term share_of Dev s f b n
dev_at f s b n size spot rest at is h =
    let part : ℕ → Ix → Ix → Term = λ z i j. minus_term (f (i ∷ j ∷ []) n) (prod (prod (trace_term z f n) (num (share_of (max z 1)))) (delta i j)) in
    ap (kept spot.is n) h ∙ ap₂ (λ (e : Entry) (z : ℕ). kept e.is n (part z e.row e.col)) at is ∙ matrix_at (part (first_size s)) b n
