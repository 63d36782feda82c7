-- Typed trees as plain trees. Each index sum takes the next name; a component of the wrong length is 0, with the weight of the node
use Rattle.std.specs.Prelude.{ℕ, zero, suc, ◌+◌, ◌*◌, max, List, [], ◌∷◌, ◌++◌, Option, None, Some, slice_get}
use Rattle.ratio.specs.declared.reduced.Ratio.{Ratio}
use Rattle.ufl_tree.specs.declared.function.Free.{Free}
use Rattle.ufl_tree.specs.declared.function.Function.{Function}
use Rattle.ufl_tree.specs.declared.function.Ix.{Ix}
use Rattle.ufl_tree.specs.declared.function.Ix.TheVariants.{Fixed, Named}
use Rattle.ufl_tree.specs.declared.tree.Op1.{Op1}
use Rattle.ufl_tree.specs.declared.tree.Op1.TheVariants.{Neg, Grad, NablaGrad, Div, NablaDiv, Curl, Transpose, Trace, Sym, Skew, Dev}
use Rattle.ufl_tree.specs.declared.tree.Op2.{Op2}
use Rattle.ufl_tree.specs.declared.tree.Op2.TheVariants.{Sum, Product, Dot, Inner, Outer, Cross}
use Rattle.ufl_tree.specs.Indices.{front, back, followed_by, first_size, last_size, named, direction, repeated}
use Rattle.monos.specs.Summed.{summed}
use Rattle.ufl_tree.specs.Places.{Table, Piece, sub_element, element_shape}
use Rattle.ufl_tree.specs.Term.{Term, num, fun, mark, neg, sum, prod, over, dx, delta, pick, raise, Terms, no_terms, term}
use Rattle.ufl_tree.specs.Typed.{Typed, number, identity, function, piece, one, two, power, index, partial, tensor, list, variable, diff, TypedList, no_items, item, own_kind, shape_of, free_of}
use Rattle.lower.specs.Renaming.{zero_term, unit_term, Renaming, with_index, renamed, all_renamed}

abbrev pub with_indices : List ℕ → List Ix → Renaming → Renaming
with_indices (i ∷ is) (x ∷ xs) r = with_indices is xs (with_index i x r)
with_indices [] xs r = r
with_indices (i ∷ is) [] r = r

-- a component, where names from a number on are free
abbrev pub Lowered : Type 0
Lowered = List Ix → ℕ → Term

-- 0, with the weight of e
abbrev pub nothing : Term → ℕ → Term
nothing e n = over n 0 e

abbrev pub over_names : List Free → (Renaming → ℕ → Term) → Renaming → ℕ → Term
over_names [] f r n = f r n
over_names (x ∷ xs) f r n = over n x.dim (over_names xs f (with_index x.index (Named n) r) (suc n))

abbrev pub over_components : List ℕ → Lowered → ℕ → Term
over_components [] f n = f [] n
over_components (d ∷ ds) f n = over n d (over_components ds (λ c m. f (Named n ∷ c) m) (suc n))

abbrev pub terms_from : ℕ → ℕ → (ℕ → Term) → Terms
terms_from j zero f = no_terms
terms_from j (suc n) f = term (f j) (terms_from (suc j) n f)

-- ---- operators
abbrev pub grad_term : Lowered → List Ix → ℕ → Term
grad_term f [] n = nothing (dx (Fixed 0) (f [] n)) n
grad_term f (i ∷ []) n = dx i (f [] n)
grad_term f (i ∷ j ∷ b) n = grad_term (λ c m. f (i ∷ c) m) (j ∷ b) n

abbrev pub nabla_grad_term : Lowered → List Ix → ℕ → Term
nabla_grad_term f [] n = nothing (dx (Fixed 0) (f [] n)) n
nabla_grad_term f (i ∷ b) n = dx i (f b n)

abbrev pub minus_term : Term → Term → Term
minus_term a b = sum a (neg b)

abbrev pub rotated_term : (ℕ → ℕ → Term) → List Ix → ℕ → Term
rotated_term h (i ∷ []) n =
    pick i (term (minus_term (h 1 2) (h 2 1)) (term (minus_term (h 2 0) (h 0 2)) (term (minus_term (h 0 1) (h 1 0)) no_terms)))
rotated_term h _ n = nothing (minus_term (h 0 0) (h 0 0)) n

abbrev pub curl_term : List ℕ → Lowered → List Ix → ℕ → Term
curl_term [] f (i ∷ []) n = pick i (term (dx (Fixed 1) (f [] n)) (term (neg (dx (Fixed 0) (f [] n))) no_terms))
curl_term [] f b n = nothing (dx (Fixed 0) (f [] n)) n
curl_term (m ∷ s) f [] n = minus_term (dx (Fixed 0) (f (Fixed 1 ∷ []) n)) (dx (Fixed 1) (f (Fixed 0 ∷ []) n))
curl_term (m ∷ s) f (i ∷ b) n = rotated_term (λ j k. dx (Fixed j) (f (Fixed k ∷ []) n)) (i ∷ b) n

abbrev pub matrix_term : (Ix → Ix → Term) → List Ix → ℕ → Term
matrix_term h (i ∷ j ∷ []) n = h i j
matrix_term h _ n = nothing (h (Fixed 0) (Fixed 0)) n

abbrev pub trace_term : ℕ → Lowered → ℕ → Term
trace_term d f n = over n d (f (Named n ∷ Named n ∷ []) (suc n))

-- `share n` is 1/n
abbrev pub one_term : (ℕ → Ratio) → Op1 → List ℕ → Lowered → Lowered
one_term share Neg s f b n = neg (f b n)
one_term share Grad s f b n = grad_term f b n
one_term share NablaGrad s f b n = nabla_grad_term f b n
one_term share Div s f b n = over n (last_size s) (dx (Named n) (f (followed_by b (Named n)) (suc n)))
one_term share NablaDiv s f b n = over n (first_size s) (dx (Named n) (f (Named n ∷ b) (suc n)))
one_term share Curl s f b n = curl_term s f b n
one_term share Transpose s f b n = matrix_term (λ i j. f (j ∷ i ∷ []) n) b n
one_term share Trace s f b n = trace_term (first_size s) f n
one_term share Sym s f b n = matrix_term (λ i j. prod (num (share 2)) (sum (f (i ∷ j ∷ []) n) (f (j ∷ i ∷ []) n))) b n
one_term share Skew s f b n = matrix_term (λ i j. prod (num (share 2)) (minus_term (f (i ∷ j ∷ []) n) (f (j ∷ i ∷ []) n))) b n
one_term share Dev s f b n =
    matrix_term (λ i j. minus_term (f (i ∷ j ∷ []) n) (prod (prod (trace_term (first_size s) f n) (num (share (max (first_size s) 1)))) (delta i j))) b n

abbrev pub dot_term : List ℕ → Lowered → Lowered → Lowered
dot_term [] f g b n = prod (f [] n) (g b n)
dot_term (d ∷ s) f g b n = over n (last_size (d ∷ s)) (prod (f (followed_by (front s b) (Named n)) (suc n)) (g (Named n ∷ back s b) (suc n)))

abbrev pub product_term : List ℕ → List ℕ → Lowered → Lowered → Lowered
product_term [] t f g b n = prod (f [] n) (g b n)
product_term (d ∷ s) [] f g b n = prod (f b n) (g [] n)
product_term (d ∷ s) (e ∷ t) f g b n = dot_term (d ∷ s) f g b n

abbrev pub two_term : Op2 → List ℕ → List ℕ → Lowered → Lowered → Lowered
two_term Sum s t f g b n = sum (f b n) (g b n)
two_term Product s t f g b n = product_term s t f g b n
two_term Dot s t f g b n = dot_term s f g b n
two_term Inner s t f g b n = over_components s (λ c m. prod (f c m) (g c m)) n
two_term Outer s t f g b n = prod (f (front s b) n) (g (back s b) n)
two_term Cross s t f g b n = rotated_term (λ j k. prod (f (Fixed j ∷ []) n) (g (Fixed k ∷ []) n)) b n

abbrev pub power_term : Term → ℕ → Term
power_term a zero = unit_term
power_term a (suc zero) = a
power_term a (suc (suc n)) = prod (power_term a (suc n)) a

abbrev pub identity_term : List Ix → Term
identity_term (i ∷ j ∷ []) = delta i j
identity_term _ = zero_term

abbrev pub chosen_term : (List Ix → Terms) → List Ix → ℕ → Term
chosen_term f [] n = nothing (pick (Fixed 0) (f [])) n
chosen_term f (i ∷ b) n = pick i (f b)

-- the component of a sub-element: the function's component at that place, `before` and then k in the flat list
abbrev pub place_term : Function → ℕ → List ℕ → ℕ → List Ix → ℕ → Term
place_term f before [] k [] n = fun f (Fixed (before + k) ∷ [])
place_term f before (d ∷ s) k (i ∷ b) n = pick i (terms_from 0 d (λ j. place_term f before s (k * d + j) b n))
place_term f before _ k _ n = nothing (fun f []) n

abbrev pub piece_term : Option Piece → Function → List Ix → ℕ → Term
piece_term None f b n = nothing (fun f []) n
piece_term (Some p) f b n = place_term f p.before (element_shape p.space) 0 b n

module _ (share : ℕ → Ratio) (elements : Table) where
  abbrev mutual
    pub lower : Typed → Renaming → List Ix → ℕ → Term
    lower (number k c) r b n = num c
    lower (identity k m) r b n = identity_term b
    lower (function k f) r b n = fun f b
    lower (piece k f m) r b n = piece_term (sub_element (slice_get elements f.element) m) f b n
    lower (one k op a) r b n = one_term share op (shape_of a) (λ c m. lower a r c m) b n
    lower (two k op a d) r b n =
        over_names (summed op (free_of a) (free_of d)) (λ r n. two_term op (shape_of a) (shape_of d) (λ c m. lower a r c m) (λ c m. lower d r c m) b n) r n
    lower (power k a m) r b n = power_term (lower a r [] n) m
    lower (index k a at) r b n = over_names (repeated (free_of a ++ named at (shape_of a))) (λ r n. lower a r (all_renamed r at ++ b) n) r n
    lower (partial k a i) r b n = over_names (repeated (free_of a ++ direction i (own_kind a).cell)) (λ r n. dx (renamed r i) (lower a r b n)) r n
    lower (tensor k a by) r b n = lower a (with_indices by b r) [] n
    lower (list k ts) r b n = chosen_term (λ c. lower_all ts r c n) b n
    lower (variable k l a) r b n = mark l b (lower a r b n)
    lower (diff k l by a) r b n = raise l (back (shape_of a) b) (lower a r (front (shape_of a) b) n)

    pub lower_all : TypedList → Renaming → List Ix → ℕ → Terms
    lower_all no_items r b n = no_terms
    lower_all (item t ts) r b n = term (lower t r b n) (lower_all ts r b n)
