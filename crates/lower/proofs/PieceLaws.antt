-- A sub-element's component is the function's, where the sub-element stands in the flat list
use Rattle.std.proofs.Common.{◌≡◌, ℕ, zero, suc, ◌+◌, ◌*◌, ◌<◌, ◌≤◌, Bool, true, false, List, [], ◌∷◌, ◌++◌, length, if◌then◌else◌, nat_lt, ltb-true, Option, None, Some, slice_get, refl, sym, ◌∙◌, ap, subst, arith}
use Rattle.std.proofs.lemmas.Bool.Decides.{nat_tests}
use native.Mathlib.Nat as N
use Rattle.calculus.specs.Polynomial.{Polynomial, nil}
use Rattle.spaces.specs.Scalar.{Scalar, repeated}
use Rattle.spaces.specs.Space.{Space, scalar, vector, tensor, mixed, Spaces, no_spaces, space, scalars, scalars_of, is_scalar, IsLawful, AreLawful}
use Rattle.ufl_tree.specs.declared.function.Function.{Function}
use Rattle.ufl_tree.specs.declared.function.Ix.{Ix}
use Rattle.ufl_meaning.specs.Environment.{Environment}
use Rattle.ufl_tree.specs.Indices.{Names, index_value, index_values, place_from}
use Rattle.ufl_meaning.specs.Meaning.{meaning, item_meaning}
use Rattle.ufl_meaning.specs.Operators.{at_place}
use Rattle.ufl_tree.specs.Places.{Table, IsLawfulTable, Piece, element_shape, piece_from, place_after, place_in, place_in_piece, sub_element, function_place, piece_place}
use Rattle.ufl_tree.specs.Term.{Term}
use Rattle.lower.specs.Lowering.{terms_from, place_term, piece_term}

-- how many components a shape has
abbrev count : List ℕ → ℕ
count [] = 1
count (d ∷ s) = d * count s

-- ---- a sub-element is within its list
append_length : (ps qs : List Scalar) → length (ps ++ qs) ≡ length ps + length qs
append_length [] qs = omega arith
append_length (p ∷ ps) qs = let h = append_length ps qs in omega (arith, h)

repeated_length : (n : ℕ) (p : Scalar) → length (repeated n (p ∷ [])) ≡ n
repeated_length zero p = refl
repeated_length (suc n) p = ap suc (repeated_length n p)

vector_length : (s : Space) (n : ℕ) → is_scalar s ≡ true → length (repeated n (scalars s)) ≡ n
vector_length (scalar f c q) n h = repeated_length n _
vector_length (vector s k) n h = cc
vector_length (tensor s k j) n h = cc
vector_length (mixed ss) n h = cc

shape_count : (s : Space) → IsLawful s → count (element_shape s) ≡ length (scalars s)
shape_count (scalar f c q) h = refl
shape_count (vector s n) h = N.mul-one n ∙ sym (vector_length s n h.1)
shape_count (tensor s k n) h = ap (λ x. k * x) (N.mul-one n) ∙ sym (vector_length s (k * n) h.1)
shape_count (mixed ss) h = N.mul-one _

-- this many components from `before` on are among n
abbrev IsWithin : ℕ → Option Piece → Type 0
IsWithin n None = Unit {0}
IsWithin n (Some p) = p.before + count (element_shape p.space) ≤ n

within_more : (a n : ℕ) (p : Option Piece) → a ≡ n → IsWithin a p → IsWithin n p
within_more a n p e h = subst (λ x. IsWithin x p) e h

piece_within : (q : ℕ) (ss : Spaces) (k : ℕ) → AreLawful ss → IsWithin (q + length (scalars_of ss)) (piece_from q ss k)
piece_within q no_spaces k h = tt
piece_within q (space s ss) zero h =
    let c = shape_count s h.0 in
    let e = append_length (scalars s) (scalars_of ss) in
    omega (arith, c, e)
piece_within q (space s ss) (suc k) h =
    let e = append_length (scalars s) (scalars_of ss) in
    within_more _ _ (piece_from (q + length (scalars s)) ss k) (omega (arith, e)) (piece_within (q + length (scalars s)) ss k h.1)

abbrev IsLawfulIf : Option Space → Type 0
IsLawfulIf None = Unit {0}
IsLawfulIf (Some s) = IsLawful s

-- ---- an item of a list by its number
module _ (elements : Table) (env : Environment) (v : Names) where
  item_within : (F : ℕ → Term) (j d x : ℕ) → x < d → item_meaning elements (terms_from j d F) env v x ≡ meaning elements (F (j + x)) env v
  item_within F j zero x h = absurd (omega (arith, h))
  item_within F j (suc d) zero h = ap (λ i. meaning elements (F i) env v) (sym (N.add-zero j))
  item_within F j (suc d) (suc x) h = item_within F (suc j) d x (omega (arith, h)) ∙ ap (λ i. meaning elements (F i) env v) (omega arith)

  item_beyond : (F : ℕ → Term) (j d x : ℕ) → d ≤ x → item_meaning elements (terms_from j d F) env v x ≡ nil
  item_beyond F j zero x h = refl
  item_beyond F j (suc d) zero h = absurd (omega (arith, h))
  item_beyond F j (suc d) (suc x) h = item_beyond F (suc j) d x (omega (arith, h))

is_less : (x d : ℕ) → x < d → nat_lt x d ≡ true
is_less x d h = grind (arith, nat_tests)

not_less : (x d : ℕ) → nat_lt x d ≡ false → d ≤ x
not_less x d h = grind (arith, nat_tests)

rows : (k d x : ℕ) → x < d → suc (k * d + x) ≤ suc k * d
rows k d x h = let e = N.suc-mul k d in omega (arith, h, e)

below_places : (k d c x n : ℕ) → suc k * (d * c) ≤ n → x < d → suc (k * d + x) * c ≤ n
below_places k d c x n h g =
    N.le_trans (N.mul-le-mul (rows k d x g) (N.le_refl c)) (subst (λ y. y ≤ n) (sym (N.mul_assoc (suc k) d c)) h)

-- an item is that of its number, or 0
item_kept : (elements : Table) (env : Environment) (v : Names) (before d : ℕ) (F : ℕ → Term) (G : ℕ → Option ℕ) (p : ℕ → Polynomial)
    → ((x : ℕ) → x < d → meaning elements (F x) env v ≡ at_place (place_after before (G x)) p) → (x : ℕ)
    → item_meaning elements (terms_from 0 d F) env v x ≡ at_place (place_after before (if nat_lt x d then G x else None)) p
item_kept elements env v before d F G p h x = decided (nat_lt x d) refl
  where
    decided : (t : Bool) → nat_lt x d ≡ t → item_meaning elements (terms_from 0 d F) env v x ≡ at_place (place_after before (if t then G x else None)) p
    decided true e = item_within elements env v F 0 d x (ltb-true x d e) ∙ ap (λ i. meaning elements (F i) env v) (N.zero-add x) ∙ h x (ltb-true x d e)
    decided false e = item_beyond elements env v F 0 d x (not_less x d e)

module _ (elements : Table) (env : Environment) (v : Names) (f : Function) where
  -- the function has these n components from `before` on
  abbrev Holds : ℕ → ℕ → Type 0
  Holds before n = (x : ℕ) → x < n → function_place elements f ((before + x) ∷ []) ≡ Some (before + x)

  place_kept : (before n : ℕ) → Holds before n → (s : List ℕ) (k : ℕ) (b : List Ix) (i : ℕ) → suc k * count s ≤ n
      → meaning elements (place_term f before s k b i) env v ≡ at_place (place_after before (place_from k s (index_values v b))) (env.value f.role)
  place_kept before n H [] k [] i h = ap (λ p. at_place p (env.value f.role)) (H k (omega (arith, h)))
  place_kept before n H [] k (x ∷ b) i h = refl
  place_kept before n H (d ∷ s) k [] i h = refl
  place_kept before n H (d ∷ s) k (x ∷ b) i h =
      item_kept elements env v before d (λ j. place_term f before s (k * d + j) b i) (λ j. place_from (k * d + j) s (index_values v b)) (env.value f.role)
      (λ j g. place_kept before n H s (k * d + j) b i (below_places k d (count s) j n h g)) (index_value v x)

  some_kept : (p : Option Piece) (l : ℕ) → IsWithin l p → Holds 0 l → (b : List Ix) (i : ℕ)
      → meaning elements (piece_term p f b i) env v ≡ at_place (place_in_piece p (index_values v b)) (env.value f.role)
  some_kept None l h H b i = refl
  some_kept (Some p) l h H b i =
      place_kept p.before (count (element_shape p.space)) (λ x g. ap (λ y. function_place elements f (y ∷ [])) (sym (N.zero-add (p.before + x))) ∙ H (p.before + x) (omega (arith, h, g)) ∙ ap Some (N.zero-add (p.before + x))) (element_shape p.space) 0 b i (omega arith)

  place_held : (l x : ℕ) → x < l → place_from 0 (l ∷ []) (x ∷ []) ≡ Some x
  place_held l x h = ap (λ t. if t then Some (0 * l + x) else None) (is_less x l h) ∙ ap Some (omega arith)

  in_space : (o : Option Space) → slice_get elements f.element ≡ o → IsLawfulIf o → (k : ℕ) (b : List Ix) (i : ℕ)
      → meaning elements (piece_term (sub_element o k) f b i) env v ≡ at_place (place_in_piece (sub_element o k) (index_values v b)) (env.value f.role)
  in_space None e h k b i = refl
  in_space (Some (scalar g c q)) e h k b i = refl
  in_space (Some (vector s n)) e h k b i = refl
  in_space (Some (tensor s m n)) e h k b i = refl
  in_space (Some (mixed ss)) e h k b i =
      some_kept (piece_from 0 ss k) (length (scalars_of ss)) (within_more _ _ (piece_from 0 ss k) (N.zero-add _) (piece_within 0 ss k h.0))
      (λ x g. ap (λ o. place_in o ((0 + x) ∷ [])) e ∙ place_held (length (scalars_of ss)) (0 + x) (omega (arith, g))) b i

-- an element of a lawful table is lawful
lawful_at : (elements : Table) → IsLawfulTable elements → (k : ℕ) → IsLawfulIf (slice_get elements k)
lawful_at [] h k = tt
lawful_at (s ∷ ss) h zero = h.0
lawful_at (s ∷ ss) h (suc k) = lawful_at ss h.1 k

pub piece_kept : (elements : Table) → IsLawfulTable elements → (f : Function) (k : ℕ) (env : Environment) (v : Names) (b : List Ix) (n : ℕ)
    → meaning elements (piece_term (sub_element (slice_get elements f.element) k) f b n) env v ≡ at_place (piece_place elements f k (index_values v b)) (env.value f.role)
piece_kept elements h f k env v b n = in_space elements env v f (slice_get elements f.element) refl (lawful_at elements h f.element) k b n
