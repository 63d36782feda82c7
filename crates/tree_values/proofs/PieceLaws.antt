-- The parts of mixed elements, counted and placed
use Rattle.std.proofs.Common.{◌≡◌, ℕ, suc, ◌+◌, ◌*◌, ◌<◌, sym, ◌∙◌, ap, ap₂, List, [], ◌∷◌, ◌++◌, length, take, get_or, arith, length-append, None}
use Rattle.spaces.specs.declared.cell.Cell.{Cell}
use Rattle.spaces.specs.declared.family.Family.{Family}
use Rattle.spaces.specs.declared.element_tree.ElementTree.{ElementTree}
use Rattle.spaces.specs.declared.element_tree.ElementTree.TheVariants as v
use Rattle.spaces.specs.Space.{Space, scalars, scalars_of}
use Rattle.spaces.specs.Reading.{space_of, spaces_in}
use Rattle.spaces.proofs.ReadingLaws.{space_of-Scalar, space_of-Vector, space_of-Tensor, space_of-Mixed}
use Rattle.spaces.proofs.SpaceLaws.{length-repeated}
use Rattle.ufl_tree.specs.Indices.{place}
use Rattle.ufl_tree.specs.Places.{element_shape, piece_from, piece_of, place_after, place_in_piece}
use Rattle.tree_values.proofs.SceneLaws.{next}

abbrev size_of : ElementTree → ℕ
size_of t = length (scalars (space_of t))

pub count_scalar : (t : ElementTree) (f : Family) (c : Cell) (q : ℕ) → t ≡ v.Scalar f c q → 1 ≡ length (scalars (space_of t))
count_scalar t f c q h = sym (ap size_of h ∙ ap (λ s. length (scalars s)) (space_of-Scalar f c q))

pub count_vector : (t p x : ElementTree) (n : ℕ) → t ≡ v.Vector p n → x ≡ p → n * length (scalars (space_of x)) ≡ length (scalars (space_of t))
count_vector t p x n h e =
    ap (λ x. n * size_of x) e ∙ sym (length-repeated n (scalars (space_of p))) ∙ sym (ap size_of h ∙ ap (λ s. length (scalars s)) (space_of-Vector p n))

pub count_tensor : (t p x : ElementTree) (m n : ℕ) → t ≡ v.Tensor p m n → x ≡ p → (m * n) * length (scalars (space_of x)) ≡ length (scalars (space_of t))
count_tensor t p x m n h e =
    ap (λ x. (m * n) * size_of x) e ∙ sym (length-repeated (m * n) (scalars (space_of p))) ∙ sym (ap size_of h ∙ ap (λ s. length (scalars s)) (space_of-Tensor p m n))

pub count_mixed : (t : ElementTree) (ts xs : List ElementTree) → t ≡ v.Mixed ts → xs ≡ ts → length (scalars_of (spaces_in xs)) ≡ length (scalars (space_of t))
count_mixed t ts xs h e = ap (λ x. length (scalars_of (spaces_in x))) e ∙ sym (ap size_of h ∙ ap (λ s. length (scalars s)) (space_of-Mixed ts))

count-push : (ts : List ElementTree) (t : ElementTree) → length (scalars_of (spaces_in (ts ++ t ∷ []))) ≡ length (scalars_of (spaces_in ts)) + size_of t
count-push [] t = omega (arith, length-append (scalars (space_of t)) [])
count-push (x ∷ ts) t =
    omega (arith, count-push ts t, length-append (scalars (space_of x)) (scalars_of (spaces_in (ts ++ t ∷ []))), length-append (scalars (space_of x)) (scalars_of (spaces_in ts)))

pub count_next : (ts : List ElementTree) (i : ℕ) (t : ElementTree) (total more own : ℕ) → i < length ts → t ≡ get_or ts i t → total ≡ length (scalars_of (spaces_in (take i ts)))
    → own ≡ length (scalars (space_of t)) → more ≡ total + own → more ≡ length (scalars_of (spaces_in (take (i + 1) ts)))
count_next ts i t total more own h e was is now = now ∙ ap₂ (λ a b. a + b) was is ∙ sym (ap (λ x. length (scalars_of (spaces_in x))) (next ts i t h e) ∙ count-push (take i ts) t)

-- ---- places
pub place_mixed : (t : ElementTree) (ts xs : List ElementTree) (n : ℕ) (b : List ℕ) → t ≡ v.Mixed ts → xs ≡ ts → n ≡ length (scalars_of (spaces_in xs)) → place (n ∷ []) b ≡ place (element_shape (space_of t)) b
place_mixed t ts xs n b h e is =
    ap (λ k. place (k ∷ []) b) (is ∙ ap (λ x. length (scalars_of (spaces_in x))) e) ∙ sym (ap (λ s. place (element_shape s) b) (ap space_of h ∙ space_of-Mixed ts))

pub piece_mixed : (t : ElementTree) (ts xs : List ElementTree) (k : ℕ) (b : List ℕ) → t ≡ v.Mixed ts → xs ≡ ts → place_in_piece (piece_from 0 (spaces_in xs) k) b ≡ place_in_piece (piece_of (space_of t) k) b
piece_mixed t ts xs k b h e = ap (λ x. place_in_piece (piece_from 0 (spaces_in x) k) b) e ∙ sym (ap (λ s. place_in_piece (piece_of s k) b) (ap space_of h ∙ space_of-Mixed ts))

no_piece : (t u : ElementTree) (s : Space) (k : ℕ) (b : List ℕ) → t ≡ u → space_of u ≡ s → place_in_piece (piece_of s k) b ≡ place_in_piece (piece_of (space_of t) k) b
no_piece t u s k b h e = sym (ap (λ s. place_in_piece (piece_of s k) b) (ap space_of h ∙ e))

pub piece_scalar : (t : ElementTree) (f : Family) (c : Cell) (q k : ℕ) (b : List ℕ) → t ≡ v.Scalar f c q → None ≡ place_in_piece (piece_of (space_of t) k) b
piece_scalar t f c q k b h = no_piece t _ _ k b h (space_of-Scalar f c q)

pub piece_vector : (t p : ElementTree) (n k : ℕ) (b : List ℕ) → t ≡ v.Vector p n → None ≡ place_in_piece (piece_of (space_of t) k) b
piece_vector t p n k b h = no_piece t _ _ k b h (space_of-Vector p n)

pub piece_tensor : (t p : ElementTree) (m n k : ℕ) (b : List ℕ) → t ≡ v.Tensor p m n → None ≡ place_in_piece (piece_of (space_of t) k) b
piece_tensor t p m n k b h = no_piece t _ _ k b h (space_of-Tensor p m n)
