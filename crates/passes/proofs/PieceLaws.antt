-- The parts of mixed elements, counted and placed
use Rattle.std.proofs.Common.{◌≡◌, ℕ, suc, ◌+◌, ◌*◌, ◌<◌, sym, ◌∙◌, ap, ap₂, List, [], ◌∷◌, ◌++◌, length, take, get_or, arith, length-append, None}
use Rattle.spaces.specs.declared.cell.Cell.{Cell}
use Rattle.spaces.specs.declared.family.Family.{Family}
use Rattle.spaces.specs.declared.element_tree.ElementTree.{ElementTree}
use Rattle.spaces.specs.declared.element_tree.ElementTree.TheVariants as v
use Rattle.spaces.specs.Space.{Space, scalars, scalars_of}
use Rattle.spaces.specs.Reading.{space_of, spaces_in}
use Rattle.spaces.proofs.ReadingLaws.{space_of-Scalar, space_of-Vector, space_of-Tensor, space_of-Mixed}
use Rattle.spaces.proofs.SpaceLaws.{length-repeated}
use Rattle.std.proofs.lemmas.Grind.{take_at_read}
use Rattle.std.proofs.Common.{zero, refl, slice_get, map, Some, Option}
use Rattle.ufl_tree.specs.declared.function.Function.{Function}
use Rattle.ufl_tree.specs.declared.function.Ix.{Ix}
use Rattle.ufl_tree.specs.declared.plain.Plain.{Plain}
use Rattle.ufl_tree.specs.Term.{Term, Terms, no_terms, term, pick}
use Rattle.ufl_tree.specs.Reading.{term_of, terms_of}
use Rattle.ufl_tree.specs.Places.{table_of, element_shape, piece_from, piece_of, sub_element}
use Rattle.lower.specs.Lowering.{terms_from, place_term, piece_term}
use Rattle.passes.specs.Spots.{absent}

next : {A : Type 0} (xs : List A) (i : ℕ) (x : A) → i < length xs → x ≡ get_or xs i x → take (i + 1) xs ≡ take i xs ++ x ∷ []
next xs i x h e = (take_at_read xs i x h).1 ∙ ap (λ y. take i xs ++ y ∷ []) (sym e)

abbrev size_of : ElementTree → ℕ
size_of t = length (scalars (space_of t))

pub count_scalar : (t : ElementTree) (f : Family) (c : Cell) (q : ℕ) → t ≡ v.Scalar f c q → 1 ≡ length (scalars (space_of t))
count_scalar t f c q h = sym (ap size_of h ∙ ap (λ s. length (scalars s)) (space_of-Scalar f c q))

pub count_vector : (t p x : ElementTree) (n : ℕ) → t ≡ v.Vector p n → x ≡ p → n * length (scalars (space_of x)) ≡ length (scalars (space_of t))
count_vector t p x n h e =
    ap (λ x. n * size_of x) e ∙ sym (length-repeated n (scalars (space_of p))) ∙ sym (ap size_of h ∙ ap (λ s. length (scalars s)) (space_of-Vector p n))

pub count_tensor : (t p x : ElementTree) (m n : ℕ) → t ≡ v.Tensor p m n → x ≡ p → (m * n) * length (scalars (space_of x)) ≡ length (scalars (space_of t))
count_tensor t p x m n h e =
    ap (λ x. (m * n) * size_of x) e ∙ sym (length-repeated (m * n) (scalars (space_of p))) ∙ sym (ap size_of h ∙ ap (λ s. length (scalars s)) (space_of-Tensor p m n))

pub count_mixed : (t : ElementTree) (ts xs : List ElementTree) → t ≡ v.Mixed ts → xs ≡ ts → length (scalars_of (spaces_in xs)) ≡ length (scalars (space_of t))
count_mixed t ts xs h e = ap (λ x. length (scalars_of (spaces_in x))) e ∙ sym (ap size_of h ∙ ap (λ s. length (scalars s)) (space_of-Mixed ts))

count-push : (ts : List ElementTree) (t : ElementTree) → length (scalars_of (spaces_in (ts ++ t ∷ []))) ≡ length (scalars_of (spaces_in ts)) + size_of t
count-push [] t = omega (arith, length-append (scalars (space_of t)) [])
count-push (x ∷ ts) t =
    omega (arith, count-push ts t, length-append (scalars (space_of x)) (scalars_of (spaces_in (ts ++ t ∷ []))), length-append (scalars (space_of x)) (scalars_of (spaces_in ts)))

pub count_next : (ts : List ElementTree) (i : ℕ) (t : ElementTree) (total more own : ℕ) → i < length ts → t ≡ get_or ts i t → total ≡ length (scalars_of (spaces_in (take i ts)))
    → own ≡ length (scalars (space_of t)) → more ≡ total + own → more ≡ length (scalars_of (spaces_in (take (i + 1) ts)))
count_next ts i t total more own h e was is now = now ∙ ap₂ (λ a b. a + b) was is ∙ sym (ap (λ x. length (scalars_of (spaces_in x))) (next ts i t h e) ∙ count-push (take i ts) t)

-- items, one after the other
abbrev with_term : Terms → Term → Terms
with_term no_terms x = term x no_terms
with_term (term t ts) x = term t (with_term ts x)

terms_of-push : (ps : List Plain) (p : Plain) → terms_of (map term_of (ps ++ p ∷ [])) ≡ with_term (terms_of (map term_of ps)) (term_of p)
terms_of-push [] p = refl
terms_of-push (q ∷ ps) p = ap (term (term_of q)) (terms_of-push ps p)

terms_from-suc : (j n : ℕ) (f : ℕ → Term) → terms_from j (suc n) f ≡ with_term (terms_from j n f) (f (j + n))
terms_from-suc j zero f = ap (λ k. term (f k) no_terms) (none j)
  where
    none : (j : ℕ) → j ≡ j + 0
    none j = omega arith
terms_from-suc j (suc n) f = ap (term (f j)) (terms_from-suc (suc j) n f ∙ ap (λ k. with_term (terms_from (suc j) n f) (f k)) (one j n))
  where
    one : (j n : ℕ) → suc j + n ≡ j + suc n
    one j n = omega arith

pub placed_next : (items more : List Plain) (p : Plain) (j there start : ℕ) (f : ℕ → Term) → terms_of (map term_of items) ≡ terms_from 0 j (λ j. f (start + j)) → more ≡ items ++ p ∷ []
    → there ≡ start + j → term_of p ≡ f there → terms_of (map term_of more) ≡ terms_from 0 (j + 1) (λ j. f (start + j))
placed_next items more p j there start f was now at is =
    ap (λ ps. terms_of (map term_of ps)) now ∙ terms_of-push items p ∙ ap₂ with_term was (is ∙ ap f at ∙ ap (λ k. f (start + k)) (own j)) ∙ sym (terms_from-suc 0 j (λ j. f (start + j)))
    ∙ ap (λ k. terms_from 0 k (λ j. f (start + j))) (one j)
  where
    own : (j : ℕ) → j ≡ 0 + j
    own j = omega arith

    one : (j : ℕ) → suc j ≡ j + 1
    one j = omega arith

pub placed_all : (f : Function) (first number next start j size : ℕ) (shape inner : List ℕ) (at rest : List Ix) (i : Ix) (items : List Plain) (p : Term) → shape ≡ size ∷ inner → at ≡ i ∷ rest
    → start ≡ number * size → j ≡ size → terms_of (map term_of items) ≡ terms_from 0 j (λ j. place_term f first inner (start + j) rest next) → p ≡ pick i (terms_of (map term_of items))
    → p ≡ place_term f first shape number at next
placed_all f first number next start j size shape inner at rest i items p hs ha from done is h =
    h ∙ ap (pick i) (is ∙ ap₂ (λ j s. terms_from 0 j (λ j. place_term f first inner (s + j) rest next)) done from) ∙ sym (ap₂ (λ s b. place_term f first s number b next) hs ha)

-- ---- sub-elements
pub part_first : (f : Function) (first next which : ℕ) (at : List Ix) (ts rest : List ElementTree) (t : ElementTree) → ts ≡ t ∷ rest → which ≡ 0
    → place_term f first (element_shape (space_of t)) 0 at next ≡ piece_term (piece_from first (spaces_in ts) which) f at next
part_first f first next which at ts rest t h e = sym (ap₂ (λ ts k. piece_term (piece_from first (spaces_in ts) k) f at next) h e)

pub part_next : (f : Function) (first next which less behind own : ℕ) (at : List Ix) (ts rest : List ElementTree) (t : ElementTree) → ts ≡ t ∷ rest → which ≡ suc less → own ≡ length (scalars (space_of t))
    → behind ≡ first + own → piece_term (piece_from behind (spaces_in rest) less) f at next ≡ piece_term (piece_from first (spaces_in ts) which) f at next
part_next f first next which less behind own at ts rest t h e is sum =
    ap (λ n. piece_term (piece_from n (spaces_in rest) less) f at next) (sum ∙ ap (λ m. first + m) is) ∙ sym (ap₂ (λ ts k. piece_term (piece_from first (spaces_in ts) k) f at next) h e)

pub no_part : (f : Function) (first next which : ℕ) (at : List Ix) (ts : List ElementTree) → ts ≡ [] → absent f next ≡ piece_term (piece_from first (spaces_in ts) which) f at next
no_part f first next which at ts h = sym (ap (λ ts. piece_term (piece_from first (spaces_in ts) which) f at next) h)

pub piece_mixed : (f : Function) (next which : ℕ) (at : List Ix) (t : ElementTree) (ts us : List ElementTree) → t ≡ v.Mixed ts → us ≡ ts
    → piece_term (piece_from 0 (spaces_in us) which) f at next ≡ piece_term (piece_of (space_of t) which) f at next
piece_mixed f next which at t ts us h e = ap (λ x. piece_term (piece_from 0 (spaces_in x) which) f at next) e ∙ sym (ap (λ s. piece_term (piece_of s which) f at next) (ap space_of h ∙ space_of-Mixed ts))

no_piece : (f : Function) (next which : ℕ) (at : List Ix) (t u : ElementTree) (s : Space) → t ≡ u → space_of u ≡ s → piece_term (piece_of s which) f at next ≡ piece_term (piece_of (space_of t) which) f at next
no_piece f next which at t u s h e = sym (ap (λ s. piece_term (piece_of s which) f at next) (ap space_of h ∙ e))

pub piece_scalar : (f : Function) (next which : ℕ) (at : List Ix) (t : ElementTree) (a : Family) (c : Cell) (q : ℕ) → t ≡ v.Scalar a c q → absent f next ≡ piece_term (piece_of (space_of t) which) f at next
piece_scalar f next which at t a c q h = no_piece f next which at t _ _ h (space_of-Scalar a c q)

pub piece_vector : (f : Function) (next which : ℕ) (at : List Ix) (t p : ElementTree) (n : ℕ) → t ≡ v.Vector p n → absent f next ≡ piece_term (piece_of (space_of t) which) f at next
piece_vector f next which at t p n h = no_piece f next which at t _ _ h (space_of-Vector p n)

pub piece_tensor : (f : Function) (next which : ℕ) (at : List Ix) (t p : ElementTree) (m n : ℕ) → t ≡ v.Tensor p m n → absent f next ≡ piece_term (piece_of (space_of t) which) f at next
piece_tensor f next which at t p m n h = no_piece f next which at t _ _ h (space_of-Tensor p m n)

-- ---- elements of a table
abbrev option_space : Option ElementTree → Option Space
option_space None = None
option_space (Some e) = Some (space_of e)

space_at : (es : List ElementTree) (k : ℕ) (o : Option ElementTree) → o ≡ slice_get es k → slice_get (table_of es) k ≡ option_space o
space_at [] k o h = ap option_space (sym h)
space_at (e ∷ es) zero o h = ap option_space (sym h)
space_at (e ∷ es) (suc k) o h = space_at es k o h

pub piece_there : (es : List ElementTree) (f : Function) (next which : ℕ) (at : List Ix) (o : Option ElementTree) (e t : ElementTree) → o ≡ slice_get es f.element → o ≡ Some e → t ≡ e
    → piece_term (piece_of (space_of t) which) f at next ≡ piece_term (sub_element (slice_get (table_of es) f.element) which) f at next
piece_there es f next which at o e t h is same =
    ap (λ x. piece_term (piece_of (space_of x) which) f at next) same
    ∙ sym (ap (λ s. piece_term (sub_element s which) f at next) (space_at es f.element o h ∙ ap option_space is))

pub piece_missing : (es : List ElementTree) (f : Function) (next which : ℕ) (at : List Ix) (o : Option ElementTree) → o ≡ slice_get es f.element → o ≡ None
    → absent f next ≡ piece_term (sub_element (slice_get (table_of es) f.element) which) f at next
piece_missing es f next which at o h is = sym (ap (λ s. piece_term (sub_element s which) f at next) (space_at es f.element o h ∙ ap option_space is))
