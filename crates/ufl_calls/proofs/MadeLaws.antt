-- Tables with room for one more element, and the parts of mixed elements
use Rattle.std.proofs.Common.{◌≡◌, ◌⊎◌, inl, inr, ℕ, zero, suc, ◌+◌, ◌-◌, ◌<◌, ◌≤◌, List, [], ◌∷◌, ◌++◌, length, length-append, Option, None, Some, Ok, Err, slice_get, refl, sym, ap, subst, ◌∙◌, arith}
use Rattle.spaces.specs.declared.element_tree.ElementTree.{ElementTree}
use Rattle.spaces.specs.declared.element_tree.ElementTree.TheVariants as v
use Rattle.spaces.specs.Space.{mixed, Spaces, no_spaces, space, scalars, scalars_of, IsLawful, AreLawful}
use Rattle.spaces.specs.Reading.{space_of, spaces_in}
use Rattle.spaces.proofs.ReadingLaws.{space_of-Mixed}
use Rattle.spaces.proofs.SpaceLaws.{lawful_some}
use Rattle.ufl_tree.specs.declared.function.Function.{Function}
use Rattle.ufl_tree.specs.Places.{Table, table_of}
use Rattle.ufl_expr.specs.Elements.{number_of, with_element}
use Rattle.ufl_values.specs.declared.value.Value.{Value}
use Rattle.ufl_values.specs.declared.value.Value.TheVariants as w
use Rattle.ufl_values.specs.declared.refusal.Reason.{Reason}
use Rattle.ufl_values.specs.declared.refusal.Reason.TheVariants as r
use Rattle.ufl_values.specs.Answer.{and_then}
use Rattle.ufl_calls.specs.declared.made.Made.{Made}
use Rattle.ufl_calls.specs.Made.{element_number, numbered_in, count_in, piece_value, pieces_from, pieces_by}

-- a list with no item of this number has no more than so many
pub room_behind : {A : Type 0} (xs : List A) (k : ℕ) → slice_get xs k ≡ None → length xs ≤ k
room_behind [] k e = omega arith
room_behind (x ∷ xs) zero e = absurd (cc)
room_behind (x ∷ xs) (suc k) e = let others = room_behind xs k e in omega arith

-- a mixed element has as many sub-elements as its list
pub count_of_list : (ts : List ElementTree) → count_in (spaces_in ts) ≡ length ts
count_of_list [] = refl
count_of_list (t ∷ ts) = let e = count_of_list ts in omega arith

counts_few : (ss : Spaces) → AreLawful ss → count_in ss ≤ length (scalars_of ss)
counts_few no_spaces h = omega arith
counts_few (space s ss) h =
    let some = lawful_some s h.0 in
    let others = counts_few ss h.1 in
    omega (arith, length-append (scalars s) (scalars_of ss))

-- at most 64 of them
pub few_parts : (t : ElementTree) (ts us : List ElementTree) → t ≡ v.Mixed ts → us ≡ ts → IsLawful (space_of t) → length us ≤ 64
few_parts t ts us e same h =
    let k : IsLawful (mixed (spaces_in ts)) = subst IsLawful (ap space_of e ∙ space_of-Mixed ts) h in
    let few = counts_few (spaces_in ts) k.0 in
    omega (arith, few, k.3, count_of_list ts, ap length same)

-- the part of the next number
pieces_step : (t : Table) (f : Function) (found : List Value) (k m : ℕ) → k < m
    → pieces_from t f found k (m - k) ≡ and_then (piece_value t f k) (λ a. pieces_from t f (found ++ a ∷ []) (k + 1) (m - (k + 1)))
pieces_step t f found k m h = let e : m - k ≡ suc (m - (k + 1)) = omega arith in ap (pieces_from t f found k) e

pub pieces_next : (t : Table) (f : Function) (found next : List Value) (k m : ℕ) (a : Value) → k < m → piece_value t f k ≡ Ok a
    → next ≡ found ++ a ∷ [] → pieces_from t f found k (m - k) ≡ pieces_from t f next (k + 1) (m - (k + 1))
pieces_next t f found next k m a h e same =
    pieces_step t f found k m h
    ∙ ap (λ o. and_then o (λ a. pieces_from t f (found ++ a ∷ []) (k + 1) (m - (k + 1)))) e
    ∙ ap (λ xs. pieces_from t f xs (k + 1) (m - (k + 1))) (sym same)

-- a part that is refused
pub pieces_stop : (t : Table) (f : Function) (o : Option ℕ) (m k : ℕ) (found : List Value) (e : Reason) → o ≡ Some m
    → pieces_from t f [] 0 m ≡ pieces_from t f found k (m - k) → k < m → (e ≡ r.Memory) ⊎ (piece_value t f k ≡ Err e)
    → (e ≡ r.Memory) ⊎ (pieces_by o t f ≡ Err e)
pieces_stop t f o m k found e same so_far h (inl x) = inl x
pieces_stop t f o m k found e same so_far h (inr x) = inr (
    ap (λ o. pieces_by o t f) same
    ∙ ap (λ xs. and_then xs (λ vs. Ok (w.Tuple vs)))
    (so_far ∙ pieces_step t f found k m h ∙ ap (λ o. and_then o (λ a. pieces_from t f (found ++ a ∷ []) (k + 1) (m - (k + 1)))) x))

-- an element that the table has got
pub numbered_at : (t : ElementTree) (m : Made) (es : List ElementTree) (k : ℕ) → es ≡ with_element t m.elements
    → number_of (space_of t) (table_of es) ≡ Some k
    → element_number t m ≡ Ok (k, record { elements = es; coefficients = m.coefficients; labels = m.labels })
numbered_at t m es k e h =
    ap (λ (xs : List ElementTree). numbered_in (number_of (space_of t) (table_of xs))
    (record { elements = xs; coefficients = m.coefficients; labels = m.labels })) (sym e)
    ∙ ap (λ o. numbered_in o (record { elements = es; coefficients = m.coefficients; labels = m.labels })) h
