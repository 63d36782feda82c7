-- The sizes of the cells of lawful layouts
use Rattle.std.proofs.Common.{◌≡◌, ℕ, ◌*◌, ◌≤◌, inl, inr, List, [], ◌∷◌, length, ap, sym, subst, lit≤, arith}
use native.Mathlib.Nat as N
use Rattle.spaces.specs.declared.cell.Cell.{Cell}
use Rattle.spaces.specs.declared.parts.Parts.{Parts}
use Rattle.spaces.specs.Scalar.{Scalar, laid_out, local_size, repeated}
use Rattle.spaces.specs.Space.{IsLawful, Space, mixed, scalar, scalars, tensor, vector}
use Rattle.spaces.proofs.SpaceLaws.{length-repeated, local_size_few, scalar_length}
use Rattle.monos.specs.declared.layout.Layout.{Layout}
use Rattle.monos.specs.Layout.{IsLawfulLayout, MayBeOn}
use Rattle.refint.specs.Local.{entries_of}

block_few : (s : Space) (n : ℕ) → length (scalars s) ≡ 1 → n ≤ 64 → length (repeated n (scalars s)) ≤ 64
block_few s n e h = omega (arith, length-repeated n (scalars s), ap (λ k. n * k) e)

scalars_few : (s : Space) → IsLawful s → length (scalars s) ≤ 64
scalars_few (scalar f c q) h = lit≤ tt
scalars_few (vector s n) h = block_few s n (scalar_length s h.1) h.3
scalars_few (tensor s m n) h = block_few s (m * n) (scalar_length s h.1) h.3
scalars_few (mixed ss) h = h.3

count_few : (ss : List Scalar) → local_size ss ≤ 1280 → entries_of (laid_out ss) ≤ 1280
count_few [] h = lit≤ tt
count_few (s ∷ ss) h = h

-- at most 64 components of 20 nodes
pub entries_few : (c : Cell) (ps : Parts) → MayBeOn c ps → entries_of ps ≤ 1280
entries_few c ps (inl a) =
    let few = local_size_few a.element a.lawful in
    let parts = scalars_few a.element a.lawful in
    subst (λ q. entries_of q ≤ 1280) (sym a.parts) (count_few (scalars a.element) (omega arith))
entries_few c ps (inr e) = subst (λ q. entries_of q ≤ 1280) (sym e) (lit≤ tt)

pub all_entries_few : (l : Layout) → IsLawfulLayout l → entries_of l.rows * entries_of l.cols ≤ 1638400
all_entries_few l h =
    let rows = entries_few h.0 l.rows h.1.rows in
    let cols = entries_few h.0 l.cols h.1.cols in
    let first : entries_of l.rows * entries_of l.cols ≤ 1280 * entries_of l.cols = N.mul-le-mul_right (entries_of l.cols) rows in
    omega arith
