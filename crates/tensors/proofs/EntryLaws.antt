-- How many entries lawful layouts have
use Rattle.std.proofs.Common.{◌≡◌, ℕ, zero, suc, ◌*◌, ◌<◌, ◌≤◌, inl, inr, List, [], ◌∷◌, length, sym, ap, subst, lit≤, lit<, arith}
use Rattle.std.specs.List.{AllByRecursion}
use Rattle.spaces.specs.declared.cell.Cell.{Cell}
use Rattle.spaces.specs.declared.cell.Cell.TheVariants.{Interval, Triangle, Tetrahedron}
use Rattle.spaces.specs.declared.parts.Parts.{Parts}
use Rattle.spaces.specs.Family.{node_count}
use Rattle.spaces.specs.Scalar.{Scalar, laid_out, local_size, repeated}
use Rattle.spaces.specs.Space.{IsLawful, Space, mixed, scalar, scalars, tensor, vector}
use Rattle.spaces.proofs.SpaceLaws.{length-repeated, local_size_few, scalar_length}
use Rattle.monos.specs.Layout.{MayBeOn}
use Rattle.refint.specs.Local.{entries_of}
use Rattle.monomial_products.proofs.PartLaws.{IsScalarOn, on_space}

-- ---- at most 64 components of 20 nodes
block_few : (s : Space) (n : ℕ) → length (scalars s) ≡ 1 → n ≤ 64 → length (repeated n (scalars s)) ≤ 64
block_few s n e h = omega (arith, length-repeated n (scalars s), ap (λ k. n * k) e)

scalars_few : (s : Space) → IsLawful s → length (scalars s) ≤ 64
scalars_few (scalar f c q) h = lit≤ tt
scalars_few (vector s n) h = block_few s n (scalar_length s h.1) h.3
scalars_few (tensor s m n) h = block_few s (m * n) (scalar_length s h.1) h.3
scalars_few (mixed ss) h = h.3

count_few : (ss : List Scalar) → local_size ss ≤ 1280 → entries_of (laid_out ss) ≤ 1280
count_few [] h = lit≤ tt
count_few (s ∷ ss) h = h

pub entries_few : (c : Cell) (ps : Parts) → MayBeOn c ps → entries_of ps ≤ 1280
entries_few c ps (inl a) =
    let few = local_size_few a.element a.lawful in
    let parts = scalars_few a.element a.lawful in
    subst (λ q. entries_of q ≤ 1280) (sym a.parts) (count_few (scalars a.element) (omega arith))
entries_few c ps (inr e) = subst (λ q. entries_of q ≤ 1280) (sym e) (lit≤ tt)

-- ---- at least one
node_count_some : (c : Cell) (q : ℕ) → q ≤ 3 → 0 < node_count c q
node_count_some c zero h = (elim c as (λ c. 0 < node_count c 0) [ Interval ↦ lit< tt | Triangle ↦ lit< tt | Tetrahedron ↦ lit< tt ])
node_count_some c (suc zero) h = (elim c as (λ c. 0 < node_count c 1) [ Interval ↦ lit< tt | Triangle ↦ lit< tt | Tetrahedron ↦ lit< tt ])
node_count_some c (suc (suc zero)) h = (elim c as (λ c. 0 < node_count c 2) [ Interval ↦ lit< tt | Triangle ↦ lit< tt | Tetrahedron ↦ lit< tt ])
node_count_some c (suc (suc (suc zero))) h = (elim c as (λ c. 0 < node_count c 3) [ Interval ↦ lit< tt | Triangle ↦ lit< tt | Tetrahedron ↦ lit< tt ])
node_count_some c (suc (suc (suc (suc n)))) h = absurd (omega arith)

count_some : (c : Cell) (ss : List Scalar) → AllByRecursion (IsScalarOn c) ss → 0 < entries_of (laid_out ss)
count_some c [] on = lit< tt
count_some c (s ∷ ss) on = omega (arith, on.0.nodes, node_count_some c s.degree on.0.degree)

pub entries_some : (c : Cell) (ps : Parts) → MayBeOn c ps → 0 < entries_of ps
entries_some c ps (inl a) = subst (λ q. 0 < entries_of q) (sym a.parts) (count_some _ (scalars a.element) (on_space a.element a.lawful))
entries_some c ps (inr e) = subst (λ q. 0 < entries_of q) (sym e) (lit< tt)
