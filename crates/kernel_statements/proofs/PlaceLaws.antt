-- Parts of lawful layouts stand within the values of their functions
use Rattle.std.proofs.Common.{◌≡◌, ℕ, ◌+◌, ◌≤◌, ◌^◌, ◌==◌, Bool, true, false, if◌then◌else◌, List, [], ◌∷◌, Option, None, Some, arith}
use Rattle.std.specs.Prelude.{slice_get}
use Rattle.std.specs.List.{AllByRecursion}
use Rattle.spaces.specs.declared.cell.Cell.{Cell}
use Rattle.spaces.specs.declared.parts.Part.{Part}
use Rattle.ufl_tree.specs.declared.function.Role.TheVariants.{Coefficient}
use Rattle.monos.specs.declared.layout.CoefPlace.{CoefPlace}
use Rattle.monos.specs.declared.layout.Layout.{Layout}
use Rattle.monos.specs.Layout.{AreInOrder, IsLawfulLayout, MayBeOn, place_of, place_parts, role_parts, value_count}
use Rattle.monos.proofs.LayoutLaws.{parts_within}
use Rattle.monomial_products.proofs.PartLaws.{none_some}
use Rattle.kernel_statements.specs.Digits.{offset_in}

pub coefficient_within : (c : Cell) (at : ℕ) (cs : List CoefPlace) → AllByRecursion (λ k. MayBeOn c k.parts) cs → AreInOrder at cs → (n i : ℕ) (p : Part)
    → slice_get (place_parts (place_of cs n)) i ≡ Some p → offset_in (place_of cs n) + (p.offset + p.nodes) ≤ at + value_count cs
coefficient_within c at [] h o n i p e = absurd (none_some p e)
coefficient_within c at (k ∷ ks) h o n i p e = go (k.number == n) e (coefficient_within c (at + k.parts.local) ks h.1 o.1 n i p)
  where
    go : (b : Bool) → slice_get (place_parts (if b then Some k else place_of ks n)) i ≡ Some p
        → (slice_get (place_parts (place_of ks n)) i ≡ Some p → offset_in (place_of ks n) + (p.offset + p.nodes) ≤ at + k.parts.local + value_count ks)
        → offset_in (if b then Some k else place_of ks n) + (p.offset + p.nodes) ≤ at + (k.parts.local + value_count ks)
    go true e r = let w = parts_within c k.parts h.0 i p e in omega (arith, o.0)
    go false e r = let w = r e in omega arith

-- the values of a part of a coefficient are among those of the layout
pub lawful_within : (l : Layout) → IsLawfulLayout l → (n i : ℕ) (p : Part) → slice_get (role_parts l (Coefficient n)) i ≡ Some p
    → offset_in (place_of l.coefs n) + (p.offset + p.nodes) ≤ 2 ^ 24
lawful_within l h n i p e =
    let r = coefficient_within h.0 0 l.coefs h.1.coefs h.1.in_order n i p e in
    omega (arith, h.1.few)
