-- The layout of a form is lawful
use Rattle.std.proofs.Common.{◌≡◌, ℕ, ◌+◌, ◌≤◌, ◌^◌, inl, inr, Bool, true, false, List, [], ◌∷◌, Option, None, Some, slice_get, if◌then◌else◌, refl, sym, ◌∙◌, subst}
use Rattle.std.specs.List.{AllByRecursion}
use Rattle.spaces.specs.declared.cell.Cell.{Cell}
use Rattle.spaces.specs.Space.{Space, IsLawful, cell_of}
use Rattle.monos.specs.declared.layout.CoefPlace.{CoefPlace}
use Rattle.monos.specs.Layout.{MayBeOn, AreInOrder, AreRising, IsLawfulOn, IsPosition, position_parts, value_count}
use Rattle.dofs.proofs.Lists.{same_some}
use Rattle.form_values.specs.CellLayout.{Occurring, Fits, IsElement, IsElementOf, coefficient_space, layout_of, parts_of, places_from}
use Rattle.form_values.specs.Problem.{Problem, space_in}

parts_here : (p : Problem) (e : ℕ) → IsElement p e → (o : Option Space) → slice_get p.elements e ≡ o → MayBeOn p.mesh.kind (parts_of o)
parts_here p e is None at = inr refl
parts_here p e is (Some s) at =
    let same : is.space ≡ s = same_some is.space s (sym is.found ∙ at) in
    inl (record { element = s; lawful = subst_lawful same; cell = subst_cell same; parts = refl })
  where
    subst_lawful : is.space ≡ s → IsLawful s
    subst_lawful e = subst IsLawful e is.lawful

    subst_cell : is.space ≡ s → cell_of s ≡ p.mesh.kind
    subst_cell e = subst (λ r. cell_of r ≡ p.mesh.kind) e is.cell

parts_are : (p : Problem) (e : Option ℕ) → IsElementOf p e → MayBeOn p.mesh.kind (parts_of (space_in p e))
parts_are p None is = inr refl
parts_are p (Some e) is = parts_here p e is (slice_get p.elements e) refl

places_are : (p : Problem) (offset : ℕ) (ns : List ℕ) → AllByRecursion (λ n. IsElementOf p (slice_get p.coefficients n)) ns → AllByRecursion (λ (k : CoefPlace). MayBeOn p.mesh.kind k.parts) (places_from p offset ns)
places_are p offset [] all = tt
places_are p offset (n ∷ ns) all = (parts_are p (slice_get p.coefficients n) all.0, places_are p (offset + (parts_of (coefficient_space p n)).local) ns all.1)

in_order : (p : Problem) (offset : ℕ) (ns : List ℕ) → AreInOrder offset (places_from p offset ns)
in_order p offset [] = tt
in_order p offset (n ∷ ns) = (refl, in_order p (offset + (parts_of (coefficient_space p n)).local) ns)

position_is : (c : Cell) (t : Bool) → IsPosition c (if t then Some (position_parts c) else None)
position_is c true = refl
position_is c false = tt

pub layout_lawful : (p : Problem) (o : Occurring) → Fits p o → AreRising 0 (layout_of p o).coefs → value_count (layout_of p o).coefs ≤ 2 ^ 24 → IsLawfulOn p.mesh.kind (layout_of p o)
layout_lawful p o fits rising few = record {
  dimension = refl;
  rows = parts_are p p.test fits.test;
  cols = parts_are p p.trial fits.trial;
  coefs = places_are p 0 o.coefficients fits.coefficients;
  rising = rising;
  in_order = in_order p 0 o.coefficients;
  few = few;
  position = position_is p.mesh.kind o.position;
}
