-- The parts in the layout of a problem are those of the elements
use Rattle.std.proofs.Common.{◌≡◌, ℕ, ◌+◌, ◌==◌, Bool, true, false, List, [], ◌∷◌, map, Option, None, Some, if◌then◌else◌, slice_get, sym, ap, refl, ◌∙◌, eqb-true}
use Rattle.spaces.specs.declared.cell.Cell.{Cell}
use Rattle.spaces.specs.Scalar.{scalar_of}
use Rattle.spaces.specs.Space.{Space, scalars}
use Rattle.spaces.proofs.PartsLaws.{scalars-placed}
use Rattle.ufl_tree.specs.declared.function.Function.{Function}
use Rattle.ufl_tree.specs.declared.function.Role.{Role}
use Rattle.ufl_tree.specs.declared.function.Role.TheVariants.{Test, Trial, Position, Coefficient}
use Rattle.ufl_expr.specs.Elements.{position_space}
use Rattle.monos.specs.declared.layout.CoefPlace.{CoefPlace}
use Rattle.monos.specs.Layout.{role_parts, place_of, place_parts, parts_or_none, position_parts}
use Rattle.weigh.specs.Weighing.{scalars_in}
use Rattle.form_values.specs.Problem.{Problem, space_in}
use Rattle.form_values.specs.CellLayout.{Occurring, layout_of, parts_of, coefficient_space, places_from, is_among}
use Rattle.form_weights.specs.Places.{HasItsParts, IsElementFor}

parts_are : (s : Option Space) → map scalar_of (parts_of s).items ≡ scalars_in s
parts_are None = refl
parts_are (Some s) = scalars-placed 0 (scalars s)

-- a coefficient that stands in the list
coefficient_parts : (p : Problem) (n offset : ℕ) (ns : List ℕ) → is_among ns n ≡ true
    → place_parts (place_of (places_from p offset ns) n) ≡ (parts_of (coefficient_space p n)).items
coefficient_parts p n offset [] h = absurd (apart h)
  where
    apart : false ≡ true → ⊥
    apart e = cc
coefficient_parts p n offset (m ∷ ns) h = go (m == n) refl h (coefficient_parts p n (offset + (parts_of (coefficient_space p m)).local) ns)
  where
    here : CoefPlace
    here = record { number = m; offset = offset; parts = parts_of (coefficient_space p m) }

    rest : List CoefPlace
    rest = places_from p (offset + (parts_of (coefficient_space p m)).local) ns

    go : (t : Bool) → (m == n) ≡ t → (if t then true else is_among ns n) ≡ true
        → (is_among ns n ≡ true → place_parts (place_of rest n) ≡ (parts_of (coefficient_space p n)).items)
        → place_parts (if t then Some here else place_of rest n) ≡ (parts_of (coefficient_space p n)).items
    go true e h more = ap (λ k. (parts_of (coefficient_space p k)).items) (eqb-true m n e)
    go false e h more = more h

position_has : (t : Bool) (c : Cell) → t ≡ true → parts_or_none (if t then Some (position_parts c) else None) ≡ (parts_of (Some (position_space c))).items
position_has true c h = refl
position_has false c h = absurd (apart h)
  where
    apart : false ≡ true → ⊥
    apart e = cc

pub has_its_parts : (p : Problem) (o : Occurring) (f : Function) → IsElementFor p o f.role f.element → HasItsParts p.elements (layout_of p o) f
has_its_parts p o f h = at f.role f.element h
  where
    at : (r : Role) (e : ℕ) → IsElementFor p o r e → map scalar_of (role_parts (layout_of p o) r) ≡ scalars_in (slice_get p.elements e)
    at Test e h = ap (λ t. map scalar_of (parts_of (space_in p t)).items) h ∙ parts_are (slice_get p.elements e)
    at Trial e h = ap (λ t. map scalar_of (parts_of (space_in p t)).items) h ∙ parts_are (slice_get p.elements e)
    at Position e h =
        ap (map scalar_of) (position_has o.position p.mesh.kind h.0)
        ∙ parts_are (Some (position_space p.mesh.kind)) ∙ ap scalars_in (sym h.1)
    at (Coefficient n) e h =
        ap (map scalar_of) (coefficient_parts p n 0 o.coefficients h.0)
        ∙ ap (λ k. map scalar_of (parts_of (space_in p k)).items) h.1 ∙ parts_are (slice_get p.elements e)
