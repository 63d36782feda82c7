-- The places of the functions in the integrands of a form: their elements, and that they occur in it
use Rattle.std.specs.Prelude.{◌≡◌, ℕ, true, List, Some, slice_get}
use Rattle.std.specs.List.{AllByRecursion}
use Rattle.ufl_tree.specs.declared.function.Function.{Function}
use Rattle.ufl_tree.specs.declared.function.Role.{Role}
use Rattle.ufl_tree.specs.declared.function.Role.TheVariants.{Test, Trial, Position, Coefficient}
use Rattle.ufl_tree.specs.FormTerm.{FormTerm}
use Rattle.ufl_tree.specs.Places.{Table}
use Rattle.ufl_expr.specs.Elements.{position_space}
use Rattle.ufl_form.specs.declared.table.FormKind.{FormKind}
use Rattle.integrands.specs.Integrands.{IntegrandTerm}
use Rattle.form_layouts.specs.Occurring.{occurs}
use Rattle.arity.specs.Leaves.{EachLeaf}

-- an argument has the element that the form says; the position and a coefficient occur in the form, the one with its element on the form's
-- cell, the other with that of its number
abbrev pub IsPlaceFor : Table → List ℕ → FormTerm → FormKind → Role → ℕ → Type 0
IsPlaceFor elements numbers f k Test e = k.arguments.test ≡ Some e
IsPlaceFor elements numbers f k Trial e = k.arguments.trial ≡ Some e
IsPlaceFor elements numbers f k Position e =
    (occurs Position f ≡ true) × (slice_get elements e ≡ Some (position_space k.cell))
IsPlaceFor elements numbers f k (Coefficient n) e = (occurs (Coefficient n) f ≡ true) × (slice_get numbers n ≡ Some e)

abbrev pub HasItsPlace : Table → List ℕ → FormTerm → FormKind → Function → Type 0
HasItsPlace elements numbers f k x = IsPlaceFor elements numbers f k x.role x.element

-- all functions in them
abbrev pub HaveTheirPlaces : Table → List ℕ → FormTerm → FormKind → List IntegrandTerm → Type 0
HaveTheirPlaces elements numbers f k ps =
    AllByRecursion (λ (p : IntegrandTerm). EachLeaf (HasItsPlace elements numbers f k) p.body) ps
