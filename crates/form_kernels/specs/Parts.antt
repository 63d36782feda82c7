-- What the functions of a form are made of
use Rattle.std.specs.Prelude.{◌≡◌, ◌<◌, ◌^◌, ℕ, List, Option, Some, map}
use Rattle.std.specs.List.{AllByRecursion}
use Rattle.ufl_tree.specs.FormTerm.{FormTerm}
use Rattle.ufl_tree.specs.Places.{Table, IsLawfulTable}
use Rattle.ufl_form.specs.declared.table.FormKind.{FormKind}
use Rattle.ufl_form.specs.Table.{AreTyped}
use Rattle.monos.specs.declared.weight.Weight.{Weight}
use Rattle.monos.specs.Layout.{IsLawfulOn}
use Rattle.assembly.specs.declared.funs.MarkedFun.{MarkedFun}
use Rattle.c_unit.specs.declared.unit.CFun.{CFun}
use Rattle.integrands.specs.Flattening.{flattened}
use Rattle.integrands.specs.Integrands.{integrands_of}
use Rattle.integrands.specs.Keeping.{HaveDensity, HaveWeight}
use Rattle.form_monomials.specs.Markers.{RunsOn}
use Rattle.form_kernels.specs.Admitted.{IsAdmittedForm, form_layout, occurring_in, problem_on}
use Rattle.form_kernels.specs.Kernels.{GivesCellShares, IsFunction, marked_name}
use Rattle.form_kernels.specs.declared.form_functions.FormParts.{FormParts}

-- the integrands of an admitted form, its layout and its weight
pub record ArePartsOf (elements : Table) (numbers : List ℕ) (f : FormTerm) (k : FormKind) (w : Weight)
    (parts : FormParts) : Type 0 where
  pub form : IsAdmittedForm elements numbers f k w
  pub lawful : IsLawfulTable elements
  pub typed : AreTyped f
  pub integrands : integrands_of parts.integrands.items ≡ flattened elements f
  pub density : HaveDensity elements f (flattened elements f)
  pub weights : HaveWeight elements f (flattened elements f)
  pub layout : parts.layout ≡ form_layout elements numbers f k.cell
  pub on_cell : IsLawfulOn k.cell (form_layout elements numbers f k.cell)
  pub weight : parts.weight ≡ w

-- those of some form
pub record AreParts (elements : Table) (parts : FormParts) : Type 0 where
  pub numbers : List ℕ
  pub f : FormTerm
  pub k : FormKind
  pub w : Weight
  pub are : ArePartsOf elements numbers f k w parts

-- a function with this name for the cells of a marker, or, without one, for those whose marker the form doesn't name
pub record IsFunctionFor (elements : Table) (numbers : List ℕ) (f : FormTerm) (k : FormKind) (w : Weight) (marker : Option ℕ)
    (name : List ℕ) (c : CFun) : Type 0 where
  pub function : IsFunction (problem_on elements numbers f k.cell) (occurring_in numbers f) w name c
  pub runs : (m : ℕ) → RunsOn marker (flattened elements f) m
      → GivesCellShares (problem_on elements numbers f k.cell) (occurring_in numbers f) w m c

-- one for each of these markers, in their order
pub record AreMarkedFunctions (elements : Table) (numbers : List ℕ) (f : FormTerm) (k : FormKind) (w : Weight)
    (name markers : List ℕ) (ms : List MarkedFun) : Type 0 where
  pub markers_are : map (λ (m : MarkedFun). m.marker) ms ≡ markers
  pub small : AllByRecursion (λ (m : MarkedFun). m.marker < 2 ^ 32) ms
  pub each : AllByRecursion (λ (m : MarkedFun).
      IsFunctionFor elements numbers f k w (Some m.marker) (marked_name m.marker name) m.fun) ms
