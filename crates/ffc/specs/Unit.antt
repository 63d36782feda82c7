-- The unit that is printed for the forms of a file
use Rattle.std.specs.Prelude.{◌≡◌, ℕ, ◌+◌, ◌*◌, ◌≤◌, ◌^◌, List, [], ◌∷◌, ◌++◌, map}
use Rattle.std.specs.List.{AllByRecursion}
use Rattle.c_unit.specs.declared.unit.CFun.{CFun}
use Rattle.monos.specs.declared.weight.Weight.{Weight}
use Rattle.ufl_tree.specs.Places.{table_of}
use Rattle.ufl_form.specs.declared.table.FormKind.{FormKind}
use Rattle.assembly.specs.declared.funs.Funs.{Funs}
use Rattle.assembly.specs.declared.funs.MarkedFun.{MarkedFun}
use Rattle.ufl_elab.specs.declared.program.Named.{Named}
use Rattle.ufl_elab.specs.declared.program.UflProgram.{UflProgram}
use Rattle.ufl_program.specs.Names.{name_of}
use Rattle.form_kernels.specs.Admitted.{HasFormFunctions}
use Rattle.ffc.specs.Forms.{IsAdmitted, term_of}

-- that for the cells whose marker the form doesn't name, and then those for its markers, which rise
abbrev pub function_list : Funs → List CFun
function_list funs = funs.plain ∷ map (λ (m : MarkedFun). m.fun) funs.marked.items

-- The functions of a form. The run of each on a cell with its marker gives the cell's shares, with these coefficient
-- values; it returns 2 only where the cell is flat, and 1 only where the cell's room is 2^127 or more
pub record IsFormUnit (file : List ℕ) (p : UflProgram) (n : Named) (fs : List CFun) : Type 0 where
  pub kind : FormKind
  pub weight : Weight
  pub funs : Funs
  pub admitted : IsAdmitted p n kind weight
  pub functions : HasFormFunctions (table_of p.elements) p.coefficients (term_of n) kind.cell weight (name_of file n) funs
  pub list : fs ≡ function_list funs

-- those of all forms, in order
pub data AreFunctionsOf (file : List ℕ) (p : UflProgram) : List Named → List CFun → Type 0 where
  none : AreFunctionsOf file p [] []
  more : {n : Named} {ns : List Named} {own others : List CFun} → IsFormUnit file p n own → AreFunctionsOf file p ns others
      → AreFunctionsOf file p (n ∷ ns) (own ++ others)

-- no run makes more than 2^26 statements
abbrev pub AreShort : UflProgram → List Named → Type 0
AreShort p ns =
    AllByRecursion
    (λ (n : Named). (k : FormKind) (w : Weight) → IsAdmitted p n k w → (w.g + w.rmax + 4) * w.cost + 200 ≤ 2 ^ 26) ns
