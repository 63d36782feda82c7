-- The text of the kernels of a file's forms
use Rattle.std.specs.Prelude.{◌≡◌, ◌≢◌, ℕ, List, [], Ok}
use Rattle.c_unit.specs.declared.unit.CUnit.{CUnit}
use Rattle.c_text.specs.Layout.{canonical}
use Rattle.c_text.specs.Lawful.{MeetsRules}
use Rattle.ufl_elab.specs.declared.program.UflProgram.{UflProgram}
use Rattle.form_files.specs.Admissions.{IsFileOf}
use Rattle.ffc.specs.Unit.{AreFunctionsOf, AreShort}

-- The file exports a form, and the text is the canonical one of the unit of the functions of all forms. Where no run
-- makes more than 2^26 statements the unit is lawful, so the text is read back as it.
pub record IsUnitText (file text : List ℕ) : Type 0 where
  pub program : UflProgram
  pub unit : CUnit
  pub says : IsFileOf file (Ok program)
  pub some : program.forms ≢ []
  pub functions : AreFunctionsOf file program program.forms unit.funs
  pub lawful : AreShort program program.forms → MeetsRules unit
  pub text_is : text ≡ canonical unit
