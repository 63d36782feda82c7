use Rattle.std.proofs.Common.{◌∙◌, ap, subst, sym, List, ◌++◌}
use Rattle.std.specs.List.{AllByRecursion}
use Rattle.c_unit.specs.declared.unit.CUnit.{CUnit}
use Rattle.c_text.specs.Layout.{canonical}
use Rattle.ffc.specs.Forms.{IsExported}
use Rattle.ffc.specs.Unit.{AreFunctionsOf}
use Rattle.ffc.proofs.UnitLaws.{unit_keeps}
use Rattle.ffc.proofs.compile.compile.Goals as goal

pub all_functions-requires : goal.all_functions-requires
all_functions-requires c = subst (λ l. AllByRecursion (IsExported c.in_ok-program.program) l) (sym c.as_slice.ensures) c.in_ok-program.ensures.exported

pub returns-clause-text : goal.returns-clause-text
returns-clause-text c =
    let u : CUnit = record { funs = c.in_ok-all_functions.field-0 } in
    let are = subst (λ l. AreFunctionsOf c.args.file.now c.in_ok-program.program l u.funs) c.as_slice.ensures c.in_ok-all_functions.ensures in
    record {
      program = c.in_ok-program.program;
      unit = u;
      says = c.in_ok-program.ensures.says;
      some = c.in_ok-program.ensures.some;
      functions = are;
      lawful = unit_keeps c.args.file.now c.in_ok-program.program u are c.in_ok-program.ensures.says;
      text_is = c.in_ok-print_unit.ensures.text ∙ ap (λ (l : List _). l ++ canonical u) c.new-text.ensures.items;
    }
