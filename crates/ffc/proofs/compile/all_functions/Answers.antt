use Rattle.std.proofs.Common.{arith, sym, subst, take}
use Rattle.std.proofs.lemmas.List.Elements.{All-from_recursion}
use Rattle.ffc.specs.Forms.{IsExported}
use Rattle.ffc.specs.Unit.{AreFunctionsOf, none}
use Rattle.ffc.proofs.FormsLaws.{functions_at}
use Rattle.ffc.proofs.compile.all_functions.Goals as goal

pub functions_of-requires : goal.functions_of-requires
functions_of-requires c =
    subst (IsExported c.args.program.now) (sym c.named-item.is)
    (All-from_recursion (IsExported c.args.program.now) c.args.forms.now c.requires c.loop-named.named-index c.named-item.result (omega arith))

pub loop-named-init : goal.loop-named-init
loop-named-init c = subst (λ fs. AreFunctionsOf c.args.file.now c.args.program.now (take 0 c.args.forms.now) fs) (sym c.new-all.ensures) none

pub loop-named-preserved : goal.loop-named-preserved
loop-named-preserved c =
    functions_at c.args.file.now c.args.program.now c.args.forms.now c.loop-named.named-index c.named-item.result c.loop-named.all _ c.push_functions.new.all
    (omega arith) c.named-item.is c.in_ok-push_functions.ensures c.loop-named.invariant c.in_ok-functions.ensures
