use Rattle.std.proofs.Common.{◌≡◌, ◌++◌, map}
use Rattle.assembly.specs.declared.funs.MarkedFun.{MarkedFun}
use Rattle.ffc.proofs.compile.push_functions.Given as goal

abbrev pub invariant-loop-marked : goal.invariant-loop-marked
invariant-loop-marked l = l.all ≡ l.initial.all ++ map (λ (m : MarkedFun). m.fun) l.yielded
