use Rattle.std.proofs.Common.{◌≡◌, take, map}
use Rattle.assembly.specs.declared.funs.MarkedFun.{MarkedFun}
use Rattle.assembly.proofs.runs.Machines.new.Given as goal

abbrev pub invariant-loop-m : goal.invariant-loop-m
invariant-loop-m l = record {
  markers : l.markers.items ≡ map (λ (f : MarkedFun). f.marker) (take l.m-index l.funs.marked.items);
  marked : l.marked.items ≡ map (λ (f : MarkedFun). f.fun) (take l.m-index l.funs.marked.items);
}
