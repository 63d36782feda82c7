-- The machines of a form's functions
use Rattle.std.specs.Prelude.{◌≡◌, map}
use Rattle.assembly.specs.declared.funs.MarkedFun.{MarkedFun}
use Rattle.assembly.specs.declared.runs.Machines.{Machines}

-- each function has its own, and the markers are those of the functions
pub record AreMachines (m : Machines) : Type 0 where
  pub plain : m.plain ≡ m.funs.now.plain
  pub markers : m.markers.items ≡ map (λ (f : MarkedFun). f.marker) m.funs.now.marked.items
  pub marked : m.marked.items ≡ map (λ (f : MarkedFun). f.fun) m.funs.now.marked.items
