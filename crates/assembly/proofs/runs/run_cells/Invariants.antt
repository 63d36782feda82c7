use Rattle.std.proofs.Common.{◌≡◌, ◌<◌, ◌*◌, ℕ, length, take, drop}
use Rattle.c_unit.specs.Meaning.{fractions_of}
use Rattle.assembly.specs.Assembly.{runs_of, tensor_on, IsGoodOn}
use Rattle.assembly.specs.Machines.{AreMachines}
use Rattle.assembly.proofs.runs.run_cells.Given as goal

-- the cells so far have their values
abbrev pub invariant-loop-k : goal.invariant-loop-k
invariant-loop-k l = record {
  funs : l.machines.funs.now ≡ l.f;
  machines : AreMachines l.machines;
  size : length l.values.items ≡ l.k * l.f.plain.a;
  values : (j : ℕ) → j < l.k → take l.f.plain.a (drop (j * l.f.plain.a) (fractions_of l.values.items)) ≡ tensor_on (runs_of l.f l.m l.coefs) j;
  good : (j : ℕ) → j < l.k → IsGoodOn (runs_of l.f l.m l.coefs) j;
}
