use Rattle.std.proofs.Common.{◌≡◌, ◌++◌, drop, map}
use Rattle.spaces.specs.Scalar.{scalar_of}
use Rattle.dofs.specs.Arrays.{key_of}
use Rattle.dofs.specs.Rows.{constants}
use Rattle.dofs.proofs.local.push_constants.Given as goal

-- what is there and the labels of the parts that are left
abbrev pub invariant-loop-part : goal.invariant-loop-part
invariant-loop-part l = record {
  number : l.number ≡ l.part-index;
  keys : l.keys.items ++ map key_of (constants l.number (map scalar_of (drop l.part-index l.parts))) ≡ l.fn.keys.items ++ map key_of (constants 0 (map scalar_of l.parts));
}
