use Rattle.std.proofs.Common.{◌≡◌, ◌++◌, map}
use Rattle.integrands.specs.Integrands.{integrands_of, with_body}
use Rattle.integrands.specs.Flattening.{under}
use Rattle.integrands.proofs.forms.with_all.Given as goal

abbrev pub invariant-loop-one : goal.invariant-loop-one
invariant-loop-one l = record {
  all : l.yielded ++ l.one-iterator.rest.items ≡ l.fn.others.items;
  value : integrands_of l.all.items ≡ integrands_of l.fn.found.items ++ map (with_body (under l.operator)) (integrands_of l.yielded);
}
