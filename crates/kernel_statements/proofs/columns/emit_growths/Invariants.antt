use Rattle.std.proofs.Common.{◌≡◌, ◌++◌, drop, map, []}
use Rattle.kernel_runs.specs.Strips.{in_turn}
use Rattle.kernel_runs.specs.Body.{strip_of}
use Rattle.kernel_runs.specs.declared.digit.Digit.TheVariants.{Growth}
use Rattle.kernel_statements.specs.Emitted.{CountsFit, code_from, columns_after}
use Rattle.kernel_statements.proofs.columns.emit_growths.Given as goal

-- the statements so far and those of the directions that are left are all
abbrev pub invariant-loop-direction : goal.invariant-loop-direction
invariant-loop-direction l = record {
  code : l.body ++ code_from l.columns (in_turn (map (λ i. strip_of l.d (Growth i)) (drop l.direction-index l.directions)) [])
      ≡ l.fn.body ++ code_from l.fn.start (in_turn (map (λ i. strip_of l.d (Growth i)) l.directions) []);
  after : columns_after l.columns (in_turn (map (λ i. strip_of l.d (Growth i)) (drop l.direction-index l.directions)) [])
      ≡ columns_after l.fn.start (in_turn (map (λ i. strip_of l.d (Growth i)) l.directions) []);
  few : CountsFit l.d l.columns.count (in_turn (map Growth (drop l.direction-index l.directions)) []);
}
