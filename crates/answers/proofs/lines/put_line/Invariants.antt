use Rattle.std.proofs.Common.{drop}
use Rattle.std.specs.List.{flat_map}
use Rattle.answers.specs.Lines.{part_text, PutsAfter}
use Rattle.answers.proofs.lines.put_line.Given as goal

-- what is put from here on comes behind what was put so far
abbrev pub invariant-loop-part : goal.invariant-loop-part
invariant-loop-part g l =
    PutsAfter (g.S.Sink.written l.initial.sink) (g.S.Sink.written l.sink) (g.S.Sink.faults l.initial.sink) (g.S.Sink.faults l.sink)
    (flat_map part_text l.parts) (flat_map part_text (drop l.part-index l.parts))
