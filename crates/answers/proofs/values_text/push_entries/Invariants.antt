use Rattle.std.proofs.Common.{◌≡◌, ◌++◌, map, drop}
use Rattle.std.specs.List.{flat_map}
use Rattle.assembly.specs.Kept.{seen}
use Rattle.answers.specs.ValuesText.{entry_line}
use Rattle.answers.proofs.values_text.push_entries.Given as goal

-- the lines so far and those that are left are all
abbrev pub invariant-loop-triple : goal.invariant-loop-triple
invariant-loop-triple l =
    l.text.items ++ flat_map entry_line (map seen (drop l.triple-index l.triples))
    ≡ l.initial.text.items ++ flat_map entry_line (map seen l.triples)
