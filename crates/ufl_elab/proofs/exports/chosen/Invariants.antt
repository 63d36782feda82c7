use Rattle.std.proofs.Common.{◌≡◌, ℕ, List, [], None, if◌then◌else◌, drop}
use Rattle.ufl_elab.specs.Names.{get}
use Rattle.ufl_elab.specs.Entries.{names_of}
use Rattle.ufl_elab.specs.Exports.{chosen, is_among}
use Rattle.ufl_elab.specs.Answers.{exports_seen}
use Rattle.ufl_elab.proofs.exports.chosen.Given as goal

abbrev pub invariant-loop-item : goal.invariant-loop-item
invariant-loop-item l =
    (before : List (List ℕ)) × (((name : List ℕ) → get (names_of l.names.entries) name
    ≡ (if is_among name before then None else get (names_of l.fn.names.entries) name))
    × (chosen l.file (names_of l.fn.names.entries) (exports_seen l.exports) [] [] l.exports.items.now
    ≡ chosen l.file (names_of l.fn.names.entries) (exports_seen l.exports) before l.all (drop l.item-index l.item-items)))
