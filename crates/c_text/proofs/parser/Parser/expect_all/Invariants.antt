use Rattle.std.proofs.Common.{◌≡◌, ◌≤◌, drop, map}
use Rattle.c_text.specs.Stream.{expects}
use Rattle.c_text.specs.Parser.{stream, left}
use Rattle.c_text.proofs.parser.Parser.expect_all.Given as goal

abbrev pub invariant-loop-word : goal.invariant-loop-word
invariant-loop-word l = record {
  read : expects (map (λ w. w.now) l.words) (stream l.fn.self) ≡ expects (map (λ w. w.now) (drop l.word-index l.words)) (stream l.self);
  shorter : left l.self ≤ left l.fn.self;
}
