use Rattle.std.proofs.Common.{◌∙◌, ap}
use Rattle.c_text.specs.Stream.{◌>>=◌, expect, expects}
use Rattle.c_text.specs.Units.{signature_at, parameters}
use Rattle.c_text.proofs.ReadLaws.{gives_as}
use Rattle.c_text.proofs.parser.Parser.signature.Goals as goal

pub returns-clause-read : goal.returns-clause-read
unfolding signature_at
returns-clause-read c =
    gives_as (λ x. x) c.expect_all.result _ _ _
    (ap (λ r. r >>= λ i. expect c.args.name.now i.1 >>= λ n. expects parameters n.1) c.in_ok-expect.ensures.read ∙ ap (λ r. r >>= λ n. expects parameters n.1) c.in_ok-expect-2.ensures.read)
    c.expect_all.ensures.read
