use Rattle.std.proofs.Common.{◌++◌, ◌∷◌, [], replicate, ap, sym, ◌∙◌, append_assoc, append-nil, arith}
use Rattle.std.proofs.lemmas.List.{replicate_more}
use Rattle.kernel_statements.proofs.digits.push_times.Goals as goal

pub loop-init : goal.loop-init
loop-init c = sym (append-nil c.args.directions.now.items)

pub loop-preserved : goal.loop-preserved
loop-preserved c =
    c.in_ok-push.ensures.items
    ∙ ap (λ r. r ++ c.args.direction ∷ []) c.loop.invariant
    ∙ append_assoc c.args.directions.now.items (replicate c.loop.counter c.args.direction) (c.args.direction ∷ [])
    ∙ ap (λ r. c.args.directions.now.items ++ r) (replicate_more c.loop.counter c.args.direction)
