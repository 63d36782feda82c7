use Rattle.std.proofs.Common.{sym, ◌∙◌}
use Rattle.data_in.proofs.BlockLaws.{extra_here, extra_later, extra_none}
use Rattle.data_in.proofs.values.first_extra.Goals as goal

pub returns-then-block-known : goal.returns-then-block-known
returns-then-block-known c =
    sym (c.loop-block.invariant
    ∙ extra_here c.args.known c.args.blocks.now c.loop-block.block-index c.block-item.result (record { within = c.loop-block-test.true; is = c.block-item.is }) c.if-block-known.true)

pub loop-block-preserved : goal.loop-block-preserved
loop-block-preserved c =
    c.loop-block.invariant
    ∙ extra_later c.args.known c.args.blocks.now c.loop-block.block-index c.block-item.result (record { within = c.loop-block-test.true; is = c.block-item.is }) c.if-block-known.false

pub returns : goal.returns
returns c = sym (c.loop-block.invariant ∙ extra_none c.args.known c.args.blocks.now c.loop-block.block-index c.loop-block-test.false)
