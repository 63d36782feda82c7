use Rattle.std.proofs.Common.{◌+◌, ◌-◌, ◌/◌, arith}
use Rattle.data_in.proofs.BlockLaws.{none_between, lower_half, upper_half, found_at}
use Rattle.data_in.proofs.values.find.Goals as goal

pub halves-preserved-then-block-number-2 : goal.halves-preserved-then-block-number-2
halves-preserved-then-block-number-2 c =
    let k = c.halves.low + (c.halves.high - c.halves.low) / 2 in
    lower_half c.args.blocks.now c.args.number c.halves.low c.halves.high k c.index-blocks-middle.result c.requires
    (record { within = omega (arith, c.halves.invariant.within); is = c.index-blocks-middle.is }) c.if-block-number-2.true c.halves.invariant

pub halves-preserved : goal.halves-preserved
halves-preserved c =
    let k = c.halves.low + (c.halves.high - c.halves.low) / 2 in
    upper_half c.args.blocks.now c.args.number c.halves.low c.halves.high k c.index-blocks-middle.result c.requires
    (record { within = omega (arith, c.halves.invariant.within); is = c.index-blocks-middle.is }) (omega (arith, c.if-block-number.false)) c.halves.invariant

pub returns-then-block-number : goal.returns-then-block-number
returns-then-block-number c =
    let k = c.halves.low + (c.halves.high - c.halves.low) / 2 in
    found_at c.args.blocks.now k c.index-blocks-middle.result c.args.number c.requires
    (record { within = omega (arith, c.halves.invariant.within); is = c.index-blocks-middle.is }) c.if-block-number.true

pub returns : goal.returns
returns c = none_between c.args.blocks.now c.args.number c.halves.low c.halves.high c.halves-test.false c.halves.invariant
