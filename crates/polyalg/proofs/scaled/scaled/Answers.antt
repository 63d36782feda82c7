use Rattle.ratio.specs.Value.{fraction_of}
use Rattle.std.proofs.lemmas.List.{drop_all}
use Rattle.polyalg.proofs.StepLaws.{answer_of, no_answer_of}
use Rattle.polyalg.proofs.ScaledLaws.{first_left, scaled_begin, scaled_step, scaled_fails, scaled_value, scaled_passes, scaled_lawful, scaled_degree}
use Rattle.polyalg.proofs.Variables.{scaled_variables}
use Rattle.polyalg.proofs.scaled.scaled.Goals as goal

pub loop-term-init : goal.loop-term-init
loop-term-init c = scaled_begin (fraction_of c.args.c) c.new-out.result.items c.args.terms.now c.new-out.ensures.items c.requires

pub loop-term-preserved : goal.loop-term-preserved
loop-term-preserved c =
    scaled_step (fraction_of c.args.c) c.loop-term.out.items _ c.args.terms.now c.keep.new.terms.items _ c.term-item.result c.in-Some.product
    (first_left c.args.terms.now c.loop-term.term-index c.term-item.result c.loop-term-test.true c.term-item.is)
    (answer_of c.mul.result c.in-Some.product _ c.in-Some.is c.mul.ensures)
    c.in_ok-keep.ensures c.loop-term.invariant

pub returns-in_default-clause-range : goal.returns-in_default-clause-range
returns-in_default-clause-range c =
    scaled_fails (fraction_of c.args.c) c.loop-term.out.items _ c.args.terms.now _ c.term-item.result
    (first_left c.args.terms.now c.loop-term.term-index c.term-item.result c.loop-term-test.true c.term-item.is)
    (no_answer_of c.mul.result _ c.in_default.is c.mul.ensures) c.loop-term.invariant

pub returns-clause-value : goal.returns-clause-value
returns-clause-value c = scaled_value (fraction_of c.args.c) _ _ c.args.terms.now (drop_all c.loop-term.term-index c.args.terms.now c.loop-term-test.false) c.loop-term.invariant

pub returns-clause-range : goal.returns-clause-range
returns-clause-range c = scaled_passes (fraction_of c.args.c) _ _ c.args.terms.now (drop_all c.loop-term.term-index c.args.terms.now c.loop-term-test.false) c.loop-term.invariant

pub returns-clause-lawful : goal.returns-clause-lawful
returns-clause-lawful c = scaled_lawful (fraction_of c.args.c) _ _ c.args.terms.now c.loop-term.invariant

pub returns-clause-degree : goal.returns-clause-degree
returns-clause-degree c = scaled_degree (fraction_of c.args.c) _ _ c.args.terms.now c.loop-term.invariant

pub returns-clause-variables : goal.returns-clause-variables
returns-clause-variables c d h = scaled_variables d (fraction_of c.args.c) c.args.terms.now _ (returns-clause-lawful c) (returns-clause-value c) h
