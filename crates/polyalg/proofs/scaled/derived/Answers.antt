use Rattle.std.proofs.Common.{◌≡◌, suc, ◌-◌, arith, sym, ap, ◌∙◌, get_or}
use Rattle.std.proofs.Math.ListN.{set}
use Rattle.algebra.specs.Ring.{natural}
use Rattle.algebra.specs.Fraction.{fractions}
use Rattle.algebra.specs.Steps.{product}
use Rattle.ratio.specs.Value.{fraction_of}
use Rattle.polyalg.specs.Terms.{value_of}
use Rattle.polyalg.proofs.MonomialLaws.{exponent_reads}
use Rattle.std.proofs.lemmas.List.{drop_all}
use Rattle.polyalg.proofs.StepLaws.{answer_of, no_answer_of}
use Rattle.polyalg.proofs.ScaledLaws.{first_left, first_term}
use Rattle.polyalg.proofs.DerivedLaws.{derived_begin, derived_skip, derived_step, derived_fails, derived_value, derived_passes, derived_lawful, derived_degree, lowered_at, derived_beyond, passes_beyond}
use Rattle.polyalg.proofs.Variables.{derivative_variables}
use Rattle.polyalg.proofs.scaled.derived.Goals as goal

pub loop-term-init : goal.loop-term-init
loop-term-init c = derived_begin c.args.k c.new-out.result.items c.args.terms.now c.new-out.ensures.items c.requires

pub loop-term-preserved-then-n-eq0 : goal.loop-term-preserved-then-n-eq0
loop-term-preserved-then-n-eq0 c =
    derived_skip c.args.k c.loop-term.out.items _ c.args.terms.now _ c.term-item.result
    (first_left c.args.terms.now c.loop-term.term-index c.term-item.result c.loop-term-test.true c.term-item.is) (exponent_reads c.term-item.result.e c.args.k ∙ c.if-n-eq0.true) c.loop-term.invariant

pub loop-term-preserved : goal.loop-term-preserved
loop-term-preserved c =
    let first = first_left c.args.terms.now c.loop-term.term-index c.term-item.result c.loop-term-test.true c.term-item.is in
    let n = get_or c.term-item.result.e c.args.k 0 - 1 in
    let there : get_or c.term-item.result.e c.args.k 0 ≡ suc n = omega (arith, c.if-n-eq0.false) in
    let at = exponent_reads c.term-item.result.e c.args.k ∙ there in
    derived_step c.args.k n c.loop-term.out.items _ c.args.terms.now c.keep.new.terms.items _ c.term-item.result
    (set c.term-item.result.e c.args.k n) c.in-Some.product first at
    (lowered_at c.args.k n c.term-item.result.e (omega (arith, c.if-k-ge3.false)) (first_term _ _ _ first c.loop-term.invariant.remain).three at)
    (answer_of c.mul.result c.in-Some.product _ c.in-Some.is (c.mul.ensures ∙ ap (product (fraction_of c.term-item.result.c)) (c.whole.ensures ∙ ap (natural fractions) there)))
    c.in_ok-keep.ensures c.loop-term.invariant

pub returns-in_default-clause-range : goal.returns-in_default-clause-range
returns-in_default-clause-range c =
    let first = first_left c.args.terms.now c.loop-term.term-index c.term-item.result c.loop-term-test.true c.term-item.is in
    let n = get_or c.term-item.result.e c.args.k 0 - 1 in
    let there : get_or c.term-item.result.e c.args.k 0 ≡ suc n = omega (arith, c.if-n-eq0.false) in
    derived_fails c.args.k n c.loop-term.out.items _ c.args.terms.now _ c.term-item.result first
    (exponent_reads c.term-item.result.e c.args.k ∙ there)
    (no_answer_of c.mul.result _ c.in_default.is (c.mul.ensures ∙ ap (product (fraction_of c.term-item.result.c)) (c.whole.ensures ∙ ap (natural fractions) there)))
    c.loop-term.invariant

pub returns-clause-value : goal.returns-clause-value
returns-clause-value c = derived_value c.args.k _ _ c.args.terms.now (drop_all c.loop-term.term-index c.args.terms.now c.loop-term-test.false) c.loop-term.invariant

pub returns-clause-range : goal.returns-clause-range
returns-clause-range c = derived_passes c.args.k _ _ c.args.terms.now (drop_all c.loop-term.term-index c.args.terms.now c.loop-term-test.false) c.loop-term.invariant

pub returns-clause-lawful : goal.returns-clause-lawful
returns-clause-lawful c = derived_lawful c.args.k _ _ c.args.terms.now c.loop-term.invariant

pub returns-clause-degree : goal.returns-clause-degree
returns-clause-degree c = derived_degree c.args.k _ _ c.args.terms.now c.loop-term.invariant

pub returns-then-k-ge3-clause-value : goal.returns-then-k-ge3-clause-value
returns-then-k-ge3-clause-value c = ap value_of c.new-out.ensures.items ∙ sym (derived_beyond c.args.k c.args.terms.now c.if-k-ge3.true c.requires.terms)

pub returns-then-k-ge3-clause-range : goal.returns-then-k-ge3-clause-range
returns-then-k-ge3-clause-range c = passes_beyond c.args.k c.args.terms.now c.if-k-ge3.true c.requires.terms

pub returns-clause-variables : goal.returns-clause-variables
returns-clause-variables c d h =
    derivative_variables d c.args.k c.args.terms.now _ (omega (arith, c.if-k-ge3.false)) c.requires (returns-clause-lawful c) (returns-clause-value c) h
