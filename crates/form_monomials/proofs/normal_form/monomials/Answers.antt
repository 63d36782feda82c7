use Rattle.std.proofs.Common.{◌≡◌, length, arith, sym, ap, subst}
use Rattle.std.proofs.lemmas.Grind.{common_steps}
use Rattle.ufl_tree.specs.Places.{table_of}
use Rattle.ufl_tree.specs.Reading.{term_of}
use Rattle.monos.specs.Monomial.{monomials_of}
use Rattle.normal.proofs.Refusals.{ok_then}
use Rattle.integrands.specs.Integrands.{integrands_of}
use Rattle.form_monomials.specs.Monomials.{AddUp, AreBounded, HaveBoundedNumbers}
use Rattle.form_monomials.specs.Sums.{IsSumOf}
use Rattle.form_monomials.proofs.NormalLaws.{function_safe, function_value, function_weight, function_numbers, function_leaves, nothing_value, nothing_weight, nothing_numbers, no_bodies}
use Rattle.form_monomials.proofs.RankLaws.{function_rank}
use Rattle.form_monomials.proofs.normal_form.monomials.Goals as goal

-- ---- the sum of the bodies
pub normal-requires : goal.normal-requires
normal-requires c =
    function_safe (table_of c.args.elements.now) c.args.marker (integrands_of c.args.integrands.now) (term_of c.in_ok-body.body)
    (subst (IsSumOf (term_of c.in_ok-body.body)) c.in_ok-parts.ensures c.in_ok-body.ensures) c.requires

pub returns-clause-value : goal.returns-clause-value
returns-clause-value c =
    ok_then c.normal.result
    (λ ms h. function_value (table_of c.args.elements.now) c.args.marker (integrands_of c.args.integrands.now) (term_of c.in_ok-body.body)
    (subst (IsSumOf (term_of c.in_ok-body.body)) c.in_ok-parts.ensures c.in_ok-body.ensures) (monomials_of ms.items) h) c.normal.ensures.value

pub returns-clause-weight : goal.returns-clause-weight
returns-clause-weight c =
    ok_then c.normal.result
    (λ ms h. function_weight (table_of c.args.elements.now) c.args.marker (integrands_of c.args.integrands.now) (term_of c.in_ok-body.body)
    (subst (IsSumOf (term_of c.in_ok-body.body)) c.in_ok-parts.ensures c.in_ok-body.ensures) (monomials_of ms.items) h) c.normal.ensures.weight

pub returns-clause-numbers : goal.returns-clause-numbers
returns-clause-numbers c =
    ok_then c.normal.result
    (λ ms h. function_numbers (table_of c.args.elements.now) c.args.marker (integrands_of c.args.integrands.now) (term_of c.in_ok-body.body)
    (subst (IsSumOf (term_of c.in_ok-body.body)) c.in_ok-parts.ensures c.in_ok-body.ensures) (monomials_of ms.items) h) c.normal.ensures.numbers

pub returns-clause-arguments : goal.returns-clause-arguments
returns-clause-arguments c = λ f k t i a e.
    ok_then c.normal.result
    (λ ms h. function_rank (table_of c.args.elements.now) c.args.marker (term_of c.in_ok-body.body) (integrands_of c.args.integrands.now)
    (subst (IsSumOf (term_of c.in_ok-body.body)) c.in_ok-parts.ensures c.in_ok-body.ensures) (monomials_of ms.items) h f k t i a e) c.normal.ensures.origins

pub returns-clause-leaves : goal.returns-clause-leaves
returns-clause-leaves c =
    ok_then c.normal.result
    (λ ms h. function_leaves (table_of c.args.elements.now) c.args.marker (integrands_of c.args.integrands.now) (term_of c.in_ok-body.body)
    (subst (IsSumOf (term_of c.in_ok-body.body)) c.in_ok-parts.ensures c.in_ok-body.ensures) (monomials_of ms.items) h) c.normal.ensures.leaves

-- ---- no body
pub returns-then-is_empty-clause-value : goal.returns-then-is_empty-clause-value
returns-then-is_empty-clause-value c =
    let z : length c.in_ok-parts.parts.items ≡ 0 = grind (arith, common_steps, c.is_empty.ensures, c.if-is_empty.true, c.in_ok-parts.parts.ok.0) in
    subst (AddUp (table_of c.args.elements.now) (integrands_of c.args.integrands.now) c.args.marker) (sym (ap monomials_of c.new.ensures.items))
    (nothing_value (table_of c.args.elements.now) c.args.marker (integrands_of c.args.integrands.now) (no_bodies c.in_ok-parts.parts.items _ z c.in_ok-parts.ensures))

pub returns-then-is_empty-clause-weight : goal.returns-then-is_empty-clause-weight
returns-then-is_empty-clause-weight c =
    subst (AreBounded (table_of c.args.elements.now) (integrands_of c.args.integrands.now)) (sym (ap monomials_of c.new.ensures.items))
    (nothing_weight (table_of c.args.elements.now) c.args.marker (integrands_of c.args.integrands.now))

pub returns-then-is_empty-clause-numbers : goal.returns-then-is_empty-clause-numbers
returns-then-is_empty-clause-numbers c =
    subst (HaveBoundedNumbers (table_of c.args.elements.now) (integrands_of c.args.integrands.now)) (sym (ap monomials_of c.new.ensures.items))
    (nothing_numbers (table_of c.args.elements.now) c.args.marker (integrands_of c.args.integrands.now))
