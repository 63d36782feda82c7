use Rattle.std.proofs.Common.{◌≡◌, ◌+◌, ◌^◌, ◌++◌, ◌∷◌, [], length, drop, reverse, map, refl, sym, ap, ap₂, ◌∙◌, subst, append-nil, arith}
use Rattle.std.proofs.lemmas.List.{drop_all, length_push, length-reverse}
use Rattle.std.proofs.lemmas.Iterator.Adapters.{YieldsList-from_rev_slice}
use Rattle.std.proofs.lemmas.Iterator.Consumers.{YieldsList-turn, YieldsList-end}
use Rattle.kernel_runs.specs.Strips.{from_last}
use Rattle.kernel_runs.specs.Planned.{CountsWithin}
use Rattle.kernel_runs.specs.Body.{IsDirected, strip_of}
use Rattle.basis_products.proofs.Lists.{all_at}
use Rattle.kernel_statements.specs.Emitted.{code_from, columns_after}
use Rattle.kernel_statements.proofs.ColumnLaws.{ValuesLeft, all_reversed, last_is, last_mapped, next_few, next_value, slowest}
use Rattle.kernel_statements.proofs.LoopLaws.{drop_here}
use Rattle.kernel_statements.proofs.columns.emit_values.Goals as goal

pub loop-coefficient-init : goal.loop-coefficient-init
loop-coefficient-init c = record {
  code = refl;
  after = refl;
  few = subst (CountsWithin (2 ^ 20) c.args.start.count) (last_mapped (strip_of c.args.d) c.args.coefficients.now []) c.requires.few;
}

pub with_slowest-requires : goal.with_slowest-requires
with_slowest-requires c =
    let t = YieldsList-turn (YieldsList-from_rev_slice c.args.coefficients.now cc) c.loop-coefficient.yielded _ c.loop-coefficient.yielded_by _ _ c.in-Some.coefficient c.in-Some.is c.next.ensures.steps in
    let next = drop_here (reverse c.args.coefficients.now) (length c.loop-coefficient.yielded) c.in-Some.coefficient.now t.0 t.1 in
    let few = next_few c.args.d c.args.start c.loop-coefficient.columns c.in-Some.coefficient.now _ _ _ _ _ c.strip_of-values.result next c.strip_of-values.ensures c.loop-coefficient.invariant in
    omega (arith, few)

pub loop-coefficient-preserved : goal.loop-coefficient-preserved
loop-coefficient-preserved c =
    let t = YieldsList-turn (YieldsList-from_rev_slice c.args.coefficients.now cc) c.loop-coefficient.yielded _ c.loop-coefficient.yielded_by _ _ c.in-Some.coefficient c.in-Some.is c.next.ensures.steps in
    let next = drop_here (reverse c.args.coefficients.now) (length c.loop-coefficient.yielded) c.in-Some.coefficient.now t.0 t.1
    ∙ ap (λ k. c.in-Some.coefficient.now ∷ drop k (reverse c.args.coefficients.now)) (sym (length_push c.loop-coefficient.yielded c.in-Some.coefficient)) in
    next_value c.args.d c.args.start c.loop-coefficient.columns c.in_ok-columns.columns c.in-Some.coefficient.now _ _ _ _ _ _ c.strip_of-values.result next
    c.strip_of-values.ensures c.in_ok-columns.ensures.columns c.in_ok-columns.ensures.code c.loop-coefficient.invariant

pub returns-clause-columns : goal.returns-clause-columns
returns-clause-columns c =
    let t = YieldsList-end (YieldsList-from_rev_slice c.args.coefficients.now cc) c.loop-coefficient.yielded _ c.loop-coefficient.yielded_by _ _ c.in-None.is c.next.ensures.steps in
    sym (ap (λ xs. columns_after c.loop-coefficient.columns (slowest c.args.d xs)) (drop_all (length c.loop-coefficient.yielded) (reverse c.args.coefficients.now) (omega (arith, t.1))))
    ∙ c.loop-coefficient.invariant.after
    ∙ ap (columns_after c.args.start) (sym (last_is (strip_of c.args.d) c.args.coefficients.now []))

pub returns-clause-code : goal.returns-clause-code
returns-clause-code c =
    let t = YieldsList-end (YieldsList-from_rev_slice c.args.coefficients.now cc) c.loop-coefficient.yielded _ c.loop-coefficient.yielded_by _ _ c.in-None.is c.next.ensures.steps in
    sym (append-nil c.loop-coefficient.body)
    ∙ sym (ap (λ xs. c.loop-coefficient.body ++ code_from c.loop-coefficient.columns (slowest c.args.d xs)) (drop_all (length c.loop-coefficient.yielded) (reverse c.args.coefficients.now) (omega (arith, t.1))))
    ∙ c.loop-coefficient.invariant.code
    ∙ ap (λ fs. c.args.body.now ++ code_from c.args.start fs) (sym (last_is (strip_of c.args.d) c.args.coefficients.now []))
