use Rattle.std.proofs.Common.{◌++◌, ◌∷◌, [], map, Err, refl, sym, ap, ◌∙◌}
use Rattle.ufl_syntax.specs.declared.tree.Syn.TheVariants as s
use Rattle.ufl_syntax.specs.declared.tree.Post.TheVariants as q
use Rattle.ufl_elab.specs.Evaluation.{step, whole, signed_by, operated, applied, given_with, chain_of, arguments_of, no_arguments, eval_of, next_of, post_of, arg_of}
use Rattle.ufl_elab.specs.Answers.{place_in}
use Rattle.ufl_elab.proofs.Readings.{eval_of-Sign, post_of-Call, next_of-op, arg_of-name}
use Rattle.ufl_elab.proofs.StepLaws.{run_next, run_stops, finds_residual, finds_as, values_next, values_stops}
use Rattle.ufl_elab.proofs.evaluation.+evaluation.Goals as goal

pub arguments-loop-argument-preserved : goal.arguments-loop-argument-preserved
arguments-loop-argument-preserved t c =
    let p = place_in c.args.names.now c.args.line in
    let l = c.loop-argument in
    let x = c.argument-item.result in
    run_next (arguments_of p) (λ y g m. given_with p g y.name (y.value m)) (λ y ys g m. refl) (arg_of p)
    c.args.written.now l.argument-index x l.given c.in_ok-given.given l.made c.argument_value-value.new.made _ c.loop-argument-test.true c.argument-item.is
    (ap (λ n. given_with p l.given n ((arg_of p x).value l.made)) (arg_of-name p x)
    ∙ c.in_ok-given.ensures ((arg_of p x).value l.made) c.argument_value-value.new.made c.argument_value-value.ensures)
    l.invariant

pub chain-loop-next-preserved : goal.chain-loop-next-preserved
chain-loop-next-preserved t c =
    let p = place_in c.args.names.now c.args.line in
    let l = c.loop-next in
    let x = c.next-item.result in
    run_next (λ os a m. chain_of p os a m) (λ o a m. operated p o.op a (o.right m)) (λ o os a m. refl) (next_of p)
    c.args.rest.now l.next-index x l.all c.in_ok-all.all l.made c.operand-right.new.made _ c.loop-next-test.true c.next-item.is
    (ap (λ n. operated p n l.all ((next_of p x).right l.made)) (next_of-op p x)
    ∙ c.in_ok-all.ensures ((next_of p x).right l.made) c.operand-right.new.made c.operand-right.ensures)
    l.invariant

pub chain-returns-in_err-all : goal.chain-returns-in_err-all
chain-returns-in_err-all t c =
    let p = place_in c.args.names.now c.args.line in
    let l = c.loop-next in
    let x = c.next-item.result in
    finds_residual c.from_residual-in_err-all.result c.in_err-all.field-0.0 _ _ c.from_residual-in_err-all.ensures.0 c.from_residual-in_err-all.ensures.1
    (run_stops (λ os a m. chain_of p os a m) (λ o a m. operated p o.op a (o.right m)) (λ o os a m. refl) (next_of p)
    c.args.rest.now l.next-index x l.all l.made c.operand-right.new.made c.operand-right.new.made _ c.in_err-all.field-0.0 c.loop-next-test.true c.next-item.is
    (finds_as (Err c.in_err-all.field-0.0) c.operand-right.new.made (operated p (next_of p x).op l.all ((next_of p x).right l.made)) (operated p x.op l.all ((next_of p x).right l.made)) (ap (λ n. operated p n l.all ((next_of p x).right l.made)) (next_of-op p x))
    (c.in_err-all.ensures ((next_of p x).right l.made) c.operand-right.new.made c.operand-right.ensures))
    l.invariant)

pub values-loop-item-preserved : goal.values-loop-item-preserved
values-loop-item-preserved t c =
    let p = place_in c.args.names.now c.args.line in
    let l = c.loop-item in
    let x = c.item-item.result in
    let g = c.in_ok-all.ensures (eval_of p x l.made) c.evaluate-value.new.made l.invariant.0 l.invariant.1.0 c.evaluate-value.ensures in (
      l.invariant.0 ++ g.0 ∷ [],
      (
        g.1.1,
        values_next c.args.line (eval_of p) c.args.written.now l.item-index x l.invariant.0 g.0 l.made c.evaluate-value.new.made _
            c.loop-item-test.true c.item-item.is g.1.0 l.invariant.1.1,
      ),
    )

pub values-returns-in_err-all : goal.values-returns-in_err-all
values-returns-in_err-all t c =
    let p = place_in c.args.names.now c.args.line in
    let l = c.loop-item in
    let x = c.item-item.result in
    finds_residual c.from_residual.result c.in_err-all.field-0.0 _ _ c.from_residual.ensures.0 c.from_residual.ensures.1
    (values_stops c.args.line c.args.word (eval_of p) c.args.written.now l.item-index x l.invariant.0 l.made c.evaluate-value.new.made _ c.in_err-all.field-0.0
    c.loop-item-test.true c.item-item.is
    (c.in_err-all.ensures (eval_of p x l.made) c.evaluate-value.new.made l.invariant.0 l.invariant.1.0 c.evaluate-value.ensures)
    l.invariant.1.1)

pub evaluate-returns-in-Sign : goal.evaluate-returns-in-Sign
evaluate-returns-in-Sign t c =
    let p = place_in c.args.names.now c.args.line in
    let m = c.args.made.now in
    let e = c.get.result.now in
    finds_as c.signed.result c.evaluate-operand.new.made (eval_of p c.args.written.now m) (signed_by p c.in-Sign.sign (eval_of p e m))
    (ap (λ w. eval_of p w m) c.in-Sign.is ∙ ap (λ x. eval_of p (s.Sign c.in-Sign.sign x) m) (sym c.get.ensures) ∙ eval_of-Sign p c.in-Sign.sign e m)
    (c.signed.ensures (eval_of p e m) c.evaluate-operand.new.made c.evaluate-operand.ensures)

pub step-returns-in-Call : goal.step-returns-in-Call
step-returns-in-Call t c =
    let p = place_in c.args.names.now c.args.line in
    let m = c.args.made.now in
    let xs = c.as_slice.result.now in
    finds_as c.call.result c.call.new.made (post_of p c.args.post.now c.args.start m)
    (step (arguments_of p (map (arg_of p) xs) no_arguments m) (λ g n. whole (applied c.args.line c.args.start c.in-Call.bracket g n)))
    (ap (λ w. post_of p w c.args.start m) c.in-Call.is
    ∙ ap (λ x. post_of p (q.Call c.in-Call.bracket x) c.args.start m) (sym c.as_slice.ensures)
    ∙ post_of-Call p c.in-Call.bracket xs c.args.start m)
    (c.call.ensures (arguments_of p (map (arg_of p) xs) no_arguments m) c.arguments-given.ensures)
