use Rattle.std.proofs.Common.{◌≡◌, List, [], map, drop}
use Rattle.ufl_values.specs.declared.value.Value.{Value}
use Rattle.ufl_calls.specs.Groups.{IsGroup}
use Rattle.ufl_elab.specs.Evaluation.{step, closed, values_from, chain_of, arguments_of, no_arguments, posts_of, eval_of, next_of, post_of, arg_of}
use Rattle.ufl_elab.specs.Answers.{place_in}
use Rattle.ufl_elab.proofs.evaluation.+evaluation.Given as goal

abbrev pub invariant-values-loop-item : goal.invariant-values-loop-item
invariant-values-loop-item l =
    (vs : List Value) × (IsGroup vs l.all
    × (values_from l.line [] (map (eval_of (place_in l.names l.line)) l.written) l.fn.made
    ≡ values_from l.line vs (map (eval_of (place_in l.names l.line)) (drop l.item-index l.written)) l.made))

abbrev pub invariant-chain-loop-next : goal.invariant-chain-loop-next
invariant-chain-loop-next l =
    step (closed l.line l.fn.first l.fn.made) (chain_of (place_in l.names l.line) (map (next_of (place_in l.names l.line)) l.rest))
    ≡ chain_of (place_in l.names l.line) (map (next_of (place_in l.names l.line)) (drop l.next-index l.rest)) l.all l.made

abbrev pub invariant-posts-loop-post : goal.invariant-posts-loop-post
invariant-posts-loop-post l =
    posts_of (map (post_of (place_in l.names l.line)) l.rest) l.fn.start l.fn.made
    ≡ posts_of (map (post_of (place_in l.names l.line)) (drop l.post-index l.rest)) l.all l.made

abbrev pub invariant-arguments-loop-argument : goal.invariant-arguments-loop-argument
invariant-arguments-loop-argument l =
    arguments_of (place_in l.names l.line) (map (arg_of (place_in l.names l.line)) l.written) no_arguments l.fn.made
    ≡ arguments_of (place_in l.names l.line) (map (arg_of (place_in l.names l.line)) (drop l.argument-index l.written)) l.given l.made
