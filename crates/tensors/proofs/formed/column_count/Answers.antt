use Rattle.std.proofs.Common.{◌*◌, ◌^◌, ◌+◌, ◌≤◌, drop, ap, ap₂, sym, ◌∙◌, subst, arith}
use Rattle.monomial_products.proofs.PartLaws.{lawful_dimension}
use Rattle.tensors.proofs.ColumnLaws.{IsCounted, counted_next, counted_few, atom_few, lists_few}
use Rattle.tensors.proofs.formed.column_count.Goals as goal

pub direction_lists-requires-clause-few : goal.direction_lists-requires-clause-few
direction_lists-requires-clause-few c =
    subst (λ k. c.args.l.now.d ^ k ≤ 2 ^ 20) (sym c.derivative_count.ensures)
    (lists_few c.args.l.now c.args.atoms.now c.loop-atom.atom-index _ (lawful_dimension c.args.l.now c.requires.layout).0 c.loop-atom-test.true c.requires.small)

pub overflow_mul-count : goal.overflow_mul-count
overflow_mul-count c =
    let few : c.summed_nodes-nodes.result * c.direction_lists.result ≤ 2 ^ 20 =
    subst (λ n. n ≤ 2 ^ 20) (sym (ap₂ ◌*◌ c.summed_nodes-nodes.ensures (c.direction_lists.ensures ∙ ap (λ k. c.args.l.now.d ^ k) c.derivative_count.ensures)))
    (atom_few c.args.l.now c.args.atoms.now c.loop-atom.atom-index _ (lawful_dimension c.args.l.now c.requires.layout).0 c.loop-atom-test.true c.requires.small) in
    omega (arith, few)

pub loop-atom-preserved : goal.loop-atom-preserved
loop-atom-preserved c =
    subst (λ n. IsCounted c.args.l.now c.args.atoms.now (drop (c.loop-atom.atom-index + 1) c.args.atoms.now) (c.loop-atom.count * n))
    (sym (ap₂ ◌*◌ c.summed_nodes-nodes.ensures (c.direction_lists.ensures ∙ ap (λ k. c.args.l.now.d ^ k) c.derivative_count.ensures)))
    (counted_next c.args.l.now c.args.atoms.now c.loop-atom.atom-index c.loop-atom.count _ c.loop-atom-test.true c.loop-atom.invariant)

pub overflow_mul-count-in-loop-atom : goal.overflow_mul-count-in-loop-atom
overflow_mul-count-in-loop-atom c =
    omega (
      arith,
      counted_few c.args.l.now c.args.atoms.now (drop (c.loop-atom.atom-index + 1) c.args.atoms.now) (c.loop-atom.count * (c.summed_nodes-nodes.result * c.direction_lists.result))
          (lawful_dimension c.args.l.now c.requires.layout).0
          (subst (λ n. IsCounted c.args.l.now c.args.atoms.now (drop (c.loop-atom.atom-index + 1) c.args.atoms.now) (c.loop-atom.count * n))
          (sym (ap₂ ◌*◌ c.summed_nodes-nodes.ensures (c.direction_lists.ensures ∙ ap (λ k. c.args.l.now.d ^ k) c.derivative_count.ensures)))
          (counted_next c.args.l.now c.args.atoms.now c.loop-atom.atom-index c.loop-atom.count _ c.loop-atom-test.true c.loop-atom.invariant)),
    )
