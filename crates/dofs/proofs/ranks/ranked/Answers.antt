use Rattle.std.proofs.Common.{◌≡◌, ◌<◌, ◌++◌, ◌+◌, [], ◌∷◌, false, true, length, arith, refl, sym, ap, subst, ◌∙◌}
use Rattle.dofs.specs.Items.{IsFirst}
use Rattle.dofs.proofs.RankLaws.{are_items, as_made, next_new, next_same, none_ranked, same_item, from_first, not_first, not_first_positive, all_labels, all_ranks, item_within, few_items}
use Rattle.dofs.proofs.ranks.ranked.Goals as goal
use Rattle.dofs.proofs.ranks.ranked.Goals.{then-is_first+in_ok-push, else-is_first}

pub loop-i-init : goal.loop-i-init
loop-i-init c = none_ranked c.args.keys.now c.sort_unstable.new.self.items c.new-labels.result.items c.in_ok-ranks.ranks.items c.new-labels.ensures.items (omega (arith, c.in_ok-ranks.ensures.len))

pub overflow_cast-row : goal.overflow_cast-row
overflow_cast-row c =
    omega (arith, c.requires, c.len-row.ensures, c.loop-i.invariant.few, c.loop-i-test.true, c.len-i-end.ensures, few_items c.args.keys.now c.in_ok-items.items.items c.in_ok-items.ensures, c.sort_unstable.ensures.len)

pub overflow_cast-item : goal.overflow_cast-item
overflow_cast-item c =
    omega (arith, c.requires, item_within c.args.keys.now c.sort_unstable.new.self.items c.loop-i.i c.index-item.result.now _ (are_items c.args.keys.now c.in_ok-items.items.items c.sort_unstable.new.self.items c.in_ok-items.ensures c.sort_unstable.ensures.permutation c.sort_unstable.ensures.sorted) (omega (arith, c.loop-i-test.true, c.len-i-end.ensures)) c.index-item.ensures)

pub index_mut-requires : goal.index_mut-requires
index_mut-requires c =
    omega (arith, c.loop-i.invariant.size, item_within c.args.keys.now c.sort_unstable.new.self.items c.loop-i.i c.index-item.result.now _ (are_items c.args.keys.now c.in_ok-items.items.items c.sort_unstable.new.self.items c.in_ok-items.ensures c.sort_unstable.ensures.permutation c.sort_unstable.ensures.sorted) (omega (arith, c.loop-i-test.true, c.len-i-end.ensures)) c.index-item.ensures)

pub loop-i-preserved : goal.loop-i-preserved
loop-i-preserved c =
    let inside : c.loop-i.i < length c.sort_unstable.new.self.items = omega (arith, c.loop-i-test.true, c.len-i-end.ensures) in
    let at = same_item c.sort_unstable.new.self.items c.loop-i.i c.index-item.result.now _ inside c.index-item.ensures in
    elim c.if-is_first.branch [
      | then-is_first+in_ok-push w ↦
          as_made c.args.keys.now c.sort_unstable.new.self.items (c.loop-i.i + 1) c.if-is_first.row (length c.loop-i.labels.items) c.index-item.result.now.place c.if-is_first.labels.items
          (c.loop-i.labels.items ++ c.index-item.result.now.key ∷ []) c.loop-i.ranks.items (omega (arith, w.row-is, w.len-row.ensures)) (ap (λ v. v.items) w.labels-is ∙ w.in_ok-push.ensures.items)
          (next_new c.args.keys.now c.sort_unstable.new.self.items c.loop-i.i c.loop-i.row c.index-item.result.now c.loop-i.labels.items c.loop-i.ranks.items
          (are_items c.args.keys.now c.in_ok-items.items.items c.sort_unstable.new.self.items c.in_ok-items.ensures c.sort_unstable.ensures.permutation c.sort_unstable.ensures.sorted) inside at c.loop-i.invariant
          (from_first c.sort_unstable.new.self.items c.loop-i.i c.index-item.result.now at (subst (λ ys. IsFirst ys c.loop-i.i) c.deref.ensures.value (w.if-is_first.ensures.0 refl))))
      | else-is_first w ↦
          let old : IsFirst c.sort_unstable.new.self.items c.loop-i.i → ⊥ = λ first. never (w.if-is_first.ensures.1 (subst (λ ys. IsFirst ys c.loop-i.i) (sym c.deref.ensures.value) first)) in
          as_made c.args.keys.now c.sort_unstable.new.self.items (c.loop-i.i + 1) c.if-is_first.row c.loop-i.row c.index-item.result.now.place c.if-is_first.labels.items
          c.loop-i.labels.items c.loop-i.ranks.items w.row-is (ap (λ v. v.items) w.labels-is)
          (next_same c.args.keys.now c.sort_unstable.new.self.items c.loop-i.i c.loop-i.row c.index-item.result.now c.loop-i.labels.items c.loop-i.ranks.items
          (are_items c.args.keys.now c.in_ok-items.items.items c.sort_unstable.new.self.items c.in_ok-items.ensures c.sort_unstable.ensures.permutation c.sort_unstable.ensures.sorted) inside at c.loop-i.invariant
          (not_first_positive c.sort_unstable.new.self.items c.loop-i.i old) (not_first c.sort_unstable.new.self.items c.loop-i.i c.index-item.result.now inside at old))
    ]
  where
    never : false ≡ true → ⊥
    never e = cc

pub returns-clause-labels : goal.returns-clause-labels
returns-clause-labels c =
    all_labels c.args.keys.now c.sort_unstable.new.self.items c.loop-i.i c.loop-i.row c.loop-i.labels.items c.loop-i.ranks.items
    (are_items c.args.keys.now c.in_ok-items.items.items c.sort_unstable.new.self.items c.in_ok-items.ensures c.sort_unstable.ensures.permutation c.sort_unstable.ensures.sorted) (omega (arith, c.loop-i-test.false, c.len-i-end.ensures)) c.loop-i.invariant

pub returns-clause-ranks : goal.returns-clause-ranks
returns-clause-ranks c =
    all_ranks c.args.keys.now c.sort_unstable.new.self.items c.loop-i.i c.loop-i.row c.loop-i.labels.items c.loop-i.ranks.items
    (are_items c.args.keys.now c.in_ok-items.items.items c.sort_unstable.new.self.items c.in_ok-items.ensures c.sort_unstable.ensures.permutation c.sort_unstable.ensures.sorted) (omega (arith, c.loop-i-test.false, c.len-i-end.ensures)) c.loop-i.invariant
