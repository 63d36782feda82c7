use Rattle.std.proofs.Common.{rules, ◌≡◌, ◌∙◌, ℕ, zero, suc, ◌<◌, sym, ap, subst, refl, List, [], ◌∷◌, ◌++◌, append_assoc, drop, arith, false}
use Rattle.std.proofs.lemmas.List.{append-nil}
use Rattle.c_unit.specs.declared.unit.CStmt.TheViews as View
use Rattle.c_unit.specs.declared.unit.CStmt.TheViews.{the_lemmas}
use Rattle.c_run.specs.declared.busy.Busy.{Busy}
use Rattle.c_run.specs.Answer.{is_loop}
use Rattle.c_run.specs.Busy.{IsListed, entry, with_inside}
use Rattle.c_run.proofs.Listed.{no_turns_listed, one_listed, loop_listed, all_are_listed, next_listed, statement_added}
use Rattle.c_run.proofs.busy.+list.Goals as goal

pub list_statement-returns-then-turns-eq0 : goal.list_statement-returns-then-turns-eq0
list_statement-returns-then-turns-eq0 t c = ([], sym (append-nil c.args.busy.now.items), λ cs more rest. no_turns_listed c.args.index c.args.s.now c.in-For.turns c.in-For.body c.in-For.is c.if-turns-eq0.true cs more rest)

pub list_statement-returns-in_ok-push-in_default : goal.list_statement-returns-in_ok-push-in_default
list_statement-returns-in_ok-push-in_default t c =
    let simple : is_loop c.args.s.now ≡ false = search (rules, the_lemmas, c.in_default.not-For) in
    (entry c.args.index 0 ∷ [], c.in_ok-push-in_default.ensures.items, λ cs more rest. one_listed c.args.index c.args.s.now simple cs more rest)

pub list_block-returns : goal.list_block-returns
list_block-returns t c =
    let i = c.loop-index.invariant in
    let done : IsListed 0 c.args.body.now (i.0 ++ []) = i.2 [] (all_are_listed c.args.body.now c.loop-index.index c.loop-index-test.false) in
    (i.0, i.1, subst (IsListed 0 c.args.body.now) (append-nil i.0) done)

pub list_statement-returns-else-turns-eq0 : goal.list_statement-returns-else-turns-eq0
list_statement-returns-else-turns-eq0 t c =
    statement_added c.list_loop.result c.args.index c.args.s.now c.in-For.turns c.as_slice.result.now c.args.busy.now.items c.list_loop.new.busy.items
    (c.in-For.is ∙ ap (λ b. View.For c.in-For.turns b) (sym c.as_slice.ensures)) (positive c.in-For.turns c.if-turns-eq0.false) c.list_loop.ensures
  where
    positive : (n : ℕ) → (n ≡ 0 → ⊥) → 0 < n
    positive zero h = absurd (h refl)
    positive (suc n) h = omega arith
