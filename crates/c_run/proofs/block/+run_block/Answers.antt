use Rattle.std.proofs.Common.{rules, arith, ◌≡◌, ◌∙◌, sym, ap, ap₂, subst, ◌+◌, ◌<◌, drop, length}
use Rattle.c_unit.specs.declared.unit.CStmt.TheViews as View
use Rattle.c_unit.specs.Meaning.{run_list, tables_of, further}
use Rattle.c_run.specs.Answer.{end_of, numbered, slots_of}
use Rattle.c_run.specs.Busy.{IsListed, inner_of}
use Rattle.c_run.proofs.Listed.{Opens, inner-For, nothing_more, opened_at, taken_length}
use Rattle.c_run.proofs.Runs.{left_at, loop_begins, loop_ends, nothing_left, starts, statement_done, statement_stops, turn, turn_done, turn_stops}
use Rattle.c_run.proofs.block.+run_block.Goals as goal

pub returns-in_default : goal.returns-in_default
returns-in_default t c =
    let body = c.args.body.now in
    let i = c.all.invariant in
    let S = slots_of c.args.from.now.x.now c.args.from.now.w.now c.all.t c.all.a in
    sym (ap numbered (i.2 ∙ nothing_left body (tables_of c.args.from.now.tables.now) c.args.is.depth c.args.is.of i.0 S (nothing_more body c.all.rest.now i.0 i.1 c.in_default.ensures.cases)))

pub split_at-requires : goal.split_at-requires
split_at-requires t c = (opened_at c.args.body.now c.all.rest.now c.all.invariant.0 c.in-Some.first.now c.in-Some.behind.now c.all.invariant.1 c.in-Some.ensures.cases.0).fits

pub bounds-body-first : goal.bounds-body-first
bounds-body-first t c = (opened_at c.args.body.now c.all.rest.now c.all.invariant.0 c.in-Some.first.now c.in-Some.behind.now c.all.invariant.1 c.in-Some.ensures.cases.0).below

pub offset_bounds-body-first : goal.offset_bounds-body-first
offset_bounds-body-first t c =
    let below : c.in-Some.first.now.index < length c.args.body.now
    = (opened_at c.args.body.now c.all.rest.now c.all.invariant.0 c.in-Some.first.now c.in-Some.behind.now c.all.invariant.1 c.in-Some.ensures.cases.0).below in
    search (rules, below)

pub loop-i-init : goal.loop-i-init
loop-i-init t c =
    let body = c.args.body.now in
    let ks = tables_of c.args.from.now.tables.now in
    let S = slots_of c.args.from.now.x.now c.args.from.now.w.now c.all.t c.all.a in
    let o = opened_at body c.all.rest.now c.all.invariant.0 c.in-Some.first.now c.in-Some.behind.now c.all.invariant.1 c.in-Some.ensures.cases.0 in
    let inner = c.as_slice-inner.result.now in
    let loop = c.in-For.is ∙ ap (λ l. View.For c.in-For.turns l) (sym c.as_slice-inner.ensures) in
    let within = o.within c.index-body-first.result c.index-body-first.is in
    record {
      listed = subst (λ b. IsListed 0 b c.split_at.result.0.now) (ap inner_of loop ∙ inner-For c.in-For.turns inner) (subst (IsListed 0 (inner_of c.index-body-first.result)) (sym c.split_at.ensures.front) within);
      same = c.all.invariant.2 ∙ o.same ks c.args.is.depth c.args.is.of S
          ∙ loop_begins body ks c.args.is.depth c.args.is.of c.in-Some.first.now.index S c.index-body-first.result c.in-For.turns inner o.below c.index-body-first.is loop;
    }

pub slice_bounds-written-end : goal.slice_bounds-written-end
slice_bounds-written-end t c =
    taken_length c.args.body.now c.in-Some.first.now.index
    (opened_at c.args.body.now c.all.rest.now c.all.invariant.0 c.in-Some.first.now c.in-Some.behind.now c.all.invariant.1 c.in-Some.ensures.cases.0).below

pub returns-then-not-is_good : goal.returns-then-not-is_good
returns-then-not-is_good t c =
    let body = c.args.body.now in
    let ks = tables_of c.args.from.now.tables.now in
    let S = slots_of c.args.from.now.x.now c.args.from.now.w.now c.loop-i.t c.loop-i.a in
    let S' = slots_of c.args.from.now.x.now c.args.from.now.w.now c.run_block-r.new.t c.run_block-r.new.a in
    let inner = c.as_slice-inner.result.now in
    let ran : end_of c.run_block-r.result S' ≡ numbered (turn inner ks c.args.is.depth c.args.is.of c.loop-i.i S) =
    c.run_block-r.ensures ∙ ap₂ (λ d is. numbered (run_list inner ks d is S)) c.within.ensures.depth c.within.ensures.turns in
    c.further-then-not-is_good.ensures S'
    ∙ ap₂ (λ n e. numbered (further n e)) c.written.ensures (c.further.ensures S')
    ∙ sym (ap numbered c.loop-i.invariant.same
    ∙ turn_stops body ks c.args.is.depth c.args.is.of c.in-Some.first.now.index inner c.in-For.turns c.loop-i.i S S' c.run_block-r.result c.loop-i-test.true ran (sym c.is_good.ensures ∙ c.if-not-is_good.true))

pub loop-i-preserved : goal.loop-i-preserved
loop-i-preserved t c =
    let body = c.args.body.now in
    let ks = tables_of c.args.from.now.tables.now in
    let S = slots_of c.args.from.now.x.now c.args.from.now.w.now c.loop-i.t c.loop-i.a in
    let S' = slots_of c.args.from.now.x.now c.args.from.now.w.now c.run_block-r.new.t c.run_block-r.new.a in
    let inner = c.as_slice-inner.result.now in
    let ran : end_of c.run_block-r.result S' ≡ numbered (turn inner ks c.args.is.depth c.args.is.of c.loop-i.i S) =
    c.run_block-r.ensures ∙ ap₂ (λ d is. numbered (run_list inner ks d is S)) c.within.ensures.depth c.within.ensures.turns in
    record {
      listed = c.loop-i.invariant.listed;
      same = c.loop-i.invariant.same
          ∙ turn_done body ks c.args.is.depth c.args.is.of c.in-Some.first.now.index inner c.in-For.turns c.loop-i.i S S' c.run_block-r.result c.loop-i-test.true ran (sym c.is_good.ensures ∙ c.if-not-is_good.false);
    }

pub slice_bounds-written-end-then-not-is_good-2 : goal.slice_bounds-written-end-then-not-is_good-2
slice_bounds-written-end-then-not-is_good-2 t c =
    taken_length c.args.body.now c.in-Some.first.now.index
    (opened_at c.args.body.now c.all.rest.now c.all.invariant.0 c.in-Some.first.now c.in-Some.behind.now c.all.invariant.1 c.in-Some.ensures.cases.0).below

pub returns-then-not-is_good-2 : goal.returns-then-not-is_good-2
returns-then-not-is_good-2 t c =
    let body = c.args.body.now in
    let ks = tables_of c.args.from.now.tables.now in
    let S = slots_of c.args.from.now.x.now c.args.from.now.w.now c.all.t c.all.a in
    let S' = slots_of c.args.from.now.x.now c.args.from.now.w.now c.run_statement-r.new.t c.run_statement-r.new.a in
    let o = opened_at body c.all.rest.now c.all.invariant.0 c.in-Some.first.now c.in-Some.behind.now c.all.invariant.1 c.in-Some.ensures.cases.0 in
    c.further-then-not-is_good-2.ensures S'
    ∙ ap (λ n. numbered (further n (end_of c.run_statement-r.result S'))) c.written-then-not-is_good-2.ensures
    ∙ sym (ap numbered (c.all.invariant.2 ∙ o.same ks c.args.is.depth c.args.is.of S)
    ∙ statement_stops body ks c.args.is.depth c.args.is.of c.in-Some.first.now.index S S' c.index-body-first.result c.run_statement-r.result o.below c.index-body-first.is (c.run_statement-r.ensures c.args.is.depth)
    (sym c.is_good-in_default-body.ensures ∙ c.if-not-is_good-2.true))

pub all-preserved-after-loop-i : goal.all-preserved-after-loop-i
all-preserved-after-loop-i t c =
    let body = c.args.body.now in
    let ks = tables_of c.args.from.now.tables.now in
    let S = slots_of c.args.from.now.x.now c.args.from.now.w.now c.loop-i.t c.loop-i.a in
    let o = opened_at body c.all.rest.now c.all.invariant.0 c.in-Some.first.now c.in-Some.behind.now c.all.invariant.1 c.in-Some.ensures.cases.0 in
    let index = c.in-Some.first.now.index in
    let loop = c.in-For.is ∙ ap (λ l. View.For c.in-For.turns l) (sym c.as_slice-inner.ensures) in (
      index + 1,
      subst (IsListed (index + 1) (drop (index + 1) body)) (sym c.split_at.ensures.back) o.rest,
      c.loop-i.invariant.same
          ∙ loop_ends body ks c.args.is.depth c.args.is.of index S c.index-body-first.result c.in-For.turns c.as_slice-inner.result.now c.loop-i.i o.below c.index-body-first.is loop c.loop-i-test.false,
      omega (arith, c.all.invariant.3, ap length c.in-Some.ensures.cases.0, c.split_at.ensures.back_len, o.fits),
    )

pub all-preserved : goal.all-preserved
all-preserved t c =
    let body = c.args.body.now in
    let ks = tables_of c.args.from.now.tables.now in
    let S = slots_of c.args.from.now.x.now c.args.from.now.w.now c.all.t c.all.a in
    let S' = slots_of c.args.from.now.x.now c.args.from.now.w.now c.run_statement-r.new.t c.run_statement-r.new.a in
    let o = opened_at body c.all.rest.now c.all.invariant.0 c.in-Some.first.now c.in-Some.behind.now c.all.invariant.1 c.in-Some.ensures.cases.0 in
    let index = c.in-Some.first.now.index in (
      index + 1,
      subst (IsListed (index + 1) (drop (index + 1) body)) (sym c.split_at.ensures.back) o.rest,
      c.all.invariant.2 ∙ o.same ks c.args.is.depth c.args.is.of S
          ∙ statement_done body ks c.args.is.depth c.args.is.of index S S' c.index-body-first.result c.run_statement-r.result o.below c.index-body-first.is (c.run_statement-r.ensures c.args.is.depth)
          (sym c.is_good-in_default-body.ensures ∙ c.if-not-is_good-2.false),
      omega (arith, c.all.invariant.3, ap length c.in-Some.ensures.cases.0, c.split_at.ensures.back_len, o.fits),
    )

pub run_block-r-requires : goal.run_block-r-requires
run_block-r-requires t c =
    let o = opened_at c.args.body.now c.all.rest.now c.all.invariant.0 c.in-Some.first.now c.in-Some.behind.now c.all.invariant.1 c.in-Some.ensures.cases.0 in
    (omega (arith, c.decreases, c.all.invariant.3, ap length c.in-Some.ensures.cases.0, c.split_at.ensures.front_len, o.fits), c.loop-i.invariant.listed)
