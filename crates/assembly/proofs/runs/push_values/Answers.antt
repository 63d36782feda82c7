use Rattle.std.proofs.Common.{◌∙◌, ◌++◌, [], ap, sym, arith, map, get_or, ℕ}
use Rattle.std.proofs.lemmas.Option.{get_or_from_slice_get}
use Rattle.algebra.specs.Fraction.{Fraction, zero_fraction}
use Rattle.c_unit.specs.Meaning.{fractions_of}
use Rattle.assembly.proofs.GatherLaws.{values_more, values_end}
use Rattle.assembly.proofs.runs.push_values.Goals as goal

pub loop-row-preserved : goal.loop-row-preserved
loop-row-preserved c =
    let n = c.of_cell-rows.ensures.in_range c.loop-row.row-index 0 (omega arith) in
    values_more c.args.coef.now.values.items c.of_cell-rows.result.now c.loop-row.row-index c.loop-row.w.items c.index.result.now c.push.new.self.items _ (omega arith)
    (omega (arith, n, c.requires.data)) c.index.ensures c.in_ok-push.ensures.items c.loop-row.invariant

pub returns : goal.returns
returns c =
    let f : ℕ → Fraction = λ r. get_or (fractions_of c.args.coef.now.values.items) r zero_fraction in
    values_end f c.of_cell-rows.result.now c.loop-row.row-index c.loop-row.w.items _ (omega arith) c.loop-row.invariant
    ∙ ap (λ rows. fractions_of c.args.w.now.items ++ map f rows) (sym (get_or_from_slice_get c.args.coef.now.map.cells c.args.k c.of_cell-rows.result.now [] c.of_cell-rows.ensures.rows))
