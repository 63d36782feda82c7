use Rattle.std.proofs.Common.{◌≡◌, length, drop, sym, refl, ◌∙◌, rules, arith}
use Rattle.mesh_in.specs.CellLine.{cell_size}
use Rattle.mesh_in.specs.Line.{words}
use Rattle.mesh_in.proofs.StepLemmas.{cell_pushed, length-read}
use Rattle.mesh_in.proofs.rows.push_cell.Goals as goal

pub split_at-requires-2 : goal.split_at-requires-2
split_at-requires-2 c =
    let before : c.len-before.result ≡ length c.args.numbers.now.items = search rules in
    let read : length (drop (length c.args.numbers.now.items) c.push_numbers.new.numbers.items) ≡ cell_size c.args.header =
    length-read c.args.header c.args.numbers.now.items c.push_numbers.new.numbers.items (words c.args.line.text.now) (rw c.cell_size.ensures at c.in_ok-push_numbers.ensures.ok) in
    rw (c.split_at.ensures.back, c.deref.ensures.value, before, c.dim.ensures) (omega (arith, read))

pub returns-clause-ok : goal.returns-clause-ok
returns-clause-ok c =
    let before : c.len-before.result ≡ length c.args.numbers.now.items = search rules in
    cell_pushed c.args.header c.args.numbers.now.items c.push_numbers.new.numbers.items c.split_at-2.result.0.now (words c.args.line.text.now)
    (rw c.cell_size.ensures at c.in_ok-push_numbers.ensures.ok) (rw (c.split_at-2.ensures.front, c.split_at.ensures.back, c.deref.ensures.value, before, c.dim.ensures) refl)
    (sym c.are_below.ensures ∙ c.if-not-are_below.false) (sym c.is_distinct.ensures ∙ c.if-not-is_distinct.false)
