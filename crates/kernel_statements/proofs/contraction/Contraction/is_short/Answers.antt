use Rattle.std.proofs.Common.{◌≡◌, ◌+◌, ◌*◌, ap, ap₂, ◌∙◌, arith}
use Rattle.std.specs.Prelude.{nat_le}
use Rattle.c_unit.specs.Meaning.{fractions_of, written_list}
use Rattle.kernel_runs.specs.Planned.{straight_rows}
use Rattle.kernel_statements.specs.Emitted.{cut}
use Rattle.kernel_statements.specs.Placed.{placed_code}
use Rattle.kernel_statements.proofs.contraction.Contraction.is_short.Goals as goal

pub returns : goal.returns
returns c =
    let k = c.args.self.now in
    let rows = c.straight_statements.ensures.written 32 0 0 0 0
    ∙ ap (λ xs. written_list (straight_rows 32 0 0 0 k.columns 0 (cut k.columns k.rows (fractions_of xs)))) c.as_slice.ensures.value in
    let entries = c.entry_statements.ensures.written 0 ∙ ap (λ es. written_list (placed_code 32 0 es)) c.as_slice-2.ensures.value in
    ap₂ nat_le (omega (arith, c.len.ensures, c.len-2.ensures, rows, entries)) (omega (arith, c.len.ensures, c.len-2.ensures))
