use Rattle.std.proofs.Common.{◌∙◌, ◌*◌, ap, arith, take, drop}
use Rattle.std.specs.Option.{option_copied}
use Rattle.c_unit.specs.Meaning.{fractions_of}
use Rattle.assembly.specs.Assembly.{runs_of, tensor_on, entries_from}
use Rattle.assembly.proofs.StoredLaws.{entries_same}
use Rattle.assembly.proofs.stored.store.Goals as goal

pub returns-clause-entries : goal.returns-clause-entries
returns-clause-entries c =
    let s = runs_of c.args.f.now c.args.m.now c.args.coefs.now in
    let size = c.args.f.now.plain.a in
    entries_same (option_copied c.args.rows) (option_copied c.args.cols) (λ k. take size (drop (k * size) (fractions_of c.in_ok-run_cells.field-0.items))) (tensor_on s) 0 c.cells-cells.result
    (λ j a b. c.in_ok-run_cells.ensures.values j (omega (arith, b, c.cells-cells.ensures)))
    ∙ ap (entries_from (option_copied c.args.rows) (option_copied c.args.cols) (tensor_on s) 0) c.cells-cells.ensures
