use Rattle.std.proofs.Common.{◌≡◌, ◌∷◌, [], ap, ◌∙◌}
use Rattle.std.proofs.lemmas.Option.{get_or_from_slice_get}
use Rattle.std.specs.Option.{option_copied}
use Rattle.assembly.specs.Assembly.{argument_rows}
use Rattle.assembly.specs.Stored.{cols_of}
use Rattle.assembly.proofs.StoredLaws.{adds_as}
use Rattle.assembly.proofs.stored.Stored.add_place.Goals as goal

pub returns-in-Some-clause-added : goal.returns-in-Some-clause-added
returns-in-Some-clause-added c =
    let k = c.args.place.cell in
    let cols : argument_rows (cols_of c.args.self.now) k ≡ c.of_cell.result.now
    = ap (λ o. argument_rows (option_copied o) k) c.in-Some.is ∙ get_or_from_slice_get c.in-Some.map.now.cells k c.of_cell.result.now [] c.of_cell.ensures.rows in
    λ row. adds_as row _ _ _ _ _ _ cols c.local_row-values.ensures.values (c.add_row.ensures.added row)

pub returns-in-None-clause-added : goal.returns-in-None-clause-added
returns-in-None-clause-added c =
    let cols : argument_rows (cols_of c.args.self.now) c.args.place.cell ≡ 0 ∷ []
    = ap (λ o. argument_rows (option_copied o) c.args.place.cell) c.in-None.is in
    λ row. adds_as row _ _ _ _ _ _ cols c.local_row-values.ensures.values (c.add_row-in-None.ensures.added row)
