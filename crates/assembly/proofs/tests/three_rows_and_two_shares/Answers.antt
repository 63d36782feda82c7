use Rattle.std.proofs.Common.{◌≡◌, arith}
use Rattle.std.proofs.lemmas.Bool.Decides.{nat_tests}
use Rattle.assembly.proofs.FitLaws.{fits_by_number}
use Rattle.assembly.proofs.tests.three_rows_and_two_shares.Goals as goal

pub agrees-requires : goal.agrees-requires
agrees-requires g c =
    let two : c.in_ok-layout.layout.rows.local ≡ 2 = grind (arith, nat_tests) in
    fits_by_number c.in_ok-layout.layout (record { plain = c.in_ok-mass.field-0; marked = c.new-3.result }) c.in_ok-mesh.mesh c.in_ok-map.map _ 2 c.in_ok-layout.ensures.rows c.in_ok-layout.ensures.cols
    (omega (arith, c.value_size.ensures.size, c.value_size.ensures.some)) two c.in_ok-mass.ensures c.new-3.ensures.items c.in_ok-map.ensures.cells c.in_ok-map.ensures.local
