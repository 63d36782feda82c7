use Rattle.std.proofs.Common.{sym, subst}
use Rattle.assembly.specs.Stored.{AreAllRows, rows_of, cols_of, tensor_at}
use Rattle.assembly.proofs.WholeLaws.{none_beyond}
use Rattle.assembly.proofs.lent_rows.Rows.new.Goals as goal

pub returns-clause-within : goal.returns-clause-within
returns-clause-within c =
    let s = c.in_ok-stored.stored in
    none_beyond (rows_of s) (cols_of s) (tensor_at s) s.cells s.height s.width c.in_ok-stored.ensures.stored.rows c.in_ok-stored.ensures.stored.cols
    (subst AreAllRows (sym c.in_ok-stored.ensures.maps.0) c.count_of.ensures.all)
